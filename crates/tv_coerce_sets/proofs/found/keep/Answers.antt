use Rattle.std.proofs.Common.{refl}
use Rattle.tv_coerce_sets.proofs.found.keep.Goals as goal

pub returns : goal.returns
returns c = record {
  kept = record { preds = c.args.preds; set = c.in_ok-set.set };
  last = c.in_ok-push.ensures.items;
  preds_are = refl;
  set_is = c.in_ok-set.ensures.cases;
}
