use Rattle.std.proofs.Common.{refl}
use Rattle.tv_eval_laws.proofs.laws.list_values_are_these.Goals as goal

pub returns : goal.returns
returns c = record {
  no_way_round = refl;
  head_to_itself = refl;
  head_to_others = refl;
  others_to_others = refl;
  others_to_head = refl;
  one_head = refl;
  one_of_others = refl;
}
