use Rattle.std.proofs.Common.{◌∙◌, ap, map, sym}
use Rattle.tv_model.specs.Program.{update_of}
use Rattle.tv_model.proofs.Lists.{map-compose}
use Rattle.tv_step.proofs.picks.reach_of.Goals as goal

pub returns : goal.returns
returns c = (
  sym c.moves.ensures ∙ c.if-moves.false,
  ap (map (λ w. w.pred.0)) c.as_slice.ensures
      ∙ sym (map-compose update_of (λ w. w.pred) c.args.job.now.action.now.updates),
  c.as_slice-2.ensures,
)
