use Rattle.std.proofs.Common.{◌<◌, List, sym, subst}
use Rattle.std.specs.List.{AllByRecursion}
use Rattle.tv_model.specs.declared.formula.Var.{Var}
use Rattle.tv_replay_step.proofs.Turning.{none-here, picks-below, puts-here}
use Rattle.tv_replay_step.proofs.step.make_turn.Goals as goal

pub put_picked-requires : goal.put_picked-requires
put_picked-requires c =
    subst (λ (vs : List Var). AllByRecursion (λ (v : Var). v.0 < 32) vs) (sym c.as_slice-vars.ensures)
    (picks-below c.args.turn.now c.args.s.now c.args.step.now c.args.scratch.now c.requires.ready)

pub turn_picked-requires-clause-picked : goal.turn_picked-requires-clause-picked
turn_picked-requires-clause-picked c = (
  c.new.result,
  c.new.ensures,
  puts-here c.args.turn.now c.args.s.now c.args.step.now c.size.result c.as_slice-vars.result.now c.as_slice-chosen.result.now c.new.result
      c.in-Some.picks c.size.ensures.size c.as_slice-vars.ensures c.as_slice-chosen.ensures c.in-Some.ensures.some,
)

pub returns-in-None-clause-halt : goal.returns-in-None-clause-halt
returns-in-None-clause-halt c =
    none-here c.args.turn.now c.args.s.now c.args.step.now c.size.result c.as_slice-vars.result.now c.as_slice-chosen.result.now
    c.size.ensures.size c.as_slice-vars.ensures c.as_slice-chosen.ensures c.in-None.ensures.none
