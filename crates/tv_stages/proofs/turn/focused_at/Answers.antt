use Rattle.std.proofs.Common.{[]}
use Rattle.std.proofs.lemmas.List.Elements.{All-head}
use Rattle.tv_step_laws.specs.Shaped.{IsShaped}
use Rattle.tv_step_laws.specs.Transfer.{choices_at}
use Rattle.tv_stages.specs.Tasks.{task_program}
use Rattle.tv_stages.specs.Turns.{turn_place}
use Rattle.tv_stages.proofs.Coercing.{tables-over}
use Rattle.tv_stages.proofs.Turning.{at-focused}
use Rattle.tv_stages.proofs.turn.focused_at.Goals as goal

pub stage-requires-clause-shaped : goal.stage-requires-clause-shaped
stage-requires-clause-shaped c =
    All-head (IsShaped (task_program c.args.x.now)) c.args.s.now [] c.requires.shaped

pub choices-requires-clause-over : goal.choices-requires-clause-over
choices-requires-clause-over c =
    tables-over c.args.x.now.program.now c.in_ok-structures.structures
    (choices_at c.args.s.now (turn_place c.args.turn.now)) c.in_ok-structures.ensures.structures

pub returns-clause-focused : goal.returns-clause-focused
returns-clause-focused c =
    at-focused (task_program c.args.x.now) (turn_place c.args.turn.now) c.args.s.now
    (record { at_hand = c.in_ok-at_hand.at_hand; choices = c.in_ok-choices.choices }) c.in_ok-structures.structures
    c.in_ok-at_hand.ensures.value c.in_ok-choices.ensures.structures c.in_ok-structures.ensures.structures
    c.in_ok-choices.ensures.fates
