use Rattle.std.proofs.Common.{◌≡◌, map, take, All}
use Rattle.tv_stages_laws.specs.declared.record.FocusedAt.{FocusedAt}
use Rattle.tv_stages_laws.specs.Stages.{IsFocusedAt}
use Rattle.tv_stages.specs.Tasks.{task_program}
use Rattle.tv_stages.specs.Turns.{turn_place}
use Rattle.tv_stages.proofs.turn.focused_each.Given as goal

abbrev pub invariant-loop-s : goal.invariant-loop-s
invariant-loop-s l = record {
  at_hand : map (λ (at : FocusedAt). at.at_hand) l.each ≡ take l.s-index l.at_hand;
  focused : All (IsFocusedAt (task_program l.x) (turn_place l.turn)) l.each;
  same : l.tools ≡ l.fn.tools;
}
