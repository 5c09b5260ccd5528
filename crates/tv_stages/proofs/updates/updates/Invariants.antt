use Rattle.std.proofs.Common.{◌≡◌, map, All}
use Rattle.tv_stages_laws.specs.declared.record.UpdatedAt.{UpdatedAt}
use Rattle.tv_stages_laws.specs.Stages.{IsUpdatedAt}
use Rattle.tv_stages.specs.Tasks.{course_action, task_program}
use Rattle.tv_stages.proofs.updates.updates.Given as goal

abbrev pub invariant-loop-s : goal.invariant-loop-s
invariant-loop-s l = record {
  at_hand : map (λ (at : UpdatedAt). at.at_hand) l.each ≡ l.yielded;
  updated : All (IsUpdatedAt (task_program l.x) l.x.mode (course_action l.course)) l.each;
  same : l.tools ≡ l.fn.tools;
}
