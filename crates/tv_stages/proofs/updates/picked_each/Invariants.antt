use Rattle.std.proofs.Common.{◌≡◌, map, All}
use Rattle.tv_stages_laws.specs.declared.record.PickedUpdate.{PickedUpdate}
use Rattle.tv_stages_laws.specs.Stages.{IsPickedUpdate}
use Rattle.tv_stages.specs.Tasks.{course_action, task_program}
use Rattle.tv_stages.proofs.updates.picked_each.Given as goal

abbrev pub invariant-loop-individuals : goal.invariant-loop-individuals
invariant-loop-individuals l = record {
  individuals : map (λ (u : PickedUpdate). u.individuals) l.each ≡ l.yielded;
  updates : All (IsPickedUpdate (task_program l.x) l.x.mode (course_action l.case.course.now) l.case.from.now)
      l.each;
  same : l.tools ≡ l.fn.tools;
}
