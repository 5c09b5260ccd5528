use Rattle.std.proofs.Common.{◌≡◌}
use Rattle.tv_step_laws.specs.Parts.{AreFrom}
use Rattle.tv_step.specs.Ending.{Becomes}
use Rattle.tv_step.specs.Setting.{form_in}
use Rattle.tv_step.specs.Steps.{Adds}
use Rattle.tv_step.proofs.coerced.coerce_each.Given as goal

abbrev pub invariant-loop-s : goal.invariant-loop-s
invariant-loop-s l = record {
  out : Adds (AreFrom (Becomes l.ending (form_in l.x))) l.yielded l.fn.out l.out;
  scratch : l.scratch ≡ l.fn.scratch;
}
