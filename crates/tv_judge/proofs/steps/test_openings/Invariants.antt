use Rattle.std.proofs.Common.{◌≡◌, ◌∷◌, []}
use Rattle.tv_judge.specs.Found.{IsTestedTo}
use Rattle.tv_judge.specs.Setting.{case_in}
use Rattle.tv_judge.proofs.steps.test_openings.Given as goal

abbrev pub invariant-loop-number : goal.invariant-loop-number
invariant-loop-number l = record {
  done : IsTestedTo (case_in l.x) l.x.asked (0 ∷ l.number ∷ []) l.found;
  same : l.stepper ≡ l.fn.stepper;
}
