use Rattle.std.proofs.Common.{◌≡◌, ◌∷◌, []}
use Rattle.tv_judge.specs.Found.{IsTestedTo}
use Rattle.tv_judge.specs.Setting.{case_in}
use Rattle.tv_judge.proofs.steps.test_report.Given as goal

abbrev pub invariant-loop-edge : goal.invariant-loop-edge
invariant-loop-edge l = record {
  done : IsTestedTo (case_in l.x) l.x.asked (1 ∷ l.edge ∷ []) l.found;
  same : l.stepper ≡ l.fn.stepper;
}
