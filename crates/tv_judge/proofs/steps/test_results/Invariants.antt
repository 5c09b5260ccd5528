use Rattle.std.proofs.Common.{◌∷◌, []}
use Rattle.tv_judge.specs.Found.{IsTestedTo}
use Rattle.tv_judge.specs.Setting.{case_in}
use Rattle.tv_judge.proofs.steps.test_results.Given as goal

abbrev pub invariant-loop-result : goal.invariant-loop-result
invariant-loop-result l = IsTestedTo (case_in l.x) l.x.asked (1 ∷ l.at.edge ∷ l.at.structure ∷ 1 ∷ l.result ∷ []) l.found
