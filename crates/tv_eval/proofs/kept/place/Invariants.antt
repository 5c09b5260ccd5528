use Rattle.std.proofs.Common.{ℕ, ◌≡◌, ◌<◌}
use Rattle.tv_model.specs.Form.{form_of}
use Rattle.tv_eval.specs.Keeps.{StandsAt}
use Rattle.tv_eval.proofs.kept.place.Given as goal

-- the closure stands at none of the places so far
abbrev pub invariant-loop-k : goal.invariant-loop-k
invariant-loop-k l = (l.closures ≡ l.initial.closures)
    × ((k : ℕ) → k < l.k → ¬ StandsAt l.initial.closures k l.edges.left.0 l.edges.right.0 (form_of l.edges.body.now))
