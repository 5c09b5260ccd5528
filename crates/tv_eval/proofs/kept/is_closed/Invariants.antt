use Rattle.std.proofs.Common.{ℕ, ◌≡◌, ◌<◌, ◌⊎◌}
use Rattle.tv_model.specs.Form.{form_of, IsFree}
use Rattle.tv_eval.proofs.kept.is_closed.Given as goal

-- of the variables so far only the closure's own are free in the body
abbrev pub invariant-loop-v : goal.invariant-loop-v
invariant-loop-v l = (v : ℕ) → v < l.v → IsFree v (form_of l.edges.body.now) → (v ≡ l.edges.left.0) ⊎
    (v ≡ l.edges.right.0)
