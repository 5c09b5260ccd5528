use Rattle.std.proofs.Common.{ℕ, ◌≡◌, ◌<◌}
use Rattle.tv_model.specs.Form.{form_of, IsFree}
use Rattle.tv_quantifiers.proofs.parts.lone.Given as goal

-- of the variables so far only the one that was found is free
abbrev pub invariant-loop-v : goal.invariant-loop-v
invariant-loop-v l = (w : ℕ) → w < l.v → IsFree w (form_of l.f) → w ≡ l.found
