use Rattle.std.proofs.Common.{◌≡◌, ◌≤◌}
use Rattle.tv_model.specs.Form.{form_of, height}
use Rattle.tv_model.specs.Quantifiers.{bound_by}
use Rattle.tv_model.proofs.quantifiers.at_head.Given as goal

-- the quantifiers so far stand over what is left
abbrev pub invariant-loop-body : goal.invariant-loop-body
invariant-loop-body l =
    (bound_by l.bindings.items (form_of l.body) ≡ form_of l.f) × (height (form_of l.body) ≤ height (form_of l.f))
