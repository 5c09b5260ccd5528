use Rattle.std.proofs.Common.{◌≡◌, ◌≤◌}
use Rattle.tv_model.specs.Form.{form_of, height}
use Rattle.tv_delta_laws.specs.Simple.{nodes}
use Rattle.tv_model.specs.Quantifiers.{bound_by}
use Rattle.tv_delta_form.proofs.heads.head_of.Given as goal

-- the quantifiers so far stand over what is left
abbrev pub invariant-loop-binding : goal.invariant-loop-binding
invariant-loop-binding l =
    (bound_by l.bindings.items (form_of l.body) ≡ form_of l.f) × (nodes (form_of l.body) ≤ nodes (form_of l.f))
    × (height (form_of l.body) ≤ height (form_of l.f))

abbrev pub decreases-loop-binding : goal.decreases-loop-binding
decreases-loop-binding l = nodes (form_of l.body)
