use Rattle.std.proofs.Common.{◌≡◌, ◌≤◌, ◌+◌, min}
use Rattle.tv_model.specs.Form.{form_of, height}
use Rattle.tv_delta_laws.specs.Simple.{nodes}
use Rattle.tv_delta_form.proofs.size.counted.Given as goal

-- what is left with the quantifiers so far is as large as the formula
abbrev pub invariant-loop-g : goal.invariant-loop-g
invariant-loop-g l =
    (min (nodes (form_of l.f)) 65537 ≡ min (nodes (form_of l.body) + l.count) 65537)
    × (min (height (form_of l.f)) 1001 ≡ min (height (form_of l.body) + l.count) 1001)
    × (height (form_of l.body) ≤ height (form_of l.f))

abbrev pub decreases-loop-g : goal.decreases-loop-g
decreases-loop-g l = nodes (form_of l.body)
