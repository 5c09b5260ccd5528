use Rattle.std.proofs.Common.{◌≡◌, ◌≤◌}
use Rattle.tv_model.specs.Form.{form_of, height}
use Rattle.tv_model.specs.Valid.{free_occurrences, without}
use Rattle.tv_names.specs.Picks.{unbound}
use Rattle.tv_names.proofs.picks.below.Given as goal

-- under the quantifiers so far the same is unbound
abbrev pub invariant-loop-body : goal.invariant-loop-body
invariant-loop-body l =
    (unbound l.inner.flags (free_occurrences (form_of l.body))
    ≡ unbound l.fn.bound.flags (without l.fn.v.0 (free_occurrences (form_of l.fn.f))))
    × (height (form_of l.body) ≤ height (form_of l.fn.f))
