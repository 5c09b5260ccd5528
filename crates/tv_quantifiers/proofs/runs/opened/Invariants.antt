use Rattle.std.proofs.Common.{◌≤◌}
use Rattle.tv_model.specs.Form.{form_of, height}
use Rattle.tv_quantifiers.specs.Quantified.{quantified}
use Rattle.tv_quantifiers.specs.Runs.{IsOpened}
use Rattle.tv_quantifiers.proofs.runs.opened.Given as goal

-- the run so far over what is left stands for the whole
abbrev pub invariant-loop-w : goal.invariant-loop-w
invariant-loop-w l =
    IsOpened (quantified l.fn.quantifier l.fn.v.0 (form_of l.f)) l.levels.items (form_of l.part)
    × (height (form_of l.part) ≤ height (form_of l.f))

abbrev pub decreases-loop-w : goal.decreases-loop-w
decreases-loop-w l = height (form_of l.part)
