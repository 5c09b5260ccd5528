use Rattle.std.proofs.Common.{◌≡◌, length}
use Rattle.tv_model.specs.Form.{form_of}
use Rattle.tv_names.specs.Quantifiers.{quantifier_of}
use Rattle.tv_names.specs.Binding.{over_all}
use Rattle.tv_names.proofs.binding.Quantifier.over_all.Given as goal

-- the quantifiers that are left belong over the formula so far
abbrev pub invariant-loop-v : goal.invariant-loop-v
invariant-loop-v l =
    over_all (quantifier_of l.self) l.vars.items (form_of l.f)
    ≡ over_all (quantifier_of l.self) l.initial.vars.items (form_of l.fn.body)

abbrev pub decreases-loop-v : goal.decreases-loop-v
decreases-loop-v l = length l.vars.items
