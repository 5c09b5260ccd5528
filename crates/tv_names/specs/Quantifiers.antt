-- The formulas of the two quantifiers.
use Rattle.std.specs.Prelude.{ℕ}
use Rattle.tv_model.specs.Form.{Form, FExists, FForall}
use Rattle.tv_names.specs.declared.binding.Quantifier.{Quantifier}
use Rattle.tv_names.specs.declared.binding.Quantifier.TheVariants.{Exists, Forall}

abbrev pub quantifier_of : Quantifier → ℕ → Form → Form
quantifier_of Exists v f = FExists v f
quantifier_of Forall v f = FForall v f
