-- Quantifiers.
use Rattle.std.specs.Prelude.{ℕ}
use Rattle.tv_kleene.specs.declared.K3.{K3}
use Rattle.tv_kleene.specs.Kleene.{negation_of}
use Rattle.tv_model.specs.Form.{Form, FExists, FForall}
use Rattle.tv_quantifiers.specs.declared.quantifier.Quantifier.{Quantifier}
use Rattle.tv_quantifiers.specs.declared.quantifier.Quantifier.TheVariants.{Exists, Forall}

-- the formula under the quantifier over v
abbrev pub quantified : Quantifier → (v : ℕ) → Form → Form
quantified Exists v f = FExists v f
quantified Forall v f = FForall v f

-- the value, negated for "for all"
abbrev pub turned : Quantifier → K3 → K3
turned Exists k = k
turned Forall k = negation_of k
