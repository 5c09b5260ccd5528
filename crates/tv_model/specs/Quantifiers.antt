-- Quantifiers one in the other.
use Rattle.std.specs.Prelude.{ℕ, List, [], ◌∷◌}
use Rattle.tv_model.specs.Form.{Form, FExists, FForall}
use Rattle.tv_model.specs.declared.formula.Var.{Var}
use Rattle.tv_model.specs.declared.quantifiers.Binding.{Binding}
use Rattle.tv_model.specs.declared.quantifiers.Binding.TheVariants.{Exists, Forall}

-- the formula under the quantifier
abbrev pub bound : Binding → Form → Form
bound (Exists v) f = FExists v.0 f
bound (Forall v) f = FForall v.0 f

-- the formula under quantifiers, of which the first stands outermost
abbrev pub bound_by : List Binding → Form → Form
bound_by [] f = f
bound_by (binding ∷ bindings) f = bound binding (bound_by bindings f)

abbrev pub bound_var : Binding → ℕ
bound_var (Exists v) = v.0
bound_var (Forall v) = v.0

-- the same quantifier of another variable
abbrev pub renamed : Binding → Var → Binding
renamed (Exists v) w = Exists w
renamed (Forall v) w = Forall w
