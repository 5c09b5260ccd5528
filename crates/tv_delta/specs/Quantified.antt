-- Deltas under quantifiers one in the other.
use Rattle.std.specs.Prelude.{List, [], ◌∷◌, Option}
use Rattle.tv_delta_laws.specs.Deltas.{Delta, some, every}
use Rattle.tv_model.specs.declared.quantifiers.Binding.{Binding}
use Rattle.tv_model.specs.declared.quantifiers.Binding.TheVariants.{Exists, Forall}

-- the delta of a formula under the quantifier by that of the formula
abbrev pub quantified : Binding → Option Delta → Option Delta
quantified (Exists v) o = some v.0 o
quantified (Forall v) o = every v.0 o

-- the same under quantifiers, of which the first stands outermost
abbrev pub quantified_by : List Binding → Option Delta → Option Delta
quantified_by [] o = o
quantified_by (binding ∷ bindings) o = quantified binding (quantified_by bindings o)
