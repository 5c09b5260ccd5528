-- A text and the names that are declared in it.
use Rattle.std.specs.Prelude.{ℕ, List, length, ◌<◌, ◌^◌}
use Rattle.tv_tree.specs.Names.{names_of}
use Rattle.tv_source_names.specs.declared.number.Scope.{Scope}

abbrev pub variables_of : Scope → List (List ℕ)
variables_of scope = names_of scope.variables.now.keys

abbrev pub fields_of : Scope → List (List ℕ)
fields_of scope = names_of scope.fields.now.keys

-- so few that a number of 32 bits tells each
pub record HasFew (scope : Scope) : Type 0 where
  pub variables : length scope.variables.now.keys < 2 ^ 32
  pub fields : length scope.fields.now.keys < 2 ^ 32
