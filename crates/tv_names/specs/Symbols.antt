-- The names of predicates, and the numbers that they have.
use Rattle.std.specs.Prelude.{ℕ, ◌+◌, Bool, ◌||◌, List, [], ◌∷◌, Option, Some, None, codes, if◌then◌else◌}
use Rattle.std.specs.Option.{option_map}
use Rattle.std.specs.Str.{bytes_eq}

abbrev pub is_sm : List ℕ → Bool
is_sm name = bytes_eq name (codes "sm")

abbrev pub is_new_word : List ℕ → Bool
is_new_word name = bytes_eq name (codes "isNew")

-- the names that no predicate may have
abbrev pub is_reserved : List ℕ → Bool
is_reserved name = is_sm name || is_new_word name

-- a predicate that is declared
pub record SymbolForm : Type 0 where
  pub name : List ℕ
  pub arity : ℕ

-- the number of a predicate, and its arity
pub record KnownForm : Type 0 where
  pub pred : ℕ
  pub arity : ℕ

abbrev pub behind_one : KnownForm → KnownForm
behind_one known = record { pred = known.pred + 1; arity = known.arity }

-- the predicate of this name; its number is its place
abbrev pub symbol_of : List ℕ → List SymbolForm → Option KnownForm
symbol_of name [] = None
symbol_of name (s ∷ symbols) =
    if bytes_eq name s.name then Some (record { pred = 0; arity = s.arity })
    else option_map behind_one (symbol_of name symbols)
