-- The values of a formula for all individuals that one variable may stand for.
use Rattle.std.specs.Prelude.{ℕ, List, map}
use Rattle.std.specs.List.{range_with_len}
use Rattle.tv_kleene.specs.declared.K3.{K3}
use Rattle.tv_model.specs.Form.{Form}
use Rattle.tv_model.specs.Truth.{Assignment, put}
use Rattle.tv_structure_form.specs.StructureForm.{StructureForm, structure_of}
use Rattle.tv_eval_laws.specs.Value.{value, best_walk}
pub use Rattle.tv_quantifiers.specs.Words.{IsWordOf}

-- the value at each individual, put for v
abbrev pub values_along : StructureForm → Assignment → (v : ℕ) → Form → List K3
values_along s a v f = map (λ u. value (structure_of s) (put a v u) f) (range_with_len 0 s.size)

-- the word has the formula's values at the individuals from 64 * chunk on, put for v
abbrev pub IsWordAlong : StructureForm → Assignment → (v chunk : ℕ) → Form → List K3 → Type 0
IsWordAlong s a v chunk f word = IsWordOf s.size chunk (λ u. value (structure_of s) (put a v u) f) word

-- the value of a closure whose edges are those of the body, from left to right, at two individuals
abbrev pub closed_values : StructureForm → Assignment → (left right : ℕ) → Form → ℕ → ℕ → K3
closed_values s a left right f =
    best_walk (λ x y. value (structure_of s) (put (put a left x) right y) f) (range_with_len 0 s.size)
