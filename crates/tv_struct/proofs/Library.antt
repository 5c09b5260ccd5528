-- Lemmas for the crates above: how rows read.
use Rattle.std.proofs.Common.{ℕ, ◌≡◌, ◌<◌, List, length, get_or, Some, sym}
use Rattle.std.proofs.Common.{◌∙◌, [], ◌∷◌, arith}
use Rattle.std.proofs.lemmas.List.FromFn.{length-map-range_with_len, get_or-map-range_with_len}
use Rattle.tv_kleene.specs.declared.K3.TheVariants.{No}
use Rattle.tv_structure_form.specs.TableForm.{HasEntry}
use Rattle.tv_structure_form.specs.StructureForm.{StructureForm, table_of, value_at}
use Rattle.tv_struct.specs.StructureRows.{HasArity, row_at, unary_row}

pub entry-arity : (t : StructureForm) (pred n : ℕ) (tuple : List ℕ) → HasArity t pred n → HasEntry (table_of t) pred tuple
    → length tuple ≡ n
entry-arity t pred n tuple arity has = let e : Some n ≡ Some (length tuple) = sym arity ∙ has.arity in cc

-- ---- how rows read

pub length-row_at : (s : StructureForm) (pred u : ℕ) → length (row_at s pred u) ≡ s.size
length-row_at s pred u = length-map-range_with_len (λ w. value_at s pred (u ∷ w ∷ [])) 0 s.size

pub get_or-row_at : (s : StructureForm) (pred u v : ℕ) → v < s.size → get_or (row_at s pred u) v No ≡ value_at s pred (u ∷ v ∷ [])
get_or-row_at s pred u v lt =
    get_or-map-range_with_len (λ w. value_at s pred (u ∷ w ∷ [])) 0 s.size v v No lt (omega arith)

pub length-unary_row : (s : StructureForm) (pred : ℕ) → length (unary_row s pred) ≡ s.size
length-unary_row s pred = length-map-range_with_len (λ u. value_at s pred (u ∷ [])) 0 s.size

pub get_or-unary_row : (s : StructureForm) (pred u : ℕ) → u < s.size → get_or (unary_row s pred) u No ≡ value_at s pred (u ∷ [])
get_or-unary_row s pred u lt =
    get_or-map-range_with_len (λ w. value_at s pred (w ∷ [])) 0 s.size u u No lt (omega arith)
