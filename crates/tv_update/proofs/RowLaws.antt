-- The rows of a change: their shape, and their values.
use Rattle.std.proofs.Common.{ℕ, ◌≡◌, ◌<◌, ◌≤◌, List, [], ◌∷◌, length, get_or, replicate, refl, ap, subst}
use Rattle.std.proofs.Common.{◌∙◌, All, arith}
use Rattle.std.specs.List.{range_with_len}
use Rattle.std.proofs.lemmas.List.{get_or-replicate, length-replicate}
use Rattle.std.proofs.lemmas.List.Elements.{All-nil, All-cons, All-map, All-replicate}
use Rattle.std.proofs.lemmas.List.FromFn.{length-map-range_with_len, get_or-map-range_with_len}
use Rattle.tv_kleene.specs.declared.K3.{K3}
use Rattle.tv_kleene.specs.declared.K3.TheVariants.{No, Half}
use Rattle.tv_model.specs.declared.formula.Terms.{Terms}
use Rattle.tv_model.specs.declared.formula.Terms.TheVariants.{Zero as none, One as one, Two as two}
use Rattle.tv_model.specs.Form.{Form, vars_of}
use Rattle.tv_model.specs.Program.{ChangeForm, CFree, CTo}
use Rattle.tv_model.specs.Truth.{Assignment, put, put_all}
use Rattle.tv_structure_form.specs.TableForm.{AreIndividuals, cell, row_of, column_of, row_count}
use Rattle.tv_structure_form.specs.TableForm.{column_count}
use Rattle.tv_structure_form.specs.StructureForm.{StructureForm, structure_of}
use Rattle.tv_eval_laws.specs.Value.{value}
use Rattle.tv_eval.specs.Along.{values_along}
use Rattle.tv_update_laws.specs.Applied.{changed_value}
use Rattle.tv_update.specs.Rows.{AreRows, rows_for, half_rows, change_rows}

along-length : (s : StructureForm) (a : Assignment) (v : ℕ) (f : Form)
    → length (values_along s a v f) ≡ s.size
along-length s a v f = length-map-range_with_len (λ u. value (structure_of s) (put a v u) f) 0 s.size

All-one : (row : List K3) (n : ℕ) → length row ≡ n → All (λ r. length r ≡ n) (row ∷ [])
All-one row n is = All-cons (λ r. length r ≡ n) row [] is (All-nil (λ r. length r ≡ n))

pub rows_for_are_rows : (s : StructureForm) (a : Assignment) (vars : List ℕ) (f : Form) → length vars ≤ 2
    → AreRows s.size (length vars) (rows_for s a vars f)
rows_for_are_rows s a [] f few = record {
  count = refl;
  columns = All-one (value (structure_of s) a f ∷ []) 1 refl;
}
rows_for_are_rows s a (v ∷ []) f few = record {
  count = refl;
  columns = All-one (values_along s a v f) s.size (along-length s a v f);
}
rows_for_are_rows s a (v ∷ w ∷ []) f few = record {
  count = length-map-range_with_len (λ u. values_along s (put a v u) w f) 0 s.size;
  columns = All-map (λ row. length row ≡ s.size) (λ u. values_along s (put a v u) w f)
      (range_with_len 0 s.size)
      (λ k d lt. along-length s (put a v (get_or (range_with_len 0 s.size) k d)) w f);
}
rows_for_are_rows s a (v ∷ w ∷ x ∷ more) f few = absurd (omega (arith, few))

along-value : (s : StructureForm) (a : Assignment) (v : ℕ) (f : Form) (u : ℕ) → u < s.size
    → get_or (values_along s a v f) u No ≡ value (structure_of s) (put a v u) f
along-value s a v f u lt =
    get_or-map-range_with_len (λ x. value (structure_of s) (put a v x) f) 0 s.size u u No lt (omega arith)

-- each value is the formula's, under the assignment with the tuple put for the variables
pub rows_for_values : (s : StructureForm) (a : Assignment) (vars : List ℕ) (f : Form) (tuple : List ℕ)
    → length vars ≤ 2 → length tuple ≡ length vars → AreIndividuals s.size tuple
    → cell (rows_for s a vars f) (row_of tuple) (column_of tuple) ≡ value (structure_of s)
    (put_all a vars tuple) f
rows_for_values s a [] f [] few fits within = refl
rows_for_values s a [] f (u ∷ tuple) few fits within = absurd (omega (arith, fits))
rows_for_values s a (v ∷ []) f [] few fits within = absurd (omega (arith, fits))
rows_for_values s a (v ∷ []) f (u ∷ []) few fits within = along-value s a v f u within.0
rows_for_values s a (v ∷ []) f (u ∷ w ∷ tuple) few fits within = absurd (omega (arith, fits))
rows_for_values s a (v ∷ w ∷ []) f [] few fits within = absurd (omega (arith, fits))
rows_for_values s a (v ∷ w ∷ []) f (u ∷ []) few fits within = absurd (omega (arith, fits))
rows_for_values s a (v ∷ w ∷ []) f (u ∷ x ∷ []) few fits within =
    ap (λ row. get_or row x No)
    (get_or-map-range_with_len (λ y. values_along s (put a v y) w f) 0 s.size u u [] within.0 (omega arith))
    ∙ along-value s (put a v u) w f x within.1.0
rows_for_values s a (v ∷ w ∷ []) f (u ∷ x ∷ y ∷ tuple) few fits within = absurd (omega (arith, fits))
rows_for_values s a (v ∷ w ∷ z ∷ more) f tuple few fits within = absurd (omega (arith, few))

half_rows_are_rows : (size arity : ℕ) → AreRows size arity (half_rows size arity)
half_rows_are_rows size arity = record {
  count = length-replicate (row_count size arity) (replicate (column_count size arity) Half);
  columns = All-replicate (λ row. length row ≡ column_count size arity) (row_count size arity)
      (replicate (column_count size arity) Half) (length-replicate (column_count size arity) Half);
}

half_rows_values : (size arity : ℕ) (tuple : List ℕ) → arity ≤ 2 → length tuple ≡ arity
    → AreIndividuals size tuple → cell (half_rows size arity) (row_of tuple) (column_of tuple) ≡ Half
half_rows_values size arity [] few fits within = subst (λ n. cell (half_rows size n) 0 0 ≡ Half) fits refl
half_rows_values size arity (u ∷ []) few fits within =
    subst (λ n. cell (half_rows size n) 0 u ≡ Half) fits (get_or-replicate size u Half No within.0)
half_rows_values size arity (u ∷ w ∷ []) few fits within =
    subst (λ n. cell (half_rows size n) u w ≡ Half) fits
    (ap (λ row. get_or row w No) (get_or-replicate size u (replicate size Half) [] within.0)
    ∙ get_or-replicate size w Half No within.1.0)
half_rows_values size arity (u ∷ w ∷ x ∷ tuple) few fits within = absurd (omega (arith, few, fits))

pub change_rows_are_rows : (s : StructureForm) (a : Assignment) (vars : List ℕ) (change : ChangeForm)
    → length vars ≤ 2 → AreRows s.size (length vars) (change_rows s a vars change)
change_rows_are_rows s a vars CFree few = half_rows_are_rows s.size (length vars)
change_rows_are_rows s a vars (CTo f) few = rows_for_are_rows s a vars f few

-- the rows of a change have the values that it gives
pub change_rows_values : (s : StructureForm) (a : Assignment) (vars : List ℕ) (change : ChangeForm)
    (tuple : List ℕ) → length vars ≤ 2 → length tuple ≡ length vars → AreIndividuals s.size tuple
    → cell (change_rows s a vars change) (row_of tuple) (column_of tuple) ≡ changed_value
    (structure_of s) a vars change tuple
change_rows_values s a vars CFree tuple few fits within =
    half_rows_values s.size (length vars) tuple few fits within
change_rows_values s a vars (CTo f) tuple few fits within = rows_for_values s a vars f tuple few fits within

-- a predicate has two places at most
pub few_vars : (ts : Terms) → length (vars_of ts) ≤ 2
few_vars none = omega arith
few_vars (one v) = omega arith
few_vars (two v w) = omega arith
