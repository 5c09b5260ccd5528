-- What tables keep, and how their entries read.
use Rattle.std.proofs.Common.{ℕ, ◌≡◌, ◌≢◌, ◌<◌, ◌≤◌, ◌⊎◌, inl, inr, Bool, true, false, List, [], ◌∷◌, length}
use Rattle.std.proofs.Common.{get_or, set, refl, sym, ap, ◌∙◌, arith, ◌==◌, eq-eqb, eqb-true, if◌then◌else◌}
use Rattle.std.specs.Prelude.{All}
use Rattle.std.proofs.lemmas.List.{length-set, length-replicate, length-map, get_or-map, get_or-set_same}
use Rattle.std.proofs.lemmas.List.{get_or-set_other}
use Rattle.std.proofs.lemmas.List.Elements.{All-map, All-replicate, All-set}
use Rattle.std.proofs.lemmas.Bool.{cases_eq}
use Rattle.std.proofs.lemmas.Option.{slice_get_within, get_or_from_slice_get}
use Rattle.tv_kleene.specs.declared.K3.{K3}
use Rattle.tv_kleene.specs.declared.K3.TheVariants.{No}
use Rattle.tv_structure_form.specs.TableForm.{PlaneForm, TableForm, IsPlane, IsTable, HasEntry}
use Rattle.tv_structure_form.specs.TableForm.{AreIndividuals}
use Rattle.tv_structure_form.specs.TableForm.{arities_in, row_of, column_of, column_count, plane_of_no}
use Rattle.tv_structure_form.specs.TableForm.{table_of_no}
use Rattle.tv_structure_form.specs.TableForm.{plane_at, no_plane, cell, with_cell, value_in, entry}
use Rattle.tv_structure_form.specs.TableForm.{with_entry}
use Rattle.tv_structure_form.specs.TableForm.{plane_drawn, table_drawn}

-- a tuple's row is one of the plane's
pub row_of-lt : (size : ℕ) (plane : PlaneForm) (tuple : List ℕ) → IsPlane size plane → length tuple ≡ plane.arity
    → AreIndividuals size tuple → row_of tuple < length plane.rows
row_of-lt size plane [] p a w = rw (p.rows, ← a) (omega arith)
row_of-lt size plane (u ∷ []) p a w = rw (p.rows, ← a) (omega arith)
row_of-lt size plane (u ∷ x ∷ []) p a w = rw (p.rows, ← a) w.0
row_of-lt size plane (u ∷ x ∷ y ∷ others) p a w = absurd (omega (arith, p.arity))

-- and its column is one of its row's
pub column_of-lt : (size : ℕ) (plane : PlaneForm) (tuple : List ℕ) → IsPlane size plane → length tuple ≡ plane.arity
    → AreIndividuals size tuple → column_of tuple < length (get_or plane.rows (row_of tuple) [])
column_of-lt size plane [] p a w = rw (p.columns 0 [] (row_of-lt size plane [] p a w), ← a) (omega arith)
column_of-lt size plane (u ∷ []) p a w = rw (p.columns 0 [] (row_of-lt size plane (u ∷ []) p a w), ← a) w.0
column_of-lt size plane (u ∷ x ∷ []) p a w = rw (p.columns u [] (row_of-lt size plane (u ∷ x ∷ []) p a w), ← a) w.1.0
column_of-lt size plane (u ∷ x ∷ y ∷ others) p a w = absurd (omega (arith, p.arity))

-- an entry's predicate is one of the table's
pub HasEntry-lt : (t : TableForm) (pred : ℕ) (tuple : List ℕ) → HasEntry t pred tuple → pred < length t.planes
HasEntry-lt t pred tuple has =
    rw (← length-map t.planes (λ plane. plane.arity)) (slice_get_within (arities_in t.planes) pred (length tuple) has.arity)

-- and its tuple has the predicate's arity
pub HasEntry-arity : (t : TableForm) (pred : ℕ) (tuple : List ℕ) → HasEntry t pred tuple
    → length tuple ≡ (plane_at t pred).arity
HasEntry-arity t pred tuple has =
    sym (get_or_from_slice_get (arities_in t.planes) pred (length tuple) 0 has.arity)
    ∙ get_or-map (λ plane. plane.arity) t.planes pred no_plane 0 (HasEntry-lt t pred tuple has)

pub entry_row-lt : (t : TableForm) (pred : ℕ) (tuple : List ℕ) → IsTable t → HasEntry t pred tuple
    → row_of tuple < length (plane_at t pred).rows
entry_row-lt t pred tuple is has =
    row_of-lt t.size (plane_at t pred) tuple (is.planes pred no_plane (HasEntry-lt t pred tuple has))
    (HasEntry-arity t pred tuple has) has.individuals

pub entry_column-lt : (t : TableForm) (pred : ℕ) (tuple : List ℕ) → IsTable t → HasEntry t pred tuple
    → column_of tuple < length (get_or (plane_at t pred).rows (row_of tuple) [])
entry_column-lt t pred tuple is has =
    column_of-lt t.size (plane_at t pred) tuple (is.planes pred no_plane (HasEntry-lt t pred tuple has))
    (HasEntry-arity t pred tuple has) has.individuals

-- ---- what is kept

pub IsPlane-of_no : (size arity : ℕ) → arity ≤ 2 → IsPlane size (plane_of_no size arity)
IsPlane-of_no size arity h = record {
  arity = h;
  rows = length-replicate _ _;
  columns = All-replicate (λ row. length row ≡ column_count size arity) _ _ (length-replicate _ _);
}

pub IsTable-of_no : (size : ℕ) (arities : List ℕ) → size ≤ 256 → length arities ≤ 4294967295
    → All (λ arity. arity ≤ 2) arities → IsTable (table_of_no size arities)
IsTable-of_no size arities small few known = record {
  size = small;
  predicates = rw (length-map arities (plane_of_no size)) few;
  planes = All-map (IsPlane size) (plane_of_no size) arities (λ k d lt. IsPlane-of_no size _ (known k d lt));
}

pub IsPlane-with_cell : (size : ℕ) (plane : PlaneForm) (row column : ℕ) (k : K3) → IsPlane size plane
    → row < length plane.rows → IsPlane size (record plane { rows = with_cell plane.rows row column k })
IsPlane-with_cell size plane row column k p lt = record {
  arity = p.arity;
  rows = length-set _ _ _ ∙ p.rows;
  columns = All-set (λ line. length line ≡ column_count size plane.arity) plane.rows row _
      (length-set (get_or plane.rows row []) column k ∙ p.columns row [] lt) p.columns;
}

pub IsTable-with_entry : (t : TableForm) (pred : ℕ) (tuple : List ℕ) (k : K3) → IsTable t → HasEntry t pred tuple
    → IsTable (with_entry t pred tuple k)
IsTable-with_entry t pred tuple k is has =
    let plane : PlaneForm = plane_at t pred
    in let p : IsPlane t.size plane = is.planes pred no_plane (HasEntry-lt t pred tuple has)
    in record {
      size = is.size;
      predicates = rw (length-set t.planes pred (record plane { rows = with_cell plane.rows (row_of tuple) (column_of tuple) k }))
          is.predicates;
      planes = All-set (IsPlane t.size) t.planes pred _
          (IsPlane-with_cell t.size plane (row_of tuple) (column_of tuple) k p
          (row_of-lt t.size plane tuple p (HasEntry-arity t pred tuple has) has.individuals))
          is.planes;
    }

-- ---- one entry is changed, and no other

cell-with_cell : (rows : List (List K3)) (row column : ℕ) (k : K3) → row < length rows
    → column < length (get_or rows row []) → cell (with_cell rows row column k) row column ≡ k
cell-with_cell rows row column k row_lt column_lt =
    rw (get_or-set_same rows row (set (get_or rows row []) column k) [] row_lt) (get_or-set_same _ _ _ _ column_lt)

cell-with_cell_other : (rows : List (List K3)) (row column r c : ℕ) (k : K3) → row < length rows
    → (r ≡ row → c ≡ column → ⊥) → cell (with_cell rows row column k) r c ≡ cell rows r c
cell-with_cell_other rows row column r c k lt other =
    at (cases_eq r row)
  where
    at : (r ≡ row) ⊎ (r ≢ row) → cell (with_cell rows row column k) r c ≡ cell rows r c
    at (inl same) =
        rw (same, get_or-set_same rows row (set (get_or rows row []) column k) [] lt)
        (get_or-set_other (get_or rows row []) column c k No (other same))
    at (inr differ) = ap (λ line. get_or line c No) (get_or-set_other rows row r _ [] differ)

same_places : (tuple other : List ℕ) → length tuple ≡ length other → length other ≤ 2
    → row_of tuple ≡ row_of other → column_of tuple ≡ column_of other → tuple ≡ other
same_places [] [] l s row column = refl
same_places [] (u ∷ us) l s row column = absurd (omega arith)
same_places (u ∷ us) [] l s row column = absurd (omega arith)
same_places (u ∷ []) (x ∷ []) l s row column = ap (λ y. y ∷ []) column
same_places (u ∷ []) (x ∷ y ∷ ys) l s row column = absurd (omega arith)
same_places (u ∷ w ∷ ws) (x ∷ []) l s row column = absurd (omega arith)
same_places (u ∷ w ∷ []) (x ∷ y ∷ []) l s row column = cc
same_places (u ∷ w ∷ []) (x ∷ y ∷ z ∷ zs) l s row column = absurd (omega arith)
same_places (u ∷ w ∷ v ∷ vs) (x ∷ y ∷ ys) l s row column = absurd (omega arith)

-- the written entry has the value
pub entry-with_entry : (t : TableForm) (pred : ℕ) (tuple : List ℕ) (k : K3) → IsTable t → HasEntry t pred tuple
    → entry (with_entry t pred tuple k) pred tuple ≡ k
entry-with_entry t pred tuple k is has =
    let plane : PlaneForm = plane_at t pred
    in let p : IsPlane t.size plane = is.planes pred no_plane (HasEntry-lt t pred tuple has)
    in rw (
      get_or-set_same t.planes pred (record plane { rows = with_cell plane.rows (row_of tuple) (column_of tuple) k }) no_plane (HasEntry-lt t pred tuple has),
      eq-eqb (length tuple) plane.arity (HasEntry-arity t pred tuple has),
    )
    (cell-with_cell plane.rows (row_of tuple) (column_of tuple) k
    (row_of-lt t.size plane tuple p (HasEntry-arity t pred tuple has) has.individuals)
    (column_of-lt t.size plane tuple p (HasEntry-arity t pred tuple has) has.individuals))

-- the values of the written predicate at another tuple are as before
value_in-with_cell : (plane : PlaneForm) (tuple other : List ℕ) (k : K3) → length tuple ≡ plane.arity → plane.arity ≤ 2
    → row_of tuple < length plane.rows → (other ≡ tuple → ⊥)
    → value_in (record plane { rows = with_cell plane.rows (row_of tuple) (column_of tuple) k }) other ≡ value_in plane other
value_in-with_cell plane tuple other k fits small lt differ =
    at (length other == plane.arity) refl
  where
    at : (b : Bool) → (length other == plane.arity) ≡ b
        → (if b then cell (with_cell plane.rows (row_of tuple) (column_of tuple) k) (row_of other) (column_of other) else No)
        ≡ (if b then cell plane.rows (row_of other) (column_of other) else No)
    at false e = refl
    at true e =
        cell-with_cell_other plane.rows (row_of tuple) (column_of tuple) (row_of other) (column_of other) k lt
        (λ row column. differ (same_places other tuple (eqb-true _ _ e ∙ sym fits) (omega (arith, fits)) row column))

-- every other entry is as before
pub entry-with_entry_other : (t : TableForm) (pred : ℕ) (tuple : List ℕ) (k : K3) → IsTable t → HasEntry t pred tuple
    → (q : ℕ) (other : List ℕ) → (q ≡ pred → other ≡ tuple → ⊥) → entry (with_entry t pred tuple k) q other ≡ entry t q other
entry-with_entry_other t pred tuple k is has q other differ =
    at (cases_eq q pred)
  where
    plane : PlaneForm
    plane = plane_at t pred

    at : (q ≡ pred) ⊎ (q ≢ pred) → entry (with_entry t pred tuple k) q other ≡ entry t q other
    at (inl same) =
        let p : IsPlane t.size (plane_at t pred) = is.planes pred no_plane (HasEntry-lt t pred tuple has)
        in rw (same, get_or-set_same t.planes pred (record (plane_at t pred) { rows = with_cell (plane_at t pred).rows (row_of tuple) (column_of tuple) k }) no_plane (HasEntry-lt t pred tuple has))
        (value_in-with_cell (plane_at t pred) tuple other k (HasEntry-arity t pred tuple has) p.arity
        (row_of-lt t.size (plane_at t pred) tuple p (HasEntry-arity t pred tuple has) has.individuals) (differ same))
    at (inr apart) = ap (λ line. value_in line other) (get_or-set_other t.planes pred q _ no_plane apart)

-- ---- tables drawn from others

pub IsPlane-drawn : (size : ℕ) (origins : List ℕ) (plane : PlaneForm) → IsPlane size plane
    → IsPlane (length origins) (plane_drawn origins plane)
IsPlane-drawn size origins plane p = record {
  arity = p.arity;
  rows = length-map _ _ ∙ rows_at (plane.arity == 2);
  columns = All-map (λ row. length row ≡ column_count (length origins) plane.arity) _ _
      (λ k d lt. length-map _ _ ∙ columns_at (plane.arity == 0));
}
  where
    rows_at : (b : Bool) → length (if b then origins else 0 ∷ []) ≡ (if b then length origins else 1)
    rows_at true = refl
    rows_at false = refl

    columns_at : (b : Bool) → length (if b then 0 ∷ [] else origins) ≡ (if b then 1 else length origins)
    columns_at true = refl
    columns_at false = refl

pub IsTable-drawn : (origins : List ℕ) (t : TableForm) → IsTable t → length origins ≤ 256 → IsTable (table_drawn origins t)
IsTable-drawn origins t is small = record {
  size = small;
  predicates = rw (length-map t.planes (plane_drawn origins)) is.predicates;
  planes = All-map (IsPlane (length origins)) (plane_drawn origins) t.planes
      (λ k d lt. IsPlane-drawn t.size origins _ (is.planes k d lt));
}
