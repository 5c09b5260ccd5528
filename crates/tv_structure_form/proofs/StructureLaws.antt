-- How structures read, and that their entries determine them.
use Rattle.std.proofs.Common.{All, ℕ, ◌≡◌, ◌<◌, ◌≤◌, ◌+◌, ◌==◌, ◌⊎◌, inl, inr, Bool, true, false, List, []}
use Rattle.std.proofs.Common.{◌∷◌, length, get_or, map, replicate, Option, Some, zero, suc, refl, sym, ap}
use Rattle.std.proofs.Common.{subst, ◌∙◌, arith, eq-eqb, eqb-true, if◌then◌else◌}
use Rattle.std.specs.Prelude.{slice_get}
use Rattle.std.proofs.lemmas.Option.{slice_get-get_or}
use Rattle.std.specs.List.{range_with_len}
use Rattle.std.proofs.lemmas.Bool.{cases_lt}
use Rattle.std.proofs.lemmas.List.{length-map, get_or-map, get_or_past, same_lists, get_or_default}
use Rattle.std.proofs.lemmas.List.{get_or-set_same, get_or-set_other, get_or-replicate, length-replicate}
use Rattle.std.proofs.Math.Seq.{map-set_same}
use Rattle.std.proofs.lemmas.List.FromFn.{length-range_with_len, get_or-range_with_len}
use Rattle.tv_kleene.specs.declared.K3.{K3}
use Rattle.tv_kleene.specs.declared.K3.TheVariants.{No}
use Rattle.tv_structure_form.specs.TableForm.{PlaneForm, IsPlane, HasEntry, AreIndividuals, row_of, column_of}
use Rattle.tv_structure_form.specs.TableForm.{row_count, column_count, no_plane, cell, value_in, plane_drawn}
use Rattle.tv_structure_form.specs.TableForm.{plane_of_no, selected}
use Rattle.tv_structure_form.specs.StructureForm.{StructureForm, IsStructure, table_of, value_at, summary_at}
use Rattle.tv_structure_form.specs.StructureForm.{with_value, with_new, drawn, arities_of, structure_of_no}
use Rattle.tv_structure_form.specs.Laws.{origins_of, WritesOneEntry, WritesOneSummary, IsAllNo, DrawnReads}
use Rattle.tv_structure_form.proofs.TableLaws.{entry-with_entry, entry-with_entry_other}
use Rattle.tv_structure_form.proofs.DrawnLaws.{summary_at-drawn}

-- ---- drawn planes

selected-reads : {X : Type 0} (d : X) (xs : List X) (places : List ℕ) (i : ℕ) → i < length places
    → get_or (selected d xs places) i d ≡ get_or xs (get_or places i 0) d
selected-reads d xs places i lt = get_or-map (λ place. get_or xs place d) places i 0 d lt

-- a plane of the tuple's length reads at the origins
value_in-drawn : (size : ℕ) (origins : List ℕ) (plane : PlaneForm) (tuple : List ℕ) → IsPlane size plane
    → AreIndividuals (length origins) tuple → length tuple ≡ plane.arity
    → cell (plane_drawn origins plane).rows (row_of tuple) (column_of tuple)
    ≡ cell plane.rows (row_of (origins_of origins tuple)) (column_of (origins_of origins tuple))
value_in-drawn size origins plane [] p within e =
    rw (← e) refl
value_in-drawn size origins plane (u ∷ []) p within e =
    rw (← e) (selected-reads No (get_or plane.rows 0 []) origins u within.0)
value_in-drawn size origins plane (u ∷ w ∷ []) p within e =
    rw (← e, get_or-map (λ row. selected No (get_or plane.rows row []) origins) origins u 0 [] within.0)
    (selected-reads No (get_or plane.rows (get_or origins u 0) []) origins w within.1.0)
value_in-drawn size origins plane (u ∷ w ∷ x ∷ others) p within e = absurd (omega (arith, p.arity))

value_in-drawn_plane : (size : ℕ) (origins : List ℕ) (plane : PlaneForm) (tuple : List ℕ) → IsPlane size plane
    → AreIndividuals (length origins) tuple
    → value_in (plane_drawn origins plane) tuple ≡ value_in plane (origins_of origins tuple)
value_in-drawn_plane size origins plane tuple p within =
    rw (length-map tuple (λ u. get_or origins u 0)) (at (length tuple == plane.arity) refl)
  where
    at : (b : Bool) → (length tuple == plane.arity) ≡ b
        → (if b then cell (plane_drawn origins plane).rows (row_of tuple) (column_of tuple) else No)
        ≡ (if b then cell plane.rows (row_of (origins_of origins tuple)) (column_of (origins_of origins tuple)) else No)
    at false e = refl
    at true e = value_in-drawn size origins plane tuple p within (eqb-true _ _ e)

pub value_in-no_plane : (tuple : List ℕ) → value_in no_plane tuple ≡ No
value_in-no_plane tuple = at (length tuple == 0)
  where
    at : (b : Bool) → (if b then No else No) ≡ No
    at true = refl
    at false = refl

-- a drawn structure has the origins' values
pub value_at-drawn : (origins : List ℕ) (fresh : Option ℕ) (s : StructureForm) → IsStructure s → (pred : ℕ) (tuple : List ℕ)
    → AreIndividuals (length origins) tuple
    → value_at (drawn origins fresh s) pred tuple ≡ value_at s pred (origins_of origins tuple)
value_at-drawn origins fresh s is pred tuple within = at (cases_lt pred (length s.planes))
  where
    at : (pred < length s.planes) ⊎ (length s.planes ≤ pred)
        → value_at (drawn origins fresh s) pred tuple ≡ value_at s pred (origins_of origins tuple)
    at (inl lt) =
        ap (λ plane. value_in plane tuple) (get_or-map (plane_drawn origins) s.planes pred no_plane no_plane lt)
        ∙ value_in-drawn_plane s.size origins (get_or s.planes pred no_plane) tuple (is.table.planes pred no_plane lt) within
    at (inr past) =
        ap (λ plane. value_in plane tuple)
        (get_or_past (map (plane_drawn origins) s.planes) pred no_plane (rw (length-map s.planes (plane_drawn origins)) past))
        ∙ value_in-no_plane tuple
        ∙ sym (ap (λ plane. value_in plane (origins_of origins tuple)) (get_or_past s.planes pred no_plane past)
        ∙ value_in-no_plane (origins_of origins tuple))

origins_of-range : (n : ℕ) (tuple : List ℕ) → AreIndividuals n tuple → origins_of (range_with_len 0 n) tuple ≡ tuple
origins_of-range n [] within = refl
origins_of-range n (u ∷ us) within =
    let head : get_or (range_with_len 0 n) u 0 ≡ u = get_or-range_with_len 0 n u 0 within.0 ∙ omega arith
    in let tail : origins_of (range_with_len 0 n) us ≡ us = origins_of-range n us within.1
    in λ i. head i ∷ tail i

-- the old individuals keep their values
pub value_at-with_new : (s : StructureForm) → IsStructure s → (pred : ℕ) (tuple : List ℕ) → AreIndividuals (s.size + 1) tuple
    → value_at (with_new s) pred tuple ≡ value_at s pred tuple
value_at-with_new s is pred tuple within =
    value_at-drawn (range_with_len 0 (s.size + 1)) (Some s.size) s is pred tuple
    (rw (length-range_with_len 0 (s.size + 1)) within)
    ∙ ap (value_at s pred) (origins_of-range (s.size + 1) tuple within)

-- ---- past the end there is No

cell-past : (size : ℕ) (plane : PlaneForm) (tuple : List ℕ) → IsPlane size plane → length tuple ≡ plane.arity
    → (AreIndividuals size tuple → ⊥) → cell plane.rows (row_of tuple) (column_of tuple) ≡ No
cell-past size plane [] p e past = absurd (past tt)
cell-past size plane (u ∷ []) p e past =
    get_or_past (get_or plane.rows 0 []) u No
    (rw (p.columns 0 [] (rw (p.rows, ← e) (omega arith)), ← e) (at (cases_lt u size)))
  where
    at : (u < size) ⊎ (size ≤ u) → size ≤ u
    at (inl lt) = absurd (past (lt, tt))
    at (inr ge) = ge
cell-past size plane (u ∷ w ∷ []) p e past = at (cases_lt u size) (cases_lt w size)
  where
    at : (u < size) ⊎ (size ≤ u) → (w < size) ⊎ (size ≤ w) → cell plane.rows u w ≡ No
    at (inl lt) (inl in') = absurd (past (lt, (in', tt)))
    at (inl lt) (inr ge) =
        get_or_past (get_or plane.rows u []) w No (rw (p.columns u [] (rw (p.rows, ← e) lt), ← e) ge)
    at (inr ge) other = ap (λ row. get_or row w No) (get_or_past plane.rows u [] (rw (p.rows, ← e) ge))
cell-past size plane (u ∷ w ∷ x ∷ others) p e past = absurd (omega (arith, p.arity))

pub value_at-past : (s : StructureForm) → IsStructure s → (pred : ℕ) (tuple : List ℕ)
    → (AreIndividuals s.size tuple → ⊥) → value_at s pred tuple ≡ No
value_at-past s is pred tuple past = at (cases_lt pred (length s.planes))
  where
    fits : (plane : PlaneForm) → IsPlane s.size plane → (b : Bool) → (length tuple == plane.arity) ≡ b
        → (if b then cell plane.rows (row_of tuple) (column_of tuple) else No) ≡ No
    fits plane p false e = refl
    fits plane p true e = cell-past s.size plane tuple p (eqb-true _ _ e) past

    at : (pred < length s.planes) ⊎ (length s.planes ≤ pred) → value_at s pred tuple ≡ No
    at (inl lt) =
        fits (get_or s.planes pred no_plane) (is.table.planes pred no_plane lt)
        (length tuple == (get_or s.planes pred no_plane).arity) refl
    at (inr beyond) = ap (λ plane. value_in plane tuple) (get_or_past s.planes pred no_plane beyond) ∙ value_in-no_plane tuple

-- ---- the entries determine a structure

-- both planes have the same value at each tuple of their arity
abbrev SameValues : ℕ → PlaneForm → PlaneForm → Type 0
SameValues size p q =
    (tuple : List ℕ) → length tuple ≡ p.arity → AreIndividuals size tuple → value_in p tuple ≡ value_in q tuple

pub value_in-fits : (plane : PlaneForm) (tuple : List ℕ) → length tuple ≡ plane.arity
    → value_in plane tuple ≡ cell plane.rows (row_of tuple) (column_of tuple)
value_in-fits plane tuple e = rw (eq-eqb _ _ e) refl

same_cell : (size : ℕ) (p q : PlaneForm) → p.arity ≡ q.arity → SameValues size p q
    → (tuple : List ℕ) → length tuple ≡ p.arity → AreIndividuals size tuple
    → cell p.rows (row_of tuple) (column_of tuple) ≡ cell q.rows (row_of tuple) (column_of tuple)
same_cell size p q arity same tuple e within =
    sym (value_in-fits p tuple e) ∙ same tuple e within ∙ value_in-fits q tuple (e ∙ arity)

same_cells : (size : ℕ) (p q : PlaneForm) → p.arity ≡ q.arity → SameValues size p q → (a : ℕ) → a ≡ p.arity → a ≤ 2
    → (r c : ℕ) → r < row_count size a → c < column_count size a → cell p.rows r c ≡ cell q.rows r c
same_cells size p q arity same zero e small r c row column =
    let first_row : r ≡ 0 = omega arith
    in let first_column : c ≡ 0 = omega arith
    in rw (first_row, first_column) (same_cell size p q arity same [] e tt)
same_cells size p q arity same (suc zero) e small r c row column =
    let first_row : r ≡ 0 = omega arith
    in rw first_row (same_cell size p q arity same (c ∷ []) e (column, tt))
same_cells size p q arity same (suc (suc zero)) e small r c row column =
    same_cell size p q arity same (r ∷ c ∷ []) e (row, (column, tt))
same_cells size p q arity same (suc (suc (suc a))) e small r c row column = absurd (omega arith)

same_plane : (size : ℕ) (p q : PlaneForm) → IsPlane size p → IsPlane size q → p.arity ≡ q.arity → SameValues size p q → p ≡ q
same_plane size p q is_p is_q arity same =
    let rows : p.rows ≡ q.rows
    = same_lists p.rows q.rows (is_p.rows ∙ ap (row_count size) arity ∙ sym is_q.rows) (λ r d lt. row r d lt)
    in λ i. record { arity = arity i; rows = rows i }
  where
    row : (r : ℕ) (d : List K3) → r < length p.rows → get_or p.rows r d ≡ get_or q.rows r d
    row r d lt =
        let lt_q : r < length q.rows = rw (is_q.rows, ← arity, ← is_p.rows) lt
        in let cells : get_or p.rows r [] ≡ get_or q.rows r []
        = same_lists (get_or p.rows r []) (get_or q.rows r [])
        (is_p.columns r [] lt ∙ ap (column_count size) arity ∙ sym (is_q.columns r [] lt_q))
        (λ c k within.
        get_or_default (get_or p.rows r []) c k No within
        ∙ same_cells size p q arity same p.arity refl is_p.arity r c (rw (← is_p.rows) lt)
        (rw (← is_p.columns r [] lt) within)
        ∙ sym (get_or_default (get_or q.rows r []) c k No
        (rw (is_q.columns r [] lt_q, ← arity, ← is_p.columns r [] lt) within)))
        in get_or_default p.rows r d [] lt ∙ cells ∙ sym (get_or_default q.rows r d [] lt_q)

-- one value for each tuple, and one flag for each individual, of which there may be any number
pub record IsFull (s : StructureForm) : Type 0 where
  pub planes : All (IsPlane s.size) s.planes
  pub summaries : length s.summaries ≡ s.size

-- so structures of any size are the same where their entries, summaries and marks are
pub same_full : (s t : StructureForm) → IsFull s → IsFull t → s.size ≡ t.size → arities_of s ≡ arities_of t
    → ((pred : ℕ) (tuple : List ℕ) → HasEntry (table_of s) pred tuple → value_at s pred tuple ≡ value_at t pred tuple)
    → ((u : ℕ) → u < s.size → summary_at s u ≡ summary_at t u) → s.fresh ≡ t.fresh → s ≡ t
same_full s t is_s is_t size arities values summaries fresh =
    let count : length s.planes ≡ length t.planes
    = sym (length-map s.planes (λ plane. plane.arity)) ∙ ap length arities ∙ length-map t.planes (λ plane. plane.arity)
    in let marks : s.summaries ≡ t.summaries
    = same_lists s.summaries t.summaries (is_s.summaries ∙ size ∙ sym is_t.summaries)
    (λ u d lt.
    get_or_default s.summaries u d false lt ∙ summaries u (rw (← is_s.summaries) lt)
    ∙ get_or_default t.summaries u false d (rw (is_t.summaries, ← size, ← is_s.summaries) lt))
    in let planes : s.planes ≡ t.planes
    = same_lists s.planes t.planes count (λ k d lt. plane count k d lt)
    in λ i. record { size = size i; summaries = marks i; planes = planes i; fresh = fresh i }
  where
    known : (k : ℕ) → k < length s.planes → (tuple : List ℕ) → length tuple ≡ (get_or s.planes k no_plane).arity
        → slice_get (arities_of s) k ≡ Some (length tuple)
    known k lt tuple e =
        slice_get-get_or (arities_of s) k 0 (rw (length-map s.planes (λ p. p.arity)) lt)
        ∙ ap Some (get_or-map (λ p. p.arity) s.planes k no_plane 0 lt ∙ sym e)

    plane : length s.planes ≡ length t.planes → (k : ℕ) (d : PlaneForm) → k < length s.planes
        → get_or s.planes k d ≡ get_or t.planes k d
    plane count k d lt =
        let lt_t : k < length t.planes = rw (← count) lt
        in let IsOf : ℕ → Type 0 = λ n. IsPlane n (get_or t.planes k no_plane)
        in let arity : (get_or s.planes k no_plane).arity ≡ (get_or t.planes k no_plane).arity
        = sym (get_or-map (λ p. p.arity) s.planes k no_plane 0 lt)
        ∙ ap (λ xs. get_or xs k 0) arities
        ∙ get_or-map (λ p. p.arity) t.planes k no_plane 0 lt_t
        in get_or_default s.planes k d no_plane lt
        ∙ same_plane s.size (get_or s.planes k no_plane) (get_or t.planes k no_plane)
        (is_s.planes k no_plane lt)
        (subst IsOf (sym size) (is_t.planes k no_plane lt_t))
        arity
        (λ tuple e within. values k tuple (record { arity = known k lt tuple e; individuals = within }))
        ∙ get_or_default t.planes k no_plane d lt_t

pub same_structure : (s t : StructureForm) → IsStructure s → IsStructure t → s.size ≡ t.size → arities_of s ≡ arities_of t
    → ((pred : ℕ) (tuple : List ℕ) → HasEntry (table_of s) pred tuple → value_at s pred tuple ≡ value_at t pred tuple)
    → ((u : ℕ) → u < s.size → summary_at s u ≡ summary_at t u) → s.fresh ≡ t.fresh → s ≡ t
same_structure s t is_s is_t =
    same_full s t (record { planes = is_s.table.planes; summaries = is_s.summaries })
    (record { planes = is_t.table.planes; summaries = is_t.summaries })

-- ---- the laws

pub writes_one_entry : (s : StructureForm) (pred : ℕ) (tuple : List ℕ) (k : K3) → IsStructure s
    → HasEntry (table_of s) pred tuple → WritesOneEntry s pred tuple k
writes_one_entry s pred tuple k is has = record {
  written = entry-with_entry (table_of s) pred tuple k is.table has;
  others = λ q other apart.
      entry-with_entry_other (table_of s) pred tuple k is.table has q other (λ same_pred same_tuple. apart (same_pred, same_tuple));
  arities = map-set_same (λ plane. plane.arity) s.planes pred _ no_plane refl;
}

pub writes_one_summary : (s : StructureForm) (u : ℕ) (on : Bool) → IsStructure s → u < s.size → WritesOneSummary s u on
writes_one_summary s u on is lt = record {
  written = get_or-set_same s.summaries u on false (rw is.summaries lt);
  others = λ w apart. get_or-set_other s.summaries u w on false apart;
}

get_or-replicate_any : {X : Type 0} (n i : ℕ) (x d : X) → (get_or (replicate n x) i d ≡ x) ⊎ (get_or (replicate n x) i d ≡ d)
get_or-replicate_any n i x d = at (cases_lt i n)
  where
    at : (i < n) ⊎ (n ≤ i) → (get_or (replicate n x) i d ≡ x) ⊎ (get_or (replicate n x) i d ≡ d)
    at (inl lt) = inl (get_or-replicate n i x d lt)
    at (inr ge) = inr (get_or_past (replicate n x) i d (rw (length-replicate n x) ge))

pub no-replicate : (n i : ℕ) → get_or (replicate n No) i No ≡ No
no-replicate n i = elim (get_or-replicate_any n i No No) [ inl e ↦ e | inr e ↦ e ]

cell-no : (rows columns r c : ℕ) → cell (replicate rows (replicate columns No)) r c ≡ No
cell-no rows columns r c = at (get_or-replicate_any rows r (replicate columns No) [])
  where
    at : (get_or (replicate rows (replicate columns No)) r [] ≡ replicate columns No)
        ⊎ (get_or (replicate rows (replicate columns No)) r [] ≡ [])
        → cell (replicate rows (replicate columns No)) r c ≡ No
    at (inl e) = ap (λ row. get_or row c No) e ∙ no-replicate columns c
    at (inr e) = ap (λ row. get_or row c No) e

value_in-no : (size arity : ℕ) (tuple : List ℕ) → value_in (plane_of_no size arity) tuple ≡ No
value_in-no size arity tuple = at (length tuple == arity)
  where
    at : (b : Bool) → (if b then cell (plane_of_no size arity).rows (row_of tuple) (column_of tuple) else No) ≡ No
    at true = cell-no (row_count size arity) (column_count size arity) (row_of tuple) (column_of tuple)
    at false = refl

arities_of-no : (size : ℕ) (arities : List ℕ) → map (λ plane. plane.arity) (map (plane_of_no size) arities) ≡ arities
arities_of-no size [] = refl
arities_of-no size (arity ∷ arities) = ap (λ rest. arity ∷ rest) (arities_of-no size arities)

pub new_is_no : (size : ℕ) (arities : List ℕ) → IsAllNo arities (structure_of_no size arities)
new_is_no size arities = record {
  over = arities_of-no size arities;
  values = λ pred tuple. at pred tuple (cases_lt pred (length arities));
  summaries = λ u. elim (get_or-replicate_any size u false false) [ inl e ↦ e | inr e ↦ e ];
}
  where
    at : (pred : ℕ) (tuple : List ℕ) → (pred < length arities) ⊎ (length arities ≤ pred)
        → value_at (structure_of_no size arities) pred tuple ≡ No
    at pred tuple (inl lt) =
        ap (λ plane. value_in plane tuple) (get_or-map (plane_of_no size) arities pred 0 no_plane lt)
        ∙ value_in-no size (get_or arities pred 0) tuple
    at pred tuple (inr past) =
        ap (λ plane. value_in plane tuple)
        (get_or_past (map (plane_of_no size) arities) pred no_plane (rw (length-map arities (plane_of_no size)) past))
        ∙ value_in-no_plane tuple

pub arities_in-drawn : (origins : List ℕ) (planes : List PlaneForm)
    → map (λ plane. plane.arity) (map (plane_drawn origins) planes) ≡ map (λ plane. plane.arity) planes
arities_in-drawn origins [] = refl
arities_in-drawn origins (plane ∷ planes) = ap (λ rest. plane.arity ∷ rest) (arities_in-drawn origins planes)

pub arities_of_written : (s : StructureForm) (pred : ℕ) (tuple : List ℕ) (k : K3)
    → arities_of (with_value s pred tuple k) ≡ arities_of s
arities_of_written s pred tuple k = map-set_same (λ plane. plane.arity) s.planes pred _ no_plane refl

pub arities_of_no : (size : ℕ) (arities : List ℕ) → arities_of (structure_of_no size arities) ≡ arities
arities_of_no size arities = arities_of-no size arities

pub drawn_reads : (s : StructureForm) → IsStructure s → DrawnReads s
drawn_reads s is = record {
  values = λ origins fresh pred tuple within. value_at-drawn origins fresh s is pred tuple within;
  summaries = λ origins fresh u lt. summary_at-drawn origins fresh s u lt;
  arities = λ origins fresh. arities_in-drawn origins s.planes;
  with_new = λ pred tuple within. value_at-with_new s is pred tuple within;
  past_end = λ pred tuple past. value_at-past s is pred tuple past;
}
