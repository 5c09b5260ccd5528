-- Rows of tables and of structures.
use Rattle.std.proofs.Common.{ℕ, ◌≡◌, ◌≢◌, ◌<◌, ◌≤◌, ◌+◌, ◌==◌, ◌⊎◌, inl, inr, List, [], ◌∷◌, ◌++◌, length}
use Rattle.std.proofs.Common.{get_or, set, map, take, drop, replicate, Option, Some, None, zero, suc, refl}
use Rattle.std.proofs.Common.{sym, ap, ◌∙◌, arith, if◌then◌else◌, ne_eqb}
use Rattle.std.specs.Prelude.{slice_get}
use Rattle.std.specs.List.{range_with_len}
use Rattle.std.proofs.lemmas.Bool.{cases_eq}
use Rattle.std.proofs.lemmas.List.{length-set, length-map, get_or-map, ext_get_or, get_or-set_same}
use Rattle.std.proofs.lemmas.List.{get_or-set_other, length-append, length-take-le, length-drop}
use Rattle.std.proofs.lemmas.List.{length-replicate, take_all, drop_all, append-nil}
use Rattle.std.proofs.lemmas.List.Elements.{All-set}
use Rattle.std.proofs.lemmas.List.FromFn.{length-map-range_with_len, get_or-map-range_with_len}
use Rattle.std.proofs.lemmas.Option.{slice_get_within, get_or_from_slice_get}
use Rattle.std.proofs.Math.Seq.{map-set_same}
use Rattle.tv_kleene.specs.declared.K3.{K3}
use Rattle.tv_kleene.specs.declared.K3.TheVariants.{No}
use Rattle.tv_structure_form.specs.TableForm.{PlaneForm, TableForm, IsPlane, IsTable, row_of, column_of, cell}
use Rattle.tv_structure_form.specs.TableForm.{value_in, no_plane, plane_at, row_in, row_count, column_count}
use Rattle.tv_structure_form.specs.TableForm.{table_with_row}
use Rattle.tv_structure_form.specs.StructureForm.{StructureForm, IsStructure, IsMark, table_of, value_at}
use Rattle.tv_structure_form.specs.StructureForm.{arities_of}
use Rattle.tv_struct.specs.StructureRows.{HasArity, unary_row, row_at, column_at, with_row}
use Rattle.tv_structure_form.proofs.StructureLaws.{value_in-fits}

-- ---- rows of tables

pub row_long : (t : TableForm) (pred row : ℕ) → IsTable t → pred < length t.planes → row < length (plane_at t pred).rows
    → length (row_in (plane_at t pred) row) ≡ column_count t.size (plane_at t pred).arity
row_long t pred row is lp lr = (is.planes pred no_plane lp).columns row [] lr

-- a predicate that isn't binary has one row
pub flat_there : (t : TableForm) (pred : ℕ) → IsTable t → pred < length t.planes → (plane_at t pred).arity ≢ 2
    → (length (plane_at t pred).rows ≡ 1) × (length (row_in (plane_at t pred) 0) ≡ column_count t.size (plane_at t pred).arity)
flat_there t pred is lp flat =
    let rows : length (plane_at t pred).rows ≡ 1
    = (is.planes pred no_plane lp).rows ∙ ap (λ b. if b then t.size else 1) (ne_eqb (plane_at t pred).arity 2 flat)
    in (rows, row_long t pred 0 is lp (omega (arith, rows)))

pub IsTable-with_row : (t : TableForm) (pred row : ℕ) (values : List K3) → IsTable t → pred < length t.planes
    → length values ≡ column_count t.size (plane_at t pred).arity → IsTable (table_with_row t pred row values)
IsTable-with_row t pred row values is lp long =
    let plane : PlaneForm = plane_at t pred
    in let p : IsPlane t.size plane = is.planes pred no_plane lp
    in let new : PlaneForm = record plane { rows = set plane.rows row values }
    in let is_plane : IsPlane t.size new = record {
      arity = p.arity;
      rows = length-set plane.rows row values ∙ p.rows;
      columns = All-set (λ line. length line ≡ column_count t.size plane.arity) plane.rows row values long p.columns;
    }
    in record {
      size = is.size;
      predicates = rw (length-set t.planes pred new) is.predicates;
      planes = All-set (IsPlane t.size) t.planes pred new is_plane is.planes;
    }

-- ---- a predicate of known arity

pub HasArity-lt : (s : StructureForm) (pred arity : ℕ) → HasArity s pred arity → pred < length s.planes
HasArity-lt s pred arity has = rw (← length-map s.planes (λ plane. plane.arity)) (slice_get_within (arities_of s) pred arity has)

pub HasArity-is : (s : StructureForm) (pred arity : ℕ) → HasArity s pred arity → (plane_at (table_of s) pred).arity ≡ arity
HasArity-is s pred arity has =
    sym (get_or-map (λ plane. plane.arity) s.planes pred no_plane 0 (HasArity-lt s pred arity has))
    ∙ get_or_from_slice_get (arities_of s) pred arity 0 has

pub HasArity-rows : (s : StructureForm) (pred arity : ℕ) → IsStructure s → HasArity s pred arity
    → length (plane_at (table_of s) pred).rows ≡ row_count s.size arity
HasArity-rows s pred arity is has =
    (is.table.planes pred no_plane (HasArity-lt s pred arity has)).rows ∙ ap (row_count s.size) (HasArity-is s pred arity has)

pub HasArity-columns : (s : StructureForm) (pred arity : ℕ) → HasArity s pred arity
    → column_count s.size (plane_at (table_of s) pred).arity ≡ column_count s.size arity
HasArity-columns s pred arity has = ap (column_count s.size) (HasArity-is s pred arity has)

-- a row whose places are the values at tuples
row_is : (s : StructureForm) (pred arity row : ℕ) (tuple : ℕ → List ℕ) → IsStructure s → HasArity s pred arity
    → column_count s.size arity ≡ s.size → row < row_count s.size arity
    → ((w : ℕ) → (length (tuple w) ≡ arity) × (row_of (tuple w) ≡ row) × (column_of (tuple w) ≡ w))
    → row_in (plane_at (table_of s) pred) row ≡ map (λ w. value_at s pred (tuple w)) (range_with_len 0 s.size)
row_is s pred arity row tuple is has columns lr places =
    let plane : PlaneForm = plane_at (table_of s) pred
    in let value : ℕ → K3 = λ w. value_at s pred (tuple w)
    in let long : length (row_in plane row) ≡ s.size
    = row_long (table_of s) pred row is.table (HasArity-lt s pred arity has) (rw (HasArity-rows s pred arity is has) lr)
    ∙ HasArity-columns s pred arity has ∙ columns
    in ext_get_or No (row_in plane row) (map value (range_with_len 0 s.size)) (long ∙ sym (length-map-range_with_len value 0 s.size))
    (λ w lt.
    let within : w < s.size = omega (arith, long, lt)
    in sym (get_or-map-range_with_len value 0 s.size w w No within (omega arith)
    ∙ value_in-fits plane (tuple w) ((places w).0 ∙ sym (HasArity-is s pred arity has))
    ∙ ap (λ r. cell plane.rows r (column_of (tuple w))) (places w).1
    ∙ ap (cell plane.rows row) (places w).2))

pub unary_row_is : (s : StructureForm) (pred : ℕ) → IsStructure s → HasArity s pred 1
    → row_in (plane_at (table_of s) pred) 0 ≡ unary_row s pred
unary_row_is s pred is has = row_is s pred 1 0 (λ u. u ∷ []) is has refl (omega arith) (λ w. (refl, refl, refl))

pub row_at_is : (s : StructureForm) (pred u : ℕ) → IsStructure s → HasArity s pred 2 → u < s.size
    → row_in (plane_at (table_of s) pred) u ≡ row_at s pred u
row_at_is s pred u is has lt = row_is s pred 2 u (λ w. u ∷ w ∷ []) is has refl lt (λ w. (refl, refl, refl))

-- what stands in a column, and how long it is
module _ (s : StructureForm) (pred w : ℕ) where
  pub column-long : length (column_at s pred w) ≡ s.size
  column-long = length-map-range_with_len (λ u. value_at s pred (u ∷ w ∷ [])) 0 s.size

  pub column-entry : (u : ℕ) → u < s.size → get_or (column_at s pred w) u No ≡ value_at s pred (u ∷ w ∷ [])
  column-entry u lt = get_or-map-range_with_len (λ u. value_at s pred (u ∷ w ∷ [])) 0 s.size u u No lt (omega arith)

-- and in a row
pub row-entry : (s : StructureForm) (pred u w : ℕ) → IsStructure s → HasArity s pred 2 → u < s.size → w < s.size
    → get_or (row_in (plane_at (table_of s) pred) u) w No ≡ value_at s pred (u ∷ w ∷ [])
row-entry s pred u w is has lu lw =
    ap (λ line. get_or line w No) (row_at_is s pred u is has lu)
    ∙ get_or-map-range_with_len (λ x. value_at s pred (u ∷ x ∷ [])) 0 s.size w w No lw (omega arith)

-- ---- a row is written

module _ (s : StructureForm) (pred row : ℕ) (values : List K3) (is : IsStructure s) (lp : pred < length s.planes)
    (lr : row < length (plane_at (table_of s) pred).rows)
    (long : length values ≡ column_count s.size (plane_at (table_of s) pred).arity) where
  abbrev pub plane : PlaneForm
  plane = plane_at (table_of s) pred

  abbrev pub new : PlaneForm
  new = record plane { rows = set plane.rows row values }

  mark_kept : (fresh : Option ℕ) → IsMark s fresh → IsMark (with_row s pred row values) fresh
  mark_kept None mark = tt
  mark_kept (Some u) mark = mark

  pub IsStructure-with_row : IsStructure (with_row s pred row values)
  IsStructure-with_row = record {
    table = IsTable-with_row (table_of s) pred row values is.table lp long;
    summaries = is.summaries;
    fresh = mark_kept s.fresh is.fresh;
  }

  pub arities_of-with_row : arities_of (with_row s pred row values) ≡ arities_of s
  arities_of-with_row = map-set_same (λ p. p.arity) s.planes pred new no_plane refl

  pub plane-with_row : plane_at (table_of (with_row s pred row values)) pred ≡ new
  plane-with_row = get_or-set_same s.planes pred new no_plane lp

  pub row-with_row : row_in (plane_at (table_of (with_row s pred row values)) pred) row ≡ values
  row-with_row = ap (λ (p : PlaneForm). row_in p row) plane-with_row ∙ get_or-set_same plane.rows row values [] lr

  pub others-with_row : (q : ℕ) (tuple : List ℕ) → q ≢ pred → value_at (with_row s pred row values) q tuple ≡ value_at s q tuple
  others-with_row q tuple apart = ap (λ (p : PlaneForm). value_in p tuple) (get_or-set_other s.planes pred q new no_plane apart)

  pub other_rows-with_row : (q : ℕ) (tuple : List ℕ) → ¬ ((q ≡ pred) × (row_of tuple ≡ row))
      → value_at (with_row s pred row values) q tuple ≡ value_at s q tuple
  other_rows-with_row q tuple apart = at (cases_eq q pred)
    where
      same_row : row_of tuple ≢ row → value_in new tuple ≡ value_in plane tuple
      same_row ne =
          ap (λ (line : List K3). if length tuple == plane.arity then get_or line (column_of tuple) No else No)
          (get_or-set_other plane.rows row (row_of tuple) values [] ne)

      at : (q ≡ pred) ⊎ (q ≢ pred) → value_at (with_row s pred row values) q tuple ≡ value_at s q tuple
      at (inl e) =
          ap (λ p. value_at (with_row s pred row values) p tuple) e
          ∙ ap (λ (p : PlaneForm). value_in p tuple) plane-with_row ∙ same_row (λ f. apart (e, f))
          ∙ sym (ap (λ p. value_at s p tuple) e)
      at (inr ne) = others-with_row q tuple ne

-- ---- a list that is overwritten from the front

-- the first i elements of xs, and the others of ys
pub overwritten_more : {X : Type 0} (xs ys : List X) (i : ℕ) (x d : X) → length xs ≡ length ys → i < length xs → x ≡ get_or xs i d
    → set (take i xs ++ drop i ys) i x ≡ take (i + 1) xs ++ drop (i + 1) ys
overwritten_more [] ys i x d same lt is = absurd (omega arith)
overwritten_more (a ∷ xs) [] i x d same lt is = absurd (omega arith)
overwritten_more (a ∷ xs) (b ∷ ys) zero x d same lt is = ap (λ y. y ∷ ys) is
overwritten_more (a ∷ xs) (b ∷ ys) (suc i) x d same lt is =
    let e : suc i + 1 ≡ suc (i + 1) = omega arith
    in rw e (ap (λ rest. a ∷ rest) (overwritten_more xs ys i x d (omega arith) (omega arith) is))

pub overwritten_all : {X : Type 0} (xs ys : List X) (n : ℕ) → length xs ≤ n → length ys ≤ n → take n xs ++ drop n ys ≡ xs
overwritten_all xs ys n small also = rw (take_all n xs small, drop_all n ys also) (append-nil xs)

-- ---- a row that is built from the front

pub row_room : (values row : List K3) (n i : ℕ) → length values ≡ n → i < n → row ≡ take i values ++ drop i (replicate n No)
    → i < length row
row_room values row n i long lt is =
    omega (
      arith,
      ap length is,
      length-append (take i values) (drop i (replicate n No)),
      length-take-le i values (omega arith),
      length-drop i (replicate n No),
      length-replicate n No,
    )

pub row_more : (values row : List K3) (n i : ℕ) (k : K3) → length values ≡ n → i < n
    → row ≡ take i values ++ drop i (replicate n No) → k ≡ get_or values i No
    → set row i k ≡ take (i + 1) values ++ drop (i + 1) (replicate n No)
row_more values row n i k long lt is k_is =
    rw is (overwritten_more values (replicate n No) i k No (long ∙ sym (length-replicate n No)) (omega arith) k_is)

pub row_done : (values row : List K3) (n i : ℕ) → length values ≡ n → n ≤ i
    → row ≡ take i values ++ drop i (replicate n No) → row ≡ values
row_done values row n i long past is =
    is ∙ overwritten_all values (replicate n No) i (omega arith) (omega (arith, length-replicate n No))

-- ---- what writing a row does

pub record WritesRow (old new : StructureForm) (pred row : ℕ) : Type 0 where
  pub others : (q : ℕ) (tuple : List ℕ) → ¬ ((q ≡ pred) × (row_of tuple ≡ row)) → value_at new q tuple ≡ value_at old q tuple
  pub over : arities_of new ≡ arities_of old
  pub kept : IsStructure new

pub writes_unary_row : (old new : StructureForm) (pred : ℕ) (values : List K3) → IsStructure old → HasArity old pred 1
    → length values ≡ old.size → new ≡ with_row old pred 0 values → WritesRow old new pred 0 × (unary_row new pred ≡ values)
writes_unary_row old new pred values is has long e =
    let lp : pred < length old.planes = HasArity-lt old pred 1 has
    in let lr : 0 < length (plane_at (table_of old) pred).rows = omega (arith, HasArity-rows old pred 1 is has)
    in let fits : length values ≡ column_count old.size (plane_at (table_of old) pred).arity = long ∙ sym (HasArity-columns old pred 1 has)
    in let over : arities_of (with_row old pred 0 values) ≡ arities_of old = arities_of-with_row old pred 0 values is lp lr fits
    in let kept : IsStructure (with_row old pred 0 values) = IsStructure-with_row old pred 0 values is lp lr fits
    in rw e (
      record { others = other_rows-with_row old pred 0 values is lp lr fits; over = over; kept = kept },
      sym (unary_row_is (with_row old pred 0 values) pred kept (ap (λ xs. slice_get xs pred) over ∙ has))
          ∙ row-with_row old pred 0 values is lp lr fits,
    )

pub writes_row : (old new : StructureForm) (pred u : ℕ) (values : List K3) → IsStructure old → HasArity old pred 2
    → u < old.size → length values ≡ old.size → new ≡ with_row old pred u values → WritesRow old new pred u × (row_at new pred u ≡ values)
writes_row old new pred u values is has lt long e =
    let lp : pred < length old.planes = HasArity-lt old pred 2 has
    in let lr : u < length (plane_at (table_of old) pred).rows = omega (arith, HasArity-rows old pred 2 is has)
    in let fits : length values ≡ column_count old.size (plane_at (table_of old) pred).arity = long ∙ sym (HasArity-columns old pred 2 has)
    in let over : arities_of (with_row old pred u values) ≡ arities_of old = arities_of-with_row old pred u values is lp lr fits
    in let kept : IsStructure (with_row old pred u values) = IsStructure-with_row old pred u values is lp lr fits
    in rw e (
      record { others = other_rows-with_row old pred u values is lp lr fits; over = over; kept = kept },
      sym (row_at_is (with_row old pred u values) pred u kept (ap (λ xs. slice_get xs pred) over ∙ has) lt)
          ∙ row-with_row old pred u values is lp lr fits,
    )
