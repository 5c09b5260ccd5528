-- Tables drawn from others, plane by plane and row by row.
use Rattle.std.specs.List.{range_with_len}
use Rattle.std.proofs.Common.{zero-add}
use Rattle.std.proofs.lemmas.List.FromFn.{length-range_with_len, get_or-range_with_len}
use Rattle.std.proofs.Common.{ℕ, ◌≡◌, ◌<◌, ◌≤◌, ◌≢◌, ◌+◌, ◌==◌, Bool, true, false, if◌then◌else◌, List, []}
use Rattle.std.proofs.Common.{◌∷◌, ◌++◌, length, map, get_or, set, take, drop, replicate, ne_eqb, Some, refl}
use Rattle.std.proofs.Common.{sym, ap, ◌∙◌, zero, suc, arith}
use Rattle.std.proofs.lemmas.List.{length-map, get_or-map, get_or-set_same, get_or_past, set-set}
use Rattle.std.specs.Prelude.{slice_get}
use Rattle.std.proofs.lemmas.Option.{get_or_from_slice_get}
use Rattle.tv_kleene.specs.declared.K3.{K3}
use Rattle.tv_kleene.specs.declared.K3.TheVariants.{No}
use Rattle.tv_structure_form.specs.TableForm.{PlaneForm, TableForm, IsTable, no_plane, plane_at, row_in}
use Rattle.tv_structure_form.specs.TableForm.{row_count}
use Rattle.tv_structure_form.specs.TableForm.{column_count, plane_of_no, table_with_row, plane_drawn}
use Rattle.tv_structure_form.specs.TableForm.{arities_in}
use Rattle.tv_structure_form.specs.TableForm.{selected}
use Rattle.tv_struct.proofs.RowLaws.{overwritten_more, overwritten_all}

-- the table in which the first i rows of a predicate are these
abbrev pub drawn_so_far : (old : TableForm) → (pred i : ℕ) → (rows : List (List K3)) → TableForm
drawn_so_far old pred i rows = record old {
  planes = set old.planes pred (record (plane_at old pred) { rows = take i rows ++ drop i (plane_at old pred).rows });
}

pub drawn_step : (old : TableForm) (pred i : ℕ) (rows : List (List K3)) (values : List K3) → pred < length old.planes
    → length rows ≡ length (plane_at old pred).rows → i < length rows → values ≡ get_or rows i []
    → table_with_row (drawn_so_far old pred i rows) pred i values ≡ drawn_so_far old pred (i + 1) rows
drawn_step old pred i rows values lp same lt is =
    let plane : PlaneForm = plane_at old pred
    in let mid : PlaneForm = record plane { rows = take i rows ++ drop i plane.rows }
    in ap (λ (p : PlaneForm). record old { planes = set (set old.planes pred mid) pred (record p { rows = set p.rows i values }) })
    (get_or-set_same old.planes pred mid no_plane lp)
    ∙ ap (λ (planes : List PlaneForm). record old { planes = planes })
    (set-set old.planes pred mid (record mid { rows = set mid.rows i values }))
    ∙ ap (λ (lines : List (List K3)). record old { planes = set old.planes pred (record plane { rows = lines }) })
    (overwritten_more rows plane.rows i values [] same lt is)

pub drawn_end : (old : TableForm) (pred i : ℕ) (plane : PlaneForm) → (plane_at old pred).arity ≡ plane.arity
    → length plane.rows ≤ i → length (plane_at old pred).rows ≤ i
    → drawn_so_far old pred i plane.rows ≡ record old { planes = set old.planes pred plane }
drawn_end old pred i plane arity long also =
    ap (λ (lines : List (List K3)). record old { planes = set old.planes pred (record (plane_at old pred) { rows = lines }) })
    (overwritten_all plane.rows (plane_at old pred).rows i long also)
    ∙ ap (λ (n : ℕ). record old { planes = set old.planes pred (record { arity = n; rows = plane.rows }) }) arity

-- ---- the rows and columns of a drawn plane

abbrev pub row_origins : (arity : ℕ) → List ℕ → List ℕ
row_origins arity origins = if arity == 2 then origins else 0 ∷ []

abbrev pub column_origins : (arity : ℕ) → List ℕ → List ℕ
column_origins arity origins = if arity == 0 then 0 ∷ [] else origins

pub column_origins-count : (arity : ℕ) (origins : List ℕ) → length (column_origins arity origins) ≡ column_count (length origins) arity
column_origins-count arity origins = at (arity == 0)
  where
    at : (b : Bool) → length (if b then 0 ∷ [] else origins) ≡ (if b then 1 else length origins)
    at true = refl
    at false = refl

pub row_origins-count : (arity : ℕ) (origins : List ℕ) → length (row_origins arity origins) ≡ row_count (length origins) arity
row_origins-count arity origins = at (arity == 2)
  where
    at : (b : Bool) → length (if b then origins else 0 ∷ []) ≡ (if b then length origins else 1)
    at true = refl
    at false = refl

module _ (old : TableForm) (source : PlaneForm) (origins : List ℕ) (pred : ℕ) (is : IsTable old) (lp : pred < length old.planes)
    (size : old.size ≡ length origins) (arity : (plane_at old pred).arity ≡ source.arity) where
  pub rows_many : length (plane_drawn origins source).rows ≡ length (plane_at old pred).rows
  rows_many =
      length-map (row_origins source.arity origins) (λ row. selected No (get_or source.rows row []) (column_origins source.arity origins))
      ∙ row_origins-count source.arity origins ∙ ap (λ n. row_count n source.arity) (sym size)
      ∙ ap (row_count old.size) (sym arity) ∙ sym ((is.planes pred no_plane lp).rows)

  pub row_drawn_is : (i : ℕ) → i < length (row_origins source.arity origins)
      → get_or (plane_drawn origins source).rows i []
      ≡ selected No (row_in source (get_or (row_origins source.arity origins) i 0)) (column_origins source.arity origins)
  row_drawn_is i lt =
      get_or-map (λ row. selected No (get_or source.rows row []) (column_origins source.arity origins)) (row_origins source.arity origins) i 0
      [] lt

-- ---- all planes

pub overwritten_at : {X : Type 0} (xs ys : List X) (i : ℕ) (d : X) → length xs ≡ length ys → i < length xs
    → get_or (take i xs ++ drop i ys) i d ≡ get_or ys i d
overwritten_at [] ys i d same lt = absurd (omega arith)
overwritten_at (x ∷ xs) [] i d same lt = absurd (omega arith)
overwritten_at (x ∷ xs) (y ∷ ys) zero d same lt = refl
overwritten_at (x ∷ xs) (y ∷ ys) (suc i) d same lt = overwritten_at xs ys i d (omega arith) (omega arith)

-- the table of which the first i planes are drawn, and the others have No everywhere
abbrev pub planes_so_far : (source : TableForm) → (origins : List ℕ) → (i : ℕ) → List PlaneForm
planes_so_far source origins i =
    take i (map (plane_drawn origins) source.planes) ++ drop i (map (plane_of_no (length origins)) (arities_in source.planes))

module _ (source : TableForm) (origins : List ℕ) where
  planes_many : length (map (plane_drawn origins) source.planes) ≡ length (map (plane_of_no (length origins)) (arities_in source.planes))
  planes_many =
      length-map source.planes (plane_drawn origins)
      ∙ sym (length-map (arities_in source.planes) (plane_of_no (length origins)) ∙ length-map source.planes (λ plane. plane.arity))

  pub planes_arity : (i : ℕ) → i < length source.planes
      → (get_or (planes_so_far source origins i) i no_plane).arity ≡ (plane_at source i).arity
  planes_arity i lt =
      let many : length (map (plane_drawn origins) source.planes) ≡ length source.planes = length-map source.planes (plane_drawn origins)
      in let also : length (arities_in source.planes) ≡ length source.planes = length-map source.planes (λ plane. plane.arity)
      in ap (λ (p : PlaneForm). p.arity)
      (overwritten_at (map (plane_drawn origins) source.planes) (map (plane_of_no (length origins)) (arities_in source.planes)) i no_plane
      planes_many (omega (arith, many))
      ∙ get_or-map (plane_of_no (length origins)) (arities_in source.planes) i 0 no_plane (omega (arith, also)))
      ∙ get_or-map (λ plane. plane.arity) source.planes i no_plane 0 lt

  pub planes_blank : (i : ℕ) → i < length source.planes
      → get_or (planes_so_far source origins i) i no_plane ≡ plane_of_no (length origins) (plane_at source i).arity
  planes_blank i lt =
      let many : length (map (plane_drawn origins) source.planes) ≡ length source.planes = length-map source.planes (plane_drawn origins)
      in let also : length (arities_in source.planes) ≡ length source.planes = length-map source.planes (λ plane. plane.arity)
      in overwritten_at (map (plane_drawn origins) source.planes) (map (plane_of_no (length origins)) (arities_in source.planes)) i no_plane
      planes_many (omega (arith, many))
      ∙ get_or-map (plane_of_no (length origins)) (arities_in source.planes) i 0 no_plane (omega (arith, also))
      ∙ ap (plane_of_no (length origins)) (get_or-map (λ plane. plane.arity) source.planes i no_plane 0 lt)

  pub planes_step : (i : ℕ) → i < length source.planes
      → set (planes_so_far source origins i) i (plane_drawn origins (plane_at source i)) ≡ planes_so_far source origins (i + 1)
  planes_step i lt =
      let many : length (map (plane_drawn origins) source.planes) ≡ length source.planes = length-map source.planes (plane_drawn origins)
      in overwritten_more (map (plane_drawn origins) source.planes) (map (plane_of_no (length origins)) (arities_in source.planes)) i
      (plane_drawn origins (plane_at source i)) no_plane planes_many (omega (arith, many))
      (sym (get_or-map (plane_drawn origins) source.planes i no_plane no_plane lt))

-- ---- one row is drawn

pub arity_read : (t : TableForm) (pred arity : ℕ) → pred < length t.planes → slice_get (arities_in t.planes) pred ≡ Some arity
    → arity ≡ (plane_at t pred).arity
arity_read t pred arity lt has =
    sym (get_or_from_slice_get (arities_in t.planes) pred arity 0 has) ∙ get_or-map (λ plane. plane.arity) t.planes pred no_plane 0 lt

-- the rows of a drawn plane, where its origins are read from lists
pub record DrawsFrom (source : PlaneForm) (origins rows columns : List ℕ) : Type 0 where
  pub rows_are : rows ≡ row_origins source.arity origins
  pub columns_are : columns ≡ column_origins source.arity origins

pub draws_from : (source : PlaneForm) (origins rows columns : List ℕ) (arity : ℕ) → arity ≡ source.arity
    → rows ≡ row_origins arity origins → columns ≡ column_origins arity origins → DrawsFrom source origins rows columns
draws_from source origins rows columns arity e r c = record {
  rows_are = r ∙ ap (λ n. row_origins n origins) e;
  columns_are = c ∙ ap (λ n. column_origins n origins) e;
}

pub drawn_row : (old : TableForm) (source : PlaneForm) (origins rows columns : List ℕ) (pred i : ℕ) (values : List K3) → IsTable old
    → pred < length old.planes → old.size ≡ length origins → (plane_at old pred).arity ≡ source.arity
    → DrawsFrom source origins rows columns → i < length rows → values ≡ selected No (row_in source (get_or rows i 0)) columns
    → table_with_row (drawn_so_far old pred i (plane_drawn origins source).rows) pred i values
    ≡ drawn_so_far old pred (i + 1) (plane_drawn origins source).rows
drawn_row old source origins rows columns pred i values is lp size arity from lt e =
    let here : i < length (row_origins source.arity origins) = omega (arith, ap length from.rows_are)
    in let many : length (plane_drawn origins source).rows ≡ length (row_origins source.arity origins)
    = length-map (row_origins source.arity origins) (λ row. selected No (get_or source.rows row []) (column_origins source.arity origins))
    in drawn_step old pred i (plane_drawn origins source).rows values lp (rows_many old source origins pred is lp size arity)
    (omega (arith, many, here))
    (e ∙ ap (λ (us : List ℕ). selected No (row_in source (get_or us i 0)) columns) from.rows_are
    ∙ ap (λ (us : List ℕ). selected No (row_in source (get_or (row_origins source.arity origins) i 0)) us) from.columns_are
    ∙ sym (row_drawn_is old source origins pred is lp size arity i here))

pub drawn_plane : (old : TableForm) (source : PlaneForm) (origins rows columns : List ℕ) (pred i : ℕ) → IsTable old
    → pred < length old.planes → old.size ≡ length origins → (plane_at old pred).arity ≡ source.arity
    → DrawsFrom source origins rows columns → length rows ≤ i
    → drawn_so_far old pred i (plane_drawn origins source).rows ≡ record old { planes = set old.planes pred (plane_drawn origins source) }
drawn_plane old source origins rows columns pred i is lp size arity from past =
    let many : length (plane_drawn origins source).rows ≡ length (row_origins source.arity origins)
    = length-map (row_origins source.arity origins) (λ row. selected No (get_or source.rows row []) (column_origins source.arity origins))
    in drawn_end old pred i (plane_drawn origins source) arity (omega (arith, many, ap length from.rows_are))
    (omega (arith, many, ap length from.rows_are, rows_many old source origins pred is lp size arity))

-- ---- what stands for a row that is drawn

-- a row that isn't there is drawn as No
pub none_selected : (origins : List ℕ) → selected No [] origins ≡ replicate (length origins) No
none_selected [] = refl
none_selected (origin ∷ origins) = ap (λ (row : List K3). No ∷ row) (none_selected origins)

pub no_row : (plane : PlaneForm) (origins : List ℕ) (from n : ℕ) → length plane.rows ≤ from → n ≡ column_count (length origins) plane.arity
    → replicate n No ≡ selected No (row_in plane from) (column_origins plane.arity origins)
no_row plane origins from n past count =
    ap (λ m. replicate m No) (count ∙ sym (column_origins-count plane.arity origins)) ∙ sym (none_selected (column_origins plane.arity origins))
    ∙ ap (λ (row : List K3). selected No row (column_origins plane.arity origins)) (sym (get_or_past plane.rows from [] past))

-- the one value of a nullary predicate is drawn as it is
set_one : (row : List K3) (k : K3) → length row ≡ 1 → set row 0 k ≡ k ∷ []
set_one [] k e = absurd (omega arith)
set_one (x ∷ []) k e = refl
set_one (x ∷ y ∷ row) k e = absurd (omega arith)

pub one_value : (row source : List K3) (arity : ℕ) (origins : List ℕ) → arity ≡ 0 → length row ≡ 1
    → set row 0 (get_or source 0 No) ≡ selected No source (column_origins arity origins)
one_value row source arity origins e long =
    set_one row (get_or source 0 No) long ∙ sym (ap (λ n. selected No source (column_origins n origins)) e)

pub with_arguments : (source : List K3) (arity : ℕ) (origins : List ℕ) → arity ≢ 0
    → selected No source origins ≡ selected No source (column_origins arity origins)
with_arguments source arity origins ne =
    sym (ap (λ b. selected No source (if b then 0 ∷ [] else origins)) (ne_eqb arity 0 ne))

pub columns_as_many : (size arity : ℕ) → arity ≢ 0 → size ≡ column_count size arity
columns_as_many size arity ne = sym (ap (λ b. if b then 1 else size) (ne_eqb arity 0 ne))

-- the rows of all individuals, in order, are each its own origin
pub own_origin : (arity n row : ℕ) → row < length (row_origins arity (range_with_len 0 n))
    → get_or (row_origins arity (range_with_len 0 n)) row 0 ≡ row
own_origin arity n row lt = at (arity == 2) lt
  where
    at : (b : Bool) → row < length (if b then range_with_len 0 n else 0 ∷ []) → get_or (if b then range_with_len 0 n else 0 ∷ []) row 0 ≡ row
    at true lt = get_or-range_with_len 0 n row 0 (omega (arith, lt, length-range_with_len 0 n)) ∙ zero-add row
    at false lt = (let first : row ≡ 0 = omega (arith, lt) in ap (λ i. get_or (0 ∷ []) i 0) first ∙ sym first)

-- ---- a predicate of one row that is No everywhere

none_drawn : (values : List K3) → ((u : ℕ) → get_or values u No ≡ No) → (origins : List ℕ)
    → selected No values origins ≡ replicate (length origins) No
none_drawn values none [] = refl
none_drawn values none (o ∷ origins) =
    ap (λ (k : K3). k ∷ selected No values origins) (none o) ∙ ap (λ (row : List K3). No ∷ row) (none_drawn values none origins)

pub nowhere_drawn : (plane : PlaneForm) (origins : List ℕ) → plane.arity ≢ 2 → ((u : ℕ) → get_or (row_in plane 0) u No ≡ No)
    → plane_drawn origins plane ≡ plane_of_no (length origins) plane.arity
nowhere_drawn plane origins flat none = λ i. record { arity = plane.arity; rows = rows i }
  where
    columns : ℕ
    columns = column_count (length origins) plane.arity

    row : selected No (row_in plane 0) (column_origins plane.arity origins) ≡ replicate columns No
    row =
        none_drawn (row_in plane 0) none (column_origins plane.arity origins)
        ∙ ap (λ n. replicate n No) (column_origins-count plane.arity origins)

    rows : (plane_drawn origins plane).rows ≡ (plane_of_no (length origins) plane.arity).rows
    rows =
        ap (λ b. map (λ u. selected No (row_in plane u) (column_origins plane.arity origins)) (if b then origins else 0 ∷ []))
        (ne_eqb plane.arity 2 flat)
        ∙ ap (λ (values : List K3). values ∷ []) row
        ∙ sym (ap (λ b. replicate (if b then length origins else 1) (replicate columns No)) (ne_eqb plane.arity 2 flat))
