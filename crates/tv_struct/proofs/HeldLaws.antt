-- Tables that are held in one list of words.
use Rattle.std.proofs.Common.{ℕ, ◌≡◌, ◌≢◌, ◌<◌, ◌≤◌, ◌+◌, ◌-◌, ◌*◌, ◌/◌, ◌%◌, ◌^◌, zero, suc, min, true}
use Rattle.std.proofs.Common.{false}
use Rattle.std.proofs.Common.{Bool, if◌then◌else◌, ◌==◌, List, [], ◌∷◌, ◌++◌, length, map, get_or, set, take}
use Rattle.std.proofs.Common.{replicate, refl, sym, ap, subst, add-zero, ◌∙◌, inl, inr, ⊎_elim, ◌⊎◌, arith}
use Rattle.std.specs.Prelude.{All}
use Rattle.std.specs.List.{range_with_len}
use Rattle.std.proofs.lemmas.Bool.{cases_eq, cases_lt}
use Rattle.std.proofs.lemmas.Nat.{row_fits}
use Rattle.std.proofs.lemmas.List.{length-set, length-replicate, get_or-set_same}
use Rattle.std.proofs.lemmas.List.{get_or-set_other, get_or-replicate, get_or_past, get_or_default, take_more}
use Rattle.std.proofs.lemmas.List.{length-take-le, ext_get_or}
use Rattle.std.proofs.lemmas.List.FromFn.{length-map-range_with_len, get_or-map-range_with_len}
use Rattle.tv_kleene.specs.declared.K3.{K3}
use Rattle.tv_kleene.specs.declared.K3.TheVariants.{No}
use Rattle.tv_row.specs.Places.{AreWords, word_at, value_in, with_value, row_of}
use Rattle.tv_row.specs.Packed.{cells_for}
use Rattle.tv_row.proofs.PackedLaws.{IsEnough, cells_enough, cells_fill, fills_some}
use Rattle.tv_row.proofs.PlaceLaws.{length-row_of, get_or-row_of, no_value, put_same, put_other}
use Rattle.tv_structure_form.specs.TableForm.{PlaneForm, TableForm, IsPlane, IsTable, no_plane, plane_at}
use Rattle.tv_structure_form.specs.TableForm.{row_in}
use Rattle.tv_structure_form.specs.TableForm.{column_in, cell, row_count, column_count, plane_of_no}
use Rattle.tv_structure_form.specs.TableForm.{table_of_no}
use Rattle.tv_structure_form.specs.TableForm.{table_with_row, arities_in}
use Rattle.tv_struct.specs.LayoutForm.{LayoutForm, IsLayout, words_for, starts_from, end_from, row_place}
use Rattle.tv_struct.specs.LayoutForm.{plane_held, planes_held, table_held, NoBeyond, HoldsTable}

-- ---- rows of words

-- how many words that many values take
abbrev pub words_of : ℕ → ℕ
words_of columns = columns / 64 + min 1 (columns % 64)

pub few_words : (size : ℕ) → size ≤ 256 → words_for size ≤ 4
few_words size small = omega arith

pub columns_fit : (size arity : ℕ) → (column_count size arity ≤ 64 * words_for size) × (words_of (column_count size arity) ≤ words_for size)
columns_fit size arity = at (arity == 0)
  where
    at : (b : Bool) → ((if b then 1 else size) ≤ 64 * words_for size) × (words_of (if b then 1 else size) ≤ words_for size)
    at true = (omega arith, omega arith)
    at false = (omega arith, omega arith)

-- the columns of rows over so many individuals have room
pub cells_room : (size arity column : ℕ) → column < column_count size arity → column % 64 < cells_for size
cells_room size arity column lt = at (arity == 0) (cells_enough size) lt
  where
    at : (b : Bool) → IsEnough size (cells_for size) → column < (if b then 1 else size) → column % 64 < cells_for size
    at b (inl e) lt = rw e (omega arith)
    at true (inr h) lt = (let none : column % 64 ≡ 0 = omega arith in rw none h.0)
    at false (inr h) lt = below (cells_for size) (omega (arith, lt)) h.1
      where
        below : (cells : ℕ) → column < size → size ≤ cells → column % 64 < cells
        below cells lt le = omega arith

pub values_room : (size arity cells long : ℕ) → cells ≡ cells_for size → long ≡ column_count size arity → (cells ≡ 64) ⊎ (long ≤ cells)
values_room size arity cells long room is = at (arity == 0) (cells_enough size) is
  where
    at : (b : Bool) → IsEnough size (cells_for size) → long ≡ (if b then 1 else size) → (cells ≡ 64) ⊎ (long ≤ cells)
    at b (inl e) is = inl (room ∙ e)
    at true (inr h) is = inr (rw (is, room) h.0)
    at false (inr h) is = inr (rw (is, room) h.1)

pub narrow_row : (size arity cells columns : ℕ) → cells ≡ cells_for size → columns ≡ column_count size arity
    → (cells ≡ 64) ⊎ (columns ≤ 64)
narrow_row size arity cells columns room is =
    let most : cells ≤ 64 = rw room (fills_some (cells_for size) (cells_fill size)).1
    in ⊎_elim (λ wide. inl wide) (λ fits. inr (omega (arith, fits, most))) (values_room size arity cells columns room is)

-- ---- one plane

pub length-plane_held : (words : List (List K3)) (width size start arity : ℕ)
    → length (plane_held words width size start arity).rows ≡ row_count size arity
unfolding plane_held
length-plane_held words width size start arity =
    length-map-range_with_len (λ row. row_of words (column_count size arity) ((start + row) * width)) 0 (row_count size arity)

pub arity-plane_held : (words : List (List K3)) (width size start arity : ℕ) → (plane_held words width size start arity).arity ≡ arity
unfolding plane_held
arity-plane_held words width size start arity = refl

pub row-plane_held : (words : List (List K3)) (width size start arity row : ℕ) → row < row_count size arity
    → row_in (plane_held words width size start arity) row ≡ row_of words (column_count size arity) ((start + row) * width)
unfolding plane_held
row-plane_held words width size start arity row lt =
    get_or-map-range_with_len (λ row. row_of words (column_count size arity) ((start + row) * width)) 0 (row_count size arity) row row []
    lt (omega arith)

pub IsPlane-held : (words : List (List K3)) (width size start arity : ℕ) → arity ≤ 2 → IsPlane size (plane_held words width size start arity)
IsPlane-held words width size start arity small = record {
  arity = rw (arity-plane_held words width size start arity) small;
  rows = length-plane_held words width size start arity ∙ ap (row_count size) (sym (arity-plane_held words width size start arity));
  columns = λ row d lt.
      (let lr : row < row_count size arity = omega (arith, length-plane_held words width size start arity)
      in ap length (get_or_any (plane_held words width size start arity).rows row d lt ∙ row-plane_held words width size start arity row lr)
      ∙ length-row_of words (column_count size arity) ((start + row) * width)
      ∙ ap (column_count size) (sym (arity-plane_held words width size start arity)));
}
  where
    get_or_any : (rows : List (List K3)) (row : ℕ) (d : List K3) → row < length rows → get_or rows row d ≡ get_or rows row []
    get_or_any rows row d lt = get_or_default rows row d [] lt

-- ---- the planes one after another

pub length-planes_held : (words : List (List K3)) (width size start : ℕ) (arities : List ℕ)
    → length (planes_held words width size start arities) ≡ length arities
length-planes_held words width size start [] = refl
length-planes_held words width size start (arity ∷ arities) =
    ap suc (length-planes_held words width size (start + row_count size arity) arities)

pub arities-planes_held : (words : List (List K3)) (width size start : ℕ) (arities : List ℕ)
    → arities_in (planes_held words width size start arities) ≡ arities
arities-planes_held words width size start [] = refl
arities-planes_held words width size start (arity ∷ arities) =
    let head : (plane_held words width size start arity).arity ≡ arity = arity-plane_held words width size start arity
    in let tail : arities_in (planes_held words width size (start + row_count size arity) arities) ≡ arities
    = arities-planes_held words width size (start + row_count size arity) arities
    in λ i. head i ∷ tail i

pub end_above : (size start : ℕ) (arities : List ℕ) → start ≤ end_from size start arities
end_above size start [] = omega arith
end_above size start (arity ∷ arities) = omega (arith, end_above size (start + row_count size arity) arities)

rows_small : (size arity : ℕ) → size ≤ 256 → row_count size arity ≤ 256
rows_small size arity small = at (arity == 2)
  where
    at : (b : Bool) → (if b then size else 1) ≤ 256
    at true = small
    at false = omega arith

pub end_small : (size start : ℕ) (arities : List ℕ) → size ≤ 256 → end_from size start arities ≤ start + 256 * length arities
end_small size start [] small = omega arith
end_small size start (arity ∷ arities) small =
    omega (arith, end_small size (start + row_count size arity) arities small, rows_small size arity small)

pub plane_is : (words : List (List K3)) (width size start : ℕ) (arities : List ℕ) (pred : ℕ) → pred < length arities
    → get_or (planes_held words width size start arities) pred no_plane
    ≡ plane_held words width size (get_or (starts_from size start arities) pred 0) (get_or arities pred 0)
plane_is words width size start [] pred lt = absurd (omega arith)
plane_is words width size start (arity ∷ arities) zero lt = refl
plane_is words width size start (arity ∷ arities) (suc pred) lt =
    plane_is words width size (start + row_count size arity) arities pred (omega arith)

-- a predicate's rows lie between the first and the end
pub start_within : (size start : ℕ) (arities : List ℕ) (pred : ℕ) → pred < length arities
    → (start ≤ get_or (starts_from size start arities) pred 0)
    × (get_or (starts_from size start arities) pred 0 + row_count size (get_or arities pred 0) ≤ end_from size start arities)
start_within size start [] pred lt = absurd (omega arith)
start_within size start (arity ∷ arities) zero lt = (omega arith, end_above size (start + row_count size arity) arities)
start_within size start (arity ∷ arities) (suc pred) lt =
    let after : ℕ = start + row_count size arity
    in let h : (after ≤ get_or (starts_from size after arities) pred 0)
    × (get_or (starts_from size after arities) pred 0 + row_count size (get_or arities pred 0) ≤ end_from size after arities)
    = start_within size after arities pred (omega arith)
    in (omega (arith, h.0), h.1)

pub IsTable-held : (l : LayoutForm) (words : List (List K3)) → IsLayout l → IsTable (table_held l words)
IsTable-held l words is = record {
  size = is.size;
  predicates = rw (length-planes_held words (words_for l.size) l.size 0 l.arities) is.predicates;
  planes = each 0 l.arities is.arities;
}
  where
    each : (start : ℕ) (arities : List ℕ) → All (λ arity. arity ≤ 2) arities
        → All (IsPlane l.size) (planes_held words (words_for l.size) l.size start arities)
    each start [] known k d lt = absurd (omega arith)
    each start (arity ∷ arities) known zero d lt = IsPlane-held words (words_for l.size) l.size start arity (known 0 0 (omega arith))
    each start (arity ∷ arities) known (suc k) d lt =
        each (start + row_count l.size arity) arities (λ i e within. known (suc i) e (omega arith)) k d (omega arith)

-- ---- the layout is computed

starts-append : (size start arity : ℕ) (arities : List ℕ)
    → starts_from size start (arities ++ arity ∷ []) ≡ starts_from size start arities ++ end_from size start arities ∷ []
starts-append size start arity [] = refl
starts-append size start arity (first ∷ arities) =
    ap (λ rest. start ∷ rest) (starts-append size (start + row_count size first) arity arities)

end-append : (size start arity : ℕ) (arities : List ℕ)
    → end_from size start (arities ++ arity ∷ []) ≡ end_from size start arities + row_count size arity
end-append size start arity [] = refl
end-append size start arity (first ∷ arities) = end-append size (start + row_count size first) arity arities

pub starts_more : (size : ℕ) (arities : List ℕ) (i d : ℕ) → i < length arities
    → starts_from size 0 (take (i + 1) arities) ≡ starts_from size 0 (take i arities) ++ end_from size 0 (take i arities) ∷ []
starts_more size arities i d lt =
    ap (starts_from size 0) (take_more arities i d lt) ∙ starts-append size 0 (get_or arities i d) (take i arities)

pub end_more : (size : ℕ) (arities : List ℕ) (i d : ℕ) → i < length arities
    → end_from size 0 (take (i + 1) arities) ≡ end_from size 0 (take i arities) + row_count size (get_or arities i d)
end_more size arities i d lt =
    ap (end_from size 0) (take_more arities i d lt) ∙ end-append size 0 (get_or arities i d) (take i arities)

-- the rows so far fit a number
pub end_fits : (size : ℕ) (arities : List ℕ) (i : ℕ) → size ≤ 256 → i ≤ length arities → length arities ≤ 4294967295
    → end_from size 0 (take i arities) ≤ 256 * 4294967295
end_fits size arities i small within few =
    omega (arith, end_small size 0 (take i arities) small, length-take-le i arities within)

-- ---- No everywhere

no_row : (n columns start : ℕ) → row_of (replicate n (replicate 64 No)) columns start ≡ replicate columns No
no_row n columns start =
    ext_get_or No (row_of (replicate n (replicate 64 No)) columns start) (replicate columns No)
    (length-row_of (replicate n (replicate 64 No)) columns start ∙ sym (length-replicate columns No))
    (λ c l.
    let lc : c < columns = omega (arith, length-row_of (replicate n (replicate 64 No)) columns start)
    in get_or-row_of (replicate n (replicate 64 No)) columns start c lc ∙ no_value n start c
    ∙ sym (get_or-replicate columns c No No lc))

plane_no : (n width size start arity : ℕ) → plane_held (replicate n (replicate 64 No)) width size start arity ≡ plane_of_no size arity
unfolding plane_held
plane_no n width size start arity =
    let none : List (List K3) = replicate n (replicate 64 No)
    in let columns : ℕ = column_count size arity
    in let count : ℕ = row_count size arity
    in let row : ℕ → List K3 = λ r. row_of none columns ((start + r) * width)
    in let same : map row (range_with_len 0 count) ≡ replicate count (replicate columns No)
    = ext_get_or [] (map row (range_with_len 0 count)) (replicate count (replicate columns No))
    (length-map-range_with_len row 0 count ∙ sym (length-replicate count (replicate columns No)))
    (λ r l.
    let lr : r < count = omega (arith, length-map-range_with_len row 0 count)
    in get_or-map-range_with_len row 0 count r r [] lr (omega arith) ∙ no_row n columns ((start + r) * width)
    ∙ sym (get_or-replicate count r (replicate columns No) [] lr))
    in ap (λ (rows : List (List K3)). record { arity = arity; rows = rows }) same

planes_no : (n width size start : ℕ) (arities : List ℕ)
    → planes_held (replicate n (replicate 64 No)) width size start arities ≡ map (plane_of_no size) arities
planes_no n width size start [] = refl
planes_no n width size start (arity ∷ arities) =
    let head : plane_held (replicate n (replicate 64 No)) width size start arity ≡ plane_of_no size arity = plane_no n width size start arity
    in let tail : planes_held (replicate n (replicate 64 No)) width size (start + row_count size arity) arities ≡ map (plane_of_no size) arities
    = planes_no n width size (start + row_count size arity) arities
    in λ i. head i ∷ tail i

pub table_no : (l : LayoutForm) (n : ℕ) → table_held l (replicate n (replicate 64 No)) ≡ table_of_no l.size l.arities
table_no l n =
    ap (λ (planes : List PlaneForm). record { size = l.size; planes = planes }) (planes_no n (words_for l.size) l.size 0 l.arities)

beyond_no : (n width size start : ℕ) (arities : List ℕ) → NoBeyond (replicate n (replicate 64 No)) width size start arities
beyond_no n width size start [] = tt
beyond_no n width size start (arity ∷ arities) =
    (λ row column lr past lc. no_value n ((start + row) * width) column, beyond_no n width size (start + row_count size arity) arities)

pub HoldsTable-no : (l : LayoutForm) → IsLayout l
    → HoldsTable l (replicate (end_from l.size 0 l.arities * words_for l.size) (replicate 64 No))
HoldsTable-no l is = record {
  layout = is;
  as_many = length-replicate (end_from l.size 0 l.arities * words_for l.size) (replicate 64 No);
  unused = beyond_no (end_from l.size 0 l.arities * words_for l.size) (words_for l.size) l.size 0 l.arities;
}

-- ---- where a predicate's row lies

module _ (l : LayoutForm) (words : List (List K3)) (h : HoldsTable l words) (pred row : ℕ) (lp : pred < length l.arities)
    (lr : row < row_count l.size (get_or l.arities pred 0)) where
  place_within : row_place l pred row < end_from l.size 0 l.arities
  place_within =
      let within : (0 ≤ get_or (starts_from l.size 0 l.arities) pred 0)
      × (get_or (starts_from l.size 0 l.arities) pred 0 + row_count l.size (get_or l.arities pred 0) ≤ end_from l.size 0 l.arities)
      = start_within l.size 0 l.arities pred lp
      in omega (arith, within.1, lr)

  pub row_room : row_place l pred row * words_for l.size + words_for l.size ≤ length words
  row_room =
      omega (
        arith,
        row_fits (row_place l pred row) (words_for l.size) (end_from l.size 0 l.arities) (words_for l.size) place_within (omega arith),
        h.as_many,
      )

  pub unused_here : (column : ℕ) → column_count l.size (get_or l.arities pred 0) ≤ column → column < 64 * words_for l.size
      → value_in words (row_place l pred row * words_for l.size) column ≡ No
  unused_here column past low = at 0 l.arities pred lp lr h.unused column past low
    where
      at : (start : ℕ) (arities : List ℕ) (q : ℕ) → q < length arities → row < row_count l.size (get_or arities q 0)
          → NoBeyond words (words_for l.size) l.size start arities → (column : ℕ) → column_count l.size (get_or arities q 0) ≤ column
          → column < 64 * words_for l.size
          → value_in words ((get_or (starts_from l.size start arities) q 0 + row) * words_for l.size) column ≡ No
      at start [] q lq within none column past low = absurd (omega arith)
      at start (arity ∷ arities) zero lq within none column past low = none.0 row column within past low
      at start (arity ∷ arities) (suc q) lq within none column past low =
          at (start + row_count l.size arity) arities q (omega arith) within none.1 column past low

-- a place of the table, in terms of the layout
module _ (l : LayoutForm) (words : List (List K3)) (pred : ℕ) (lp : pred < length (table_held l words).planes) where
  pub pred_listed : pred < length l.arities
  pred_listed = omega (arith, length-planes_held words (words_for l.size) l.size 0 l.arities)

-- ---- a row of words is changed

-- the words differ at most in the first n words of row u, each row having `width` of them
module _ (words new : List (List K3)) (width u n : ℕ) (narrow : n ≤ width)
    (others : (p : ℕ) → (p < u * width) ⊎ (u * width + n ≤ p) → word_at new p ≡ word_at words p) where
  value_kept : (v c : ℕ) → c < 64 * width → (v ≢ u) ⊎ (n * 64 ≤ c) → value_in new (v * width) c ≡ value_in words (v * width) c
  value_kept v c lc apart = ap (λ word. get_or word (c % 64) No) (others (v * width + c / 64) (outside (cases_lt v u) (cases_eq v u)))
    where
      outside : (v < u) ⊎ (u ≤ v) → (v ≡ u) ⊎ (v ≢ u) → (v * width + c / 64 < u * width) ⊎ (u * width + n ≤ v * width + c / 64)
      outside (inl lt) same = inl (omega (arith, row_fits v width u width lt (omega arith)))
      outside (inr ge) (inl e) = inr (behind apart)
        where
          behind : (v ≢ u) ⊎ (n * 64 ≤ c) → u * width + n ≤ v * width + c / 64
          behind (inl ne) = absurd (ne e)
          behind (inr past) = let same : v * width ≡ u * width = ap (λ w. w * width) e in omega (arith, same, past)
      outside (inr ge) (inr ne) =
          let above : u < v = omega (arith, ge, ne)
          in inr (omega (arith, row_fits u width v width above (omega arith), narrow))

  row_kept : (columns v : ℕ) → columns ≤ 64 * width → v ≢ u → row_of new columns (v * width) ≡ row_of words columns (v * width)
  row_kept columns v room ne =
      ext_get_or No (row_of new columns (v * width)) (row_of words columns (v * width))
      (length-row_of new columns (v * width) ∙ sym (length-row_of words columns (v * width)))
      (λ c within.
      let lc : c < columns = omega (arith, length-row_of new columns (v * width))
      in get_or-row_of new columns (v * width) c lc ∙ value_kept v c (omega arith) (inl ne)
      ∙ sym (get_or-row_of words columns (v * width) c lc))

  plane_kept : (size start arity : ℕ) → column_count size arity ≤ 64 * width → (u < start) ⊎ (start + row_count size arity ≤ u)
      → plane_held new width size start arity ≡ plane_held words width size start arity
  unfolding plane_held
  plane_kept size start arity room out =
      let columns : ℕ = column_count size arity
      in let count : ℕ = row_count size arity
      in let old_row : ℕ → List K3 = λ row. row_of words columns ((start + row) * width)
      in let new_row : ℕ → List K3 = λ row. row_of new columns ((start + row) * width)
      in let same : map new_row (range_with_len 0 count) ≡ map old_row (range_with_len 0 count)
      = ext_get_or [] (map new_row (range_with_len 0 count)) (map old_row (range_with_len 0 count))
      (length-map-range_with_len new_row 0 count ∙ sym (length-map-range_with_len old_row 0 count))
      (λ r within.
      let lr : r < count = omega (arith, length-map-range_with_len new_row 0 count)
      in get_or-map-range_with_len new_row 0 count r r [] lr (omega arith)
      ∙ row_kept columns (start + r) room (λ e. absurd (⊎_elim (λ lt. omega arith) (λ le. omega arith) out))
      ∙ sym (get_or-map-range_with_len old_row 0 count r r [] lr (omega arith)))
      in ap (λ (rows : List (List K3)). record { arity = arity; rows = rows }) same

  plane_put : (size start arity row : ℕ) (values : List K3) → column_count size arity ≤ 64 * width → u ≡ start + row
      → row < row_count size arity → row_of new (column_count size arity) (u * width) ≡ values
      → plane_held new width size start arity
      ≡ record (plane_held words width size start arity) { rows = set (plane_held words width size start arity).rows row values }
  unfolding plane_held
  plane_put size start arity row values room here lr put =
      let columns : ℕ = column_count size arity
      in let count : ℕ = row_count size arity
      in let old_row : ℕ → List K3 = λ r. row_of words columns ((start + r) * width)
      in let new_row : ℕ → List K3 = λ r. row_of new columns ((start + r) * width)
      in let before : List (List K3) = map old_row (range_with_len 0 count)
      in let long : length before ≡ count = length-map-range_with_len old_row 0 count
      in let same : map new_row (range_with_len 0 count) ≡ set before row values
      = ext_get_or [] (map new_row (range_with_len 0 count)) (set before row values)
      (length-map-range_with_len new_row 0 count ∙ sym long ∙ sym (length-set before row values))
      (λ r within.
      let lt : r < count = omega (arith, length-map-range_with_len new_row 0 count)
      in get_or-map-range_with_len new_row 0 count r r [] lt (omega arith)
      ∙ ⊎_elim
      (λ e.
      ap (λ v. row_of new columns (v * width)) (let at : start + r ≡ u = omega arith in at) ∙ put
      ∙ sym (ap (λ q. get_or (set before row values) q []) e ∙ get_or-set_same before row values [] (omega arith)))
      (λ ne.
      row_kept columns (start + r) room (λ e. ne (omega arith))
      ∙ sym (get_or-map-range_with_len old_row 0 count r r [] lt (omega arith))
      ∙ sym (get_or-set_other before row r values [] ne))
      (cases_eq r row))
      in ap (λ (rows : List (List K3)). record { arity = arity; rows = rows }) same

  module _ (size : ℕ) (room : (arity : ℕ) → column_count size arity ≤ 64 * width) where
    planes_kept : (start : ℕ) (arities : List ℕ) → u < start
        → planes_held new width size start arities ≡ planes_held words width size start arities
    planes_kept start [] lt = refl
    planes_kept start (arity ∷ arities) lt =
        rw (plane_kept size start arity (room arity) (inl lt), planes_kept (start + row_count size arity) arities (omega arith)) refl

    planes_put : (start : ℕ) (arities : List ℕ) (pred row : ℕ) (values : List K3) → pred < length arities
        → u ≡ get_or (starts_from size start arities) pred 0 + row → row < row_count size (get_or arities pred 0)
        → row_of new (column_count size (get_or arities pred 0)) (u * width) ≡ values
        → planes_held new width size start arities
        ≡ set (planes_held words width size start arities) pred
        (record (get_or (planes_held words width size start arities) pred no_plane) {
          rows = set (get_or (planes_held words width size start arities) pred no_plane).rows row values;
        })
    planes_put start [] pred row values lt here lr put = absurd (omega arith)
    planes_put start (arity ∷ arities) zero row values lt here lr put =
        rw (plane_put size start arity row values (room arity) here lr put, planes_kept (start + row_count size arity) arities (omega arith)) refl
    planes_put start (arity ∷ arities) (suc pred) row values lt here lr put =
        let after : ℕ = start + row_count size arity
        in let h : (after ≤ get_or (starts_from size after arities) pred 0)
        × (get_or (starts_from size after arities) pred 0 + row_count size (get_or arities pred 0) ≤ end_from size after arities)
        = start_within size after arities pred (omega arith)
        in rw (
          plane_kept size start arity (room arity) (inr (omega (arith, h.0))),
          planes_put after arities pred row values (omega arith) here lr put,
        )
        refl

    beyond_kept : (start : ℕ) (arities : List ℕ) → u < start → NoBeyond words width size start arities
        → NoBeyond new width size start arities
    beyond_kept start [] lt none = tt
    beyond_kept start (arity ∷ arities) lt none = (
      λ r c lr past lc. value_kept (start + r) c lc (inl (λ e. omega arith)) ∙ none.0 r c lr past lc,
      beyond_kept (start + row_count size arity) arities (omega arith) none.1,
    )

    beyond_put : (start : ℕ) (arities : List ℕ) (pred row : ℕ) → pred < length arities
        → u ≡ get_or (starts_from size start arities) pred 0 + row → row < row_count size (get_or arities pred 0)
        → ((c : ℕ) → column_count size (get_or arities pred 0) ≤ c → c < 64 * width → value_in new (u * width) c ≡ No)
        → NoBeyond words width size start arities → NoBeyond new width size start arities
    beyond_put start [] pred row lt here lr unused none = tt
    beyond_put start (arity ∷ arities) zero row lt here lr unused none = (
      λ r c within past lc. at r c within past lc (cases_eq r row),
      beyond_kept (start + row_count size arity) arities (omega arith) none.1,
    )
      where
        at : (r c : ℕ) → r < row_count size arity → column_count size arity ≤ c → c < 64 * width → (r ≡ row) ⊎ (r ≢ row)
            → value_in new ((start + r) * width) c ≡ No
        at r c within past lc (inl e) =
            ap (λ v. value_in new (v * width) c) (let same : start + r ≡ u = omega arith in same) ∙ unused c past lc
        at r c within past lc (inr ne) = value_kept (start + r) c lc (inl (λ e. ne (omega arith))) ∙ none.0 r c within past lc
    beyond_put start (arity ∷ arities) (suc pred) row lt here lr unused none =
        let after : ℕ = start + row_count size arity
        in let h : (after ≤ get_or (starts_from size after arities) pred 0)
        × (get_or (starts_from size after arities) pred 0 + row_count size (get_or arities pred 0) ≤ end_from size after arities)
        = start_within size after arities pred (omega arith)
        in (
          λ r c within past lc. value_kept (start + r) c lc (inl (λ e. omega (arith, h.0))) ∙ none.0 r c within past lc,
          beyond_put after arities pred row (omega arith) here lr unused none.1,
        )

-- ---- a row is put into a table

module _ (l : LayoutForm) (words new : List (List K3)) (h : HoldsTable l words) (pred row : ℕ) (values : List K3) (lp : pred < length l.arities)
    (lr : row < row_count l.size (get_or l.arities pred 0)) (long : length values ≡ column_count l.size (get_or l.arities pred 0))
    (put : (c : ℕ) → c < 64 * words_of (length values) → value_in new (row_place l pred row * words_for l.size) c ≡ get_or values c No)
    (others : (p : ℕ) → (p < row_place l pred row * words_for l.size)
    ⊎ (row_place l pred row * words_for l.size + words_of (length values) ≤ p) → word_at new p ≡ word_at words p)
    (many : length new ≡ length words) where
  fit : (column_count l.size (get_or l.arities pred 0) ≤ 64 * words_for l.size)
      × (words_of (column_count l.size (get_or l.arities pred 0)) ≤ words_for l.size)
  fit = columns_fit l.size (get_or l.arities pred 0)

  narrow : words_of (length values) ≤ words_for l.size
  narrow = rw long fit.1

  row_new : row_of new (column_count l.size (get_or l.arities pred 0)) (row_place l pred row * words_for l.size) ≡ values
  row_new =
      let start : ℕ = row_place l pred row * words_for l.size
      in let columns : ℕ = column_count l.size (get_or l.arities pred 0)
      in ext_get_or No (row_of new columns start) values (length-row_of new columns start ∙ sym long)
      (λ c within.
      let lc : c < columns = omega (arith, length-row_of new columns start)
      in get_or-row_of new columns start c lc ∙ put c (omega (arith, long)))

  unused_new : (c : ℕ) → column_count l.size (get_or l.arities pred 0) ≤ c → c < 64 * words_for l.size
      → value_in new (row_place l pred row * words_for l.size) c ≡ No
  unused_new c past low =
      ⊎_elim
      (λ near. put c near ∙ get_or_past values c No (omega (arith, long)))
      (λ far.
      value_kept words new (words_for l.size) (row_place l pred row) (words_of (length values)) narrow others (row_place l pred row) c low
      (inr (omega arith))
      ∙ unused_here l words h pred row lp lr c past low)
      (cases_lt c (64 * words_of (length values)))

  pub table_put : table_held l new ≡ table_with_row (table_held l words) pred row values
  table_put =
      ap (λ (planes : List PlaneForm). record { size = l.size; planes = planes })
      (planes_put words new (words_for l.size) (row_place l pred row) (words_of (length values)) narrow others l.size
      (λ arity. (columns_fit l.size arity).0) 0 l.arities pred row values lp refl lr row_new)

  pub HoldsTable-put : HoldsTable l new
  HoldsTable-put = record {
    layout = h.layout;
    as_many = many ∙ h.as_many;
    unused = beyond_put words new (words_for l.size) (row_place l pred row) (words_of (length values)) narrow others l.size
        (λ arity. (columns_fit l.size arity).0) 0 l.arities pred row lp refl lr unused_new h.unused;
  }

-- ---- what the places of predicates say

-- numbers of rows and of words fit
pub words_small : (l : LayoutForm) → IsLayout l
    → (end_from l.size 0 l.arities ≤ 256 * 4294967295) × (end_from l.size 0 l.arities * words_for l.size < 2 ^ 64)
    × (end_from l.size 0 l.arities * words_for l.size ≤ 2 ^ 48)
words_small l is =
    let rows : end_from l.size 0 l.arities ≤ 256 * 4294967295 = omega (arith, end_small l.size 0 l.arities is.size, is.predicates)
    in (
      rows,
      omega (
        arith,
        row_fits (end_from l.size 0 l.arities) (words_for l.size) (256 * 4294967295 + 1) 4 (omega (arith, rows)) (few_words l.size is.size),
      ),
      omega (
        arith,
        row_fits (end_from l.size 0 l.arities) (words_for l.size) (256 * 4294967295 + 1) 4 (omega (arith, rows)) (few_words l.size is.size),
      ),
    )

pub place_small : (l : LayoutForm) (pred row : ℕ) → IsLayout l → pred < length l.arities
    → row < row_count l.size (get_or l.arities pred 0)
    → (row_place l pred row < 2 ^ 64) × (row_place l pred row * words_for l.size < 2 ^ 64)
place_small l pred row is lp lr =
    let within : (0 ≤ get_or (starts_from l.size 0 l.arities) pred 0)
    × (get_or (starts_from l.size 0 l.arities) pred 0 + row_count l.size (get_or l.arities pred 0) ≤ end_from l.size 0 l.arities)
    = start_within l.size 0 l.arities pred lp
    in let before : row_place l pred row < end_from l.size 0 l.arities = omega (arith, within.1, lr)
    in let small : (end_from l.size 0 l.arities ≤ 256 * 4294967295) × (end_from l.size 0 l.arities * words_for l.size < 2 ^ 64)
    × (end_from l.size 0 l.arities * words_for l.size ≤ 2 ^ 48)
    = words_small l is
    in (
      omega (arith, before, small.0),
      omega (
        arith,
        row_fits (row_place l pred row) (words_for l.size) (end_from l.size 0 l.arities) (words_for l.size) before (omega arith),
        small.1,
      ),
    )

-- ---- the table that is held, as its callers see it

pub now_arities : (l : LayoutForm) (words : List (List K3)) (now : TableForm) → table_held l words ≡ now → arities_in now.planes ≡ l.arities
now_arities l words now view =
    ap (λ (t : TableForm). arities_in t.planes) (sym view) ∙ arities-planes_held words (words_for l.size) l.size 0 l.arities

pub now_table : (l : LayoutForm) (words : List (List K3)) (now : TableForm) → table_held l words ≡ now → HoldsTable l words → IsTable now
now_table l words now view h = subst IsTable view (IsTable-held l words h.layout)

-- what reading a row of words says
pub record ReadsRow (l : LayoutForm) (words : List (List K3)) (now : TableForm) (pred row columns start : ℕ) : Type 0 where
  pub room : start + words_of columns ≤ length words
  pub unused : (c : ℕ) → columns ≤ c → c < 64 * words_of columns → value_in words start c ≡ No
  pub is : row_of words columns start ≡ row_in (plane_at now pred) row

module _ (l : LayoutForm) (words : List (List K3)) (now : TableForm) (view : table_held l words ≡ now) (h : HoldsTable l words) (pred : ℕ)
    (lp : pred < length now.planes) where
  pub now_listed : pred < length l.arities
  now_listed = pred_listed l words pred (subst (λ (t : TableForm). pred < length t.planes) (sym view) lp)

  plane_now : plane_at now pred
      ≡ plane_held words (words_for l.size) l.size (get_or (starts_from l.size 0 l.arities) pred 0) (get_or l.arities pred 0)
  plane_now = ap (λ (t : TableForm). plane_at t pred) (sym view) ∙ plane_is words (words_for l.size) l.size 0 l.arities pred now_listed

  pub now_arity : (plane_at now pred).arity ≡ get_or l.arities pred 0
  now_arity =
      ap (λ (p : PlaneForm). p.arity) plane_now
      ∙ arity-plane_held words (words_for l.size) l.size (get_or (starts_from l.size 0 l.arities) pred 0) (get_or l.arities pred 0)

  pub now_rows : length (plane_at now pred).rows ≡ row_count l.size (get_or l.arities pred 0)
  now_rows =
      ap (λ (p : PlaneForm). length p.rows) plane_now
      ∙ length-plane_held words (words_for l.size) l.size (get_or (starts_from l.size 0 l.arities) pred 0) (get_or l.arities pred 0)

  module _ (row : ℕ) (lr : row < length (plane_at now pred).rows) where
    pub now_row : row < row_count l.size (get_or l.arities pred 0)
    now_row = omega (arith, lr, now_rows)

    now_row_is : row_in (plane_at now pred) row
        ≡ row_of words (column_count l.size (get_or l.arities pred 0)) (row_place l pred row * words_for l.size)
    now_row_is =
        ap (λ (p : PlaneForm). row_in p row) plane_now
        ∙ row-plane_held words (words_for l.size) l.size (get_or (starts_from l.size 0 l.arities) pred 0) (get_or l.arities pred 0) row now_row

    now_room : row_place l pred row * words_for l.size + words_for l.size ≤ length words
    now_room = row_room l words h pred row now_listed now_row

    pub now_columns : length (row_in (plane_at now pred) row) ≡ column_count l.size (get_or l.arities pred 0)
    now_columns =
        ap length now_row_is ∙ length-row_of words (column_count l.size (get_or l.arities pred 0)) (row_place l pred row * words_for l.size)

    pub now_cell : (column start : ℕ) → column < length (row_in (plane_at now pred) row) → start ≡ row_place l pred row * words_for l.size
        → (start + column / 64 < length words) × (value_in words start column ≡ get_or (row_in (plane_at now pred) row) column No)
    now_cell column start lc is =
        let within : column < column_count l.size (get_or l.arities pred 0) = omega (arith, lc, now_columns)
        in let fit : column_count l.size (get_or l.arities pred 0) ≤ 64 * words_for l.size = (columns_fit l.size (get_or l.arities pred 0)).0
        in (
          omega (arith, is, within, fit, now_room),
          ap (λ s. value_in words s column) is
              ∙ sym (ap (λ line. get_or line column No) now_row_is
              ∙ get_or-row_of words (column_count l.size (get_or l.arities pred 0)) (row_place l pred row * words_for l.size) column within),
        )

    pub now_read : (columns start : ℕ) → columns ≡ column_count l.size (get_or l.arities pred 0)
        → start ≡ row_place l pred row * words_for l.size → ReadsRow l words now pred row columns start
    now_read columns start as_many is =
        let fit : (column_count l.size (get_or l.arities pred 0) ≤ 64 * words_for l.size)
        × (words_of (column_count l.size (get_or l.arities pred 0)) ≤ words_for l.size)
        = columns_fit l.size (get_or l.arities pred 0)
        in let narrow : words_of columns ≤ words_for l.size = rw as_many fit.1
        in record {
          room = omega (arith, is, narrow, now_room);
          unused = λ c past low.
              ap (λ s. value_in words s c) is
              ∙ unused_here l words h pred row now_listed now_row c (omega (arith, past, as_many)) (omega (arith, low, narrow));
          is = ap (λ n. row_of words n start) as_many
              ∙ ap (row_of words (column_count l.size (get_or l.arities pred 0))) is ∙ sym now_row_is;
        }

-- what writing a row of words does
pub record PutsRow (l : LayoutForm) (new : List (List K3)) (now : TableForm) (pred row : ℕ) (values : List K3) : Type 0 where
  pub holds : HoldsTable l new
  pub is : table_held l new ≡ table_with_row now pred row values

pub now_put : (l : LayoutForm) (words new : List (List K3)) (now : TableForm) (view : table_held l words ≡ now) (h : HoldsTable l words)
    (pred : ℕ) (lp : pred < length now.planes) (row : ℕ) (lr : row < length (plane_at now pred).rows) (values : List K3) (start : ℕ)
    → length values ≡ column_count now.size (plane_at now pred).arity → start ≡ row_place l pred row * words_for l.size
    → ((c : ℕ) → c < 64 * words_of (length values) → value_in new start c ≡ get_or values c No)
    → ((p : ℕ) → (p < start) ⊎ (start + words_of (length values) ≤ p) → word_at new p ≡ word_at words p)
    → length new ≡ length words → PutsRow l new now pred row values
now_put l words new now view h pred lp row lr values start long is put others many =
    let listed : pred < length l.arities = now_listed l words now view h pred lp
    in let within : row < row_count l.size (get_or l.arities pred 0) = now_row l words now view h pred lp row lr
    in let fits : length values ≡ column_count l.size (get_or l.arities pred 0)
    = long ∙ ap (λ n. column_count n (plane_at now pred).arity) (sym (ap (λ (t : TableForm). t.size) view))
    ∙ ap (column_count l.size) (now_arity l words now view h pred lp)
    in let Put : ℕ → Type 0 = λ s. (c : ℕ) → c < 64 * words_of (length values) → value_in new s c ≡ get_or values c No
    in let Others : ℕ → Type 0
    = λ s. (p : ℕ) → (p < s) ⊎ (s + words_of (length values) ≤ p) → word_at new p ≡ word_at words p
    in record {
      holds = HoldsTable-put l words new h pred row values listed within fits (subst Put is put) (subst Others is others) many;
      is = table_put l words new h pred row values listed within fits (subst Put is put) (subst Others is others) many
          ∙ ap (λ (t : TableForm). table_with_row t pred row values) view;
    }

-- how many columns a predicate has
pub now_seen : (l : LayoutForm) (words : List (List K3)) (now : TableForm) (view : table_held l words ≡ now) (h : HoldsTable l words)
    (pred : ℕ) (lp : pred < length now.planes)
    → column_count now.size (plane_at now pred).arity ≡ column_count l.size (get_or l.arities pred 0)
now_seen l words now view h pred lp =
    sym (ap (λ (t : TableForm). column_count t.size (plane_at now pred).arity) view)
    ∙ ap (column_count l.size) (now_arity l words now view h pred lp)

-- the values of a row of words of which one is written
put_read : (words : List (List K3)) (long : AreWords words) (start column : ℕ) (k : K3) (values : List K3) → start + column / 64 < length words
    → column < length values → row_of words (length values) start ≡ values
    → ((c : ℕ) → length values ≤ c → c < 64 * words_of (length values) → value_in words start c ≡ No)
    → (c : ℕ) → c < 64 * words_of (length values) → value_in (with_value words start column k) start c ≡ get_or (set values column k) c No
put_read words long start column k values room lc is unused c low = at (cases_eq c column)
  where
    before : value_in words start c ≡ get_or values c No
    before =
        ⊎_elim
        (λ lt. sym (get_or-row_of words (length values) start c lt) ∙ ap (λ (row : List K3). get_or row c No) is)
        (λ past. unused c past low ∙ sym (get_or_past values c No past))
        (cases_lt c (length values))

    at : (c ≡ column) ⊎ (c ≢ column) → value_in (with_value words start column k) start c ≡ get_or (set values column k) c No
    at (inl e) =
        ap (value_in (with_value words start column k) start) e ∙ put_same words long start column k room
        ∙ sym (ap (λ n. get_or (set values column k) n No) e ∙ get_or-set_same values column k No lc)
    at (inr ne) =
        put_other words long start column start c k room
        (⊎_elim (λ same. inl (λ e. ne (omega arith))) (λ apart. inr apart) (cases_eq (c % 64) (column % 64)))
        ∙ before ∙ sym (get_or-set_other values column c k No ne)

-- what writing one value of a row does
pub now_put_cell : (l : LayoutForm) (words : List (List K3)) (now : TableForm) (view : table_held l words ≡ now) (h : HoldsTable l words)
    (pred : ℕ) (lp : pred < length now.planes) (row : ℕ) (lr : row < length (plane_at now pred).rows) → AreWords words
    → (column start : ℕ) (k : K3) → column < length (row_in (plane_at now pred) row) → start ≡ row_place l pred row * words_for l.size
    → PutsRow l (with_value words start column k) now pred row (set (row_in (plane_at now pred) row) column k)
now_put_cell l words now view h pred lp row lr long column start k lc is =
    let values : List K3 = row_in (plane_at now pred) row
    in let columns : length values ≡ column_count l.size (get_or l.arities pred 0) = now_columns l words now view h pred lp row lr
    in let seen : column_count l.size (get_or l.arities pred 0) ≡ column_count now.size (plane_at now pred).arity
    = sym (now_seen l words now view h pred lp)
    in let read : ReadsRow l words now pred row (length values) start = now_read l words now view h pred lp row lr (length values) start columns is
    in let room : start + column / 64 < length words = (now_cell l words now view h pred lp row lr column start lc is).0
    in let new_long : length (set values column k) ≡ length values = length-set values column k
    in now_put l words (with_value words start column k) now view h pred lp row lr (set values column k) start (new_long ∙ columns ∙ seen) is
    (λ c lt. put_read words long start column k values room lc read.is read.unused c (omega (arith, lt, new_long)))
    (λ p out.
    get_or-set_other words (start + column / 64) p (set (word_at words (start + column / 64)) (column % 64) k) []
    (λ e. ⊎_elim (λ before. omega arith) (λ past. omega (arith, new_long, lc)) out))
    (length-set words (start + column / 64) (set (word_at words (start + column / 64)) (column % 64) k))

-- a column of a binary predicate
pub now_column : (l : LayoutForm) (words : List (List K3)) (now : TableForm) (view : table_held l words ≡ now) (h : HoldsTable l words)
    (pred : ℕ) (lp : pred < length now.planes) → (plane_at now pred).arity ≡ 2 → (column start : ℕ) → column < now.size
    → start ≡ row_place l pred 0 * words_for l.size
    → (start + l.size * words_for l.size ≤ length words)
    × (map (λ u. value_in words (start + u * words_for l.size) column) (range_with_len 0 l.size) ≡ column_in now.size (plane_at now pred) column)
now_column l words now view h pred lp two column start lc is =
    let listed : pred < length l.arities = now_listed l words now view h pred lp
    in let arity : get_or l.arities pred 0 ≡ 2 = sym (now_arity l words now view h pred lp) ∙ two
    in let size : now.size ≡ l.size = ap (λ (t : TableForm). t.size) (sym view)
    in let rows : length (plane_at now pred).rows ≡ l.size = now_rows l words now view h pred lp ∙ ap (row_count l.size) arity
    in let first : ℕ = get_or (starts_from l.size 0 l.arities) pred 0
    in let within : (0 ≤ first) × (first + row_count l.size (get_or l.arities pred 0) ≤ end_from l.size 0 l.arities)
    = start_within l.size 0 l.arities pred listed
    in let all : row_count l.size (get_or l.arities pred 0) ≡ l.size = ap (row_count l.size) arity
    in let value : ℕ → K3 = λ u. value_in words (start + u * words_for l.size) column
    in let held : ℕ → K3 = λ u. cell (plane_at now pred).rows u column
    in (
      room first (words_for l.size) l.size (end_from l.size 0 l.arities) (length words) start (omega (arith, within.1, all)) h.as_many
          (is ∙ ap (λ n. n * words_for l.size) (add-zero first)),
      ap (λ n. map value (range_with_len 0 n)) (sym size)
          ∙ ext_get_or No (map value (range_with_len 0 now.size)) (map held (range_with_len 0 now.size))
          (length-map-range_with_len value 0 now.size ∙ sym (length-map-range_with_len held 0 now.size))
          (λ u lt.
          let lu : u < now.size = omega (arith, length-map-range_with_len value 0 now.size)
          in let lr : u < length (plane_at now pred).rows = omega (arith, rows, size, lu)
          in let long : length (row_in (plane_at now pred) u) ≡ l.size
          = now_columns l words now view h pred lp u lr ∙ ap (column_count l.size) arity
          in get_or-map-range_with_len value 0 now.size u u No lu (omega arith)
          ∙ (now_cell l words now view h pred lp u lr column (start + u * words_for l.size) (omega (arith, long, size, lc))
          (place first (words_for l.size) u start (is ∙ ap (λ n. n * words_for l.size) (add-zero first)))).1
          ∙ sym (get_or-map-range_with_len held 0 now.size u u No lu (omega arith))),
    )
  where
    room : (first width size end long start : ℕ) → first + size ≤ end → long ≡ end * width → start ≡ first * width
        → start + size * width ≤ long
    room first width size end long start fit as_many is =
        let e : first * width + size * width ≡ (first + size) * width = omega arith
        in let m : (first + size) * width ≤ end * width = times width (first + size) end fit
        in omega (arith, e, m, as_many, is)
      where
        times : (width a b : ℕ) → a ≤ b → a * width ≤ b * width
        times width a b le = grind arith

    place : (first width u start : ℕ) → start ≡ first * width → start + u * width ≡ (first + u) * width
    place first width u start is = let e : first * width + u * width ≡ (first + u) * width = omega arith in omega (arith, e, is)

-- each individual has its row
pub now_line : (l : LayoutForm) (words : List (List K3)) (now : TableForm) (view : table_held l words ≡ now) (h : HoldsTable l words)
    (pred : ℕ) (lp : pred < length now.planes) → (plane_at now pred).arity ≡ 2 → (row : ℕ) → row < now.size
    → row < length (plane_at now pred).rows
now_line l words now view h pred lp two row lt =
    let arity : get_or l.arities pred 0 ≡ 2 = sym (now_arity l words now view h pred lp) ∙ two
    in let size : now.size ≡ l.size = ap (λ (t : TableForm). t.size) (sym view)
    in let many : length (plane_at now pred).rows ≡ l.size = now_rows l words now view h pred lp ∙ ap (row_count l.size) arity
    in omega (arith, many, size, lt)

-- so many rows of a column from one on
pub now_column_part : (l : LayoutForm) (words : List (List K3)) (now : TableForm) (view : table_held l words ≡ now) (h : HoldsTable l words)
    (pred : ℕ) (lp : pred < length now.planes) → (plane_at now pred).arity ≡ 2 → (column first rows start : ℕ) → column < now.size
    → 0 < rows → first + rows ≤ now.size → start ≡ row_place l pred first * words_for l.size
    → (start + rows * words_for l.size ≤ length words)
    × ((i : ℕ) → i < rows → value_in words (start + i * words_for l.size) column ≡ get_or (row_in (plane_at now pred) (first + i)) column No)
now_column_part l words now view h pred lp two column first rows start lc some fit is =
    let arity : get_or l.arities pred 0 ≡ 2 = sym (now_arity l words now view h pred lp) ∙ two
    in let size : now.size ≡ l.size = ap (λ (t : TableForm). t.size) (sym view)
    in let before : ℕ = get_or (starts_from l.size 0 l.arities) pred 0
    in let width : ℕ = words_for l.size
    in let end : first + (rows - 1) < length (plane_at now pred).rows
    = now_line l words now view h pred lp two (first + (rows - 1)) (omega (arith, fit, some))
    in (
      behind before width first rows (rows - 1) (length words) start (omega (arith, some)) is (now_room l words now view h pred lp (first + (rows - 1)) end),
      λ i lt.
          let lr : first + i < length (plane_at now pred).rows
          = now_line l words now view h pred lp two (first + i) (omega (arith, fit, lt))
          in let long : length (row_in (plane_at now pred) (first + i)) ≡ l.size
          = now_columns l words now view h pred lp (first + i) lr ∙ ap (column_count l.size) arity
          in (now_cell l words now view h pred lp (first + i) lr column (start + i * width) (omega (arith, long, size, lc))
          (moved before width first i start is)).1,
    )
  where
    behind : (before width first rows last long start : ℕ) → rows ≡ last + 1 → start ≡ (before + first) * width
        → (before + (first + last)) * width + width ≤ long → start + rows * width ≤ long
    behind before width first rows last long start as_many is room =
        let e : (before + (first + last)) * width + width ≡ (before + first) * width + (last + 1) * width = omega arith
        in omega (arith, e, ap (λ n. n * width) as_many, room, is)

    moved : (before width first i start : ℕ) → start ≡ (before + first) * width
        → start + i * width ≡ (before + (first + i)) * width
    moved before width first i start is =
        let e : (before + first) * width + i * width ≡ (before + (first + i)) * width = omega arith in omega (arith, e, is)

-- ---- a row of one word is drawn

-- it takes one word
pub narrow_words : (size arity : ℕ) → 0 < size → size ≤ 64 → (0 < column_count size arity) × (column_count size arity ≤ 64)
narrow_words size arity some small = at (arity == 0)
  where
    at : (b : Bool) → (0 < (if b then 1 else size)) × ((if b then 1 else size) ≤ 64)
    at true = (omega arith, omega arith)
    at false = (some, small)

-- and its values have room in it
pub narrow_cells : (size arity cells long : ℕ) → size ≤ 64 → cells ≡ cells_for size → long ≡ column_count size arity → long ≤ cells
narrow_cells size arity cells long small room is =
    ⊎_elim (λ wide. omega (arith, wide, is, columns)) (λ fits. fits) (values_room size arity cells long room is)
  where
    columns : column_count size arity ≤ 64
    columns = at (arity == 0)
      where
        at : (b : Bool) → (if b then 1 else size) ≤ 64
        at true = omega arith
        at false = small

module _ (l : LayoutForm) (words : List (List K3)) (now : TableForm) (view : table_held l words ≡ now) (h : HoldsTable l words)
    (pred : ℕ) (lp : pred < length now.planes) (row : ℕ) (lr : row < length (plane_at now pred).rows) (start : ℕ)
    (is : start ≡ row_place l pred row * words_for l.size) where
  pub now_placed : start < length words
  now_placed = omega (arith, is, now_room l words now view h pred lp row lr)

  -- the row is given the values of one word
  pub now_put_word : (new : List (List K3)) (values : List K3) → 0 < now.size → now.size ≤ 64
      → length values ≡ column_count now.size (plane_at now pred).arity
      → ((c : ℕ) → c < 64 → value_in new start c ≡ get_or values c No) → ((p : ℕ) → p ≢ start → word_at new p ≡ word_at words p)
      → length new ≡ length words → PutsRow l new now pred row values
  now_put_word new values some small long put others many =
      let narrow : (0 < length values) × (length values ≤ 64) = rw long (narrow_words now.size (plane_at now pred).arity some small)
      in now_put l words new now view h pred lp row lr values start long is
      (λ c lt. put c (omega (arith, lt, narrow.1)))
      (λ p out. others p (λ e. ⊎_elim (λ before. absurd (omega (arith, e, before))) (λ past. absurd (omega (arith, e, past, narrow.0))) out)) many
