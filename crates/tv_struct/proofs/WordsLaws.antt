-- The words of a table: those of its rows, one row after another; and how they compare.
use Rattle.std.proofs.Common.{ℕ, ◌≡◌, ◌<◌, ◌≤◌, ◌+◌, ◌*◌, ◌/◌, ◌%◌, ⊎_elim, zero, suc, List, [], ◌∷◌, ◌++◌}
use Rattle.std.proofs.Common.{length, map, get_or, take, drop, refl, sym, ap, subst, ◌∙◌, arith, Less, Equal}
use Rattle.std.proofs.Common.{Greater, append-nil}
use Rattle.std.specs.List.{range_with_len}
use Rattle.std.specs.declared.cmp.Ordering.{Ordering}
use Rattle.std.specs.Ordering.{ordering_then}
use Rattle.std.specs.Cmp.{nat_cmp_total}
use Rattle.std.specs.Cmp.Lexicographic.{slice_cmp}
use Rattle.std.proofs.lemmas.Bool.{cases_lt}
use Rattle.std.proofs.lemmas.Cmp.{tied_itself}
use Rattle.std.proofs.lemmas.List.{ext_get_or, length-append, length-take-le, length-drop, get_or-take}
use Rattle.std.proofs.lemmas.List.{get_or-drop, get_or_past, get_or_default, take-append-drop, drop-drop}
use Rattle.std.proofs.lemmas.List.{drop_all, append_assoc}
use Rattle.std.proofs.lemmas.List.FromFn.{length-map-range_with_len, get_or-map-range_with_len}
use Rattle.std.proofs.Math.Nat.{mul-le-mul_right}
use Rattle.tv_lemmas.proofs.Orderings.{then_nothing}
use Rattle.tv_kleene.specs.declared.K3.{K3}
use Rattle.tv_kleene.specs.declared.K3.TheVariants.{No}
use Rattle.tv_row.specs.Bits.{value_cmp}
use Rattle.tv_row.specs.Places.{AreWords, HoldsCells, word_at, value_in, row_of, rows_of}
use Rattle.tv_row.specs.RowForm.{row_words}
use Rattle.tv_row.proofs.CompareRows.{words_as_rows}
use Rattle.tv_row.proofs.PlaceLaws.{length-row_of, get_or-row_of, length-rows_of, get_or-rows_of}
use Rattle.tv_structure_form.specs.TableForm.{row_count, column_count}
use Rattle.tv_struct.specs.LayoutForm.{LayoutForm, HoldsTable, NoBeyond, words_for, end_from, plane_held}
use Rattle.tv_struct.specs.LayoutForm.{planes_held, table_held}
use Rattle.tv_struct.specs.Order.{plane_cmp, planes_cmp}
use Rattle.tv_struct.specs.Signature.{rows_words, planes_words, table_words}
use Rattle.tv_struct.proofs.HeldLaws.{few_words, columns_fit, end_above}

-- ---- the words of one row

length-row_words : (row : List K3) (n : ℕ) → n ≤ 4 → length (take n (row_words row)) ≡ n
length-row_words row n few =
    length-take-le n (row_words row)
    (omega (arith, length-map-range_with_len (λ p. map (λ c. get_or row (64 * p + c) No) (range_with_len 0 64)) 0 4, few))

word-row_words : (row : List K3) (n p : ℕ) → n ≤ 4 → p < n
    → word_at (take n (row_words row)) p ≡ map (λ c. get_or row (64 * p + c) No) (range_with_len 0 64)
word-row_words row n p few lt =
    get_or-take n (row_words row) p [] lt
    ∙ get_or-map-range_with_len (λ q. map (λ c. get_or row (64 * q + c) No) (range_with_len 0 64)) 0 4 p p [] (omega (arith, lt, few))
    (omega arith)

long-row_words : (row : List K3) (n : ℕ) → n ≤ 4 → AreWords (take n (row_words row))
long-row_words row n few p d lt =
    let lp : p < n = omega (arith, lt, length-row_words row n few)
    in ap length (other p d lt ∙ word-row_words row n p few lp) ∙ length-map-range_with_len (λ c. get_or row (64 * p + c) No) 0 64
  where
    other : (p : ℕ) (d : List K3) → p < length (take n (row_words row))
        → get_or (take n (row_words row)) p d ≡ get_or (take n (row_words row)) p []
    other p d lt = get_or_default (take n (row_words row)) p d [] lt

-- the values are read from the words
value-row_words : (row : List K3) (n c : ℕ) → n ≤ 4 → c < 64 * n → value_in (take n (row_words row)) 0 c ≡ get_or row c No
value-row_words row n c few lt =
    let at : 0 + c / 64 ≡ c / 64 = omega arith
    in let lp : c / 64 < n = omega arith
    in let back : 64 * (c / 64) + c % 64 ≡ c = omega arith
    in ap (λ p. get_or (word_at (take n (row_words row)) p) (c % 64) No) at
    ∙ ap (λ w. get_or w (c % 64) No) (word-row_words row n (c / 64) few lp)
    ∙ get_or-map-range_with_len (λ i. get_or row (64 * (c / 64) + i) No) 0 64 (c % 64) (c % 64) No (omega arith) (omega arith)
    ∙ ap (λ i. get_or row i No) back

-- the words from a place on begin with those of the row that they hold
row-words : (words : List (List K3)) (n columns start : ℕ) → AreWords words → n ≤ 4 → start + n ≤ length words
    → ((c : ℕ) → columns ≤ c → c < 64 * n → value_in words start c ≡ No)
    → take n (row_words (row_of words columns start)) ≡ take n (drop start words)
row-words words n columns start long few room unused =
    let row : List K3 = row_of words columns start
    in ext_get_or [] (take n (row_words row)) (take n (drop start words))
    (length-row_words row n few
    ∙ sym (length-take-le n (drop start words) (omega (arith, length-drop start words, room))))
    (λ p l.
    let lp : p < n = omega (arith, l, length-row_words row n few)
    in let here : length (word_at words (start + p)) ≡ 64 = long (start + p) [] (omega arith)
    in word-row_words row n p few lp
    ∙ ext_get_or No (map (λ c. get_or row (64 * p + c) No) (range_with_len 0 64)) (word_at words (start + p))
    (length-map-range_with_len (λ c. get_or row (64 * p + c) No) 0 64 ∙ sym here)
    (λ c m.
    let lc : c < 64 = omega (arith, m, length-map-range_with_len (λ c. get_or row (64 * p + c) No) 0 64)
    in let at : start + (64 * p + c) / 64 ≡ start + p = omega arith
    in let low : (64 * p + c) % 64 ≡ c = omega arith
    in get_or-map-range_with_len (λ c. get_or row (64 * p + c) No) 0 64 c c No lc (omega arith)
    ∙ value-row words columns start (64 * p + c) (λ past. unused (64 * p + c) past (omega (arith, lc, lp)))
    ∙ ap (λ q. get_or (word_at words q) ((64 * p + c) % 64) No) at ∙ ap (λ i. get_or (word_at words (start + p)) i No) low)
    ∙ sym (get_or-take n (drop start words) p [] lp ∙ get_or-drop start words p []))
  where
    value-row : (words : List (List K3)) (columns start c : ℕ) → (columns ≤ c → value_in words start c ≡ No)
        → get_or (row_of words columns start) c No ≡ value_in words start c
    value-row words columns start c unused =
        ⊎_elim (λ lt. get_or-row_of words columns start c lt)
        (λ past. get_or_past (row_of words columns start) c No (omega (arith, length-row_of words columns start)) ∙ sym (unused past))
        (cases_lt c columns)

-- ---- the words of rows, of planes and of a table

module _ (words : List (List K3)) (width size : ℕ) (long : AreWords words) (few : width ≤ 4) where
  rows_are : (columns start k n : ℕ) → (start + k + n) * width ≤ length words
      → ((row column : ℕ) → row < k + n → columns ≤ column → column < 64 * width → value_in words ((start + row) * width) column ≡ No)
      → rows_words width (map (λ row. row_of words columns ((start + row) * width)) (range_with_len k n)) ++ drop ((start + k + n) * width) words
      ≡ drop ((start + k) * width) words
  rows_are columns start k zero fits none = ap (λ m. drop (m * width) words) (omega arith)
  rows_are columns start k (suc n) fits none =
      let place : ℕ = (start + k) * width
      in let first : List (List K3) = take width (row_words (row_of words columns place))
      in let others : List (List K3)
      = rows_words width (map (λ row. row_of words columns ((start + row) * width)) (range_with_len (k + 1) n))
      in let next : start + k + suc n ≡ start + (k + 1) + n = omega arith
      in let step : place + width ≡ (start + (k + 1)) * width = grind arith
      in let room : (start + (k + 1)) * width ≤ length words
      = omega (arith, mul-le-mul_right {m = start + (k + 1)} {n = start + k + suc n} width (omega arith), fits)
      in let here : first ≡ take width (drop place words)
      = row-words words width columns place long few (omega (arith, step, room)) (λ column past low. none k column (omega arith) past low)
      in let rest : others ++ drop ((start + (k + 1) + n) * width) words ≡ drop ((start + (k + 1)) * width) words
      = rows_are columns start (k + 1) n (rw (← next) fits) (λ row column lt. none row column (omega arith))
      in append_assoc first others (drop ((start + k + suc n) * width) words)
      ∙ ap (λ m. first ++ (others ++ drop (m * width) words)) next ∙ ap (λ ws. first ++ ws) rest
      ∙ ap (λ ws. ws ++ drop ((start + (k + 1)) * width) words) here
      ∙ ap (λ m. take width (drop place words) ++ drop m words) (sym step)
      ∙ ap (λ ws. take width (drop place words) ++ ws) (sym (drop-drop width place words))
      ∙ take-append-drop width (drop place words)

  planes_are : (start : ℕ) (arities : List ℕ) → end_from size start arities * width ≤ length words
      → NoBeyond words width size start arities
      → planes_words width (planes_held words width size start arities) ++ drop (end_from size start arities * width) words
      ≡ drop (start * width) words
  unfolding plane_held
  planes_are start [] fits none = refl
  planes_are start (arity ∷ arities) fits none =
      let count : ℕ = row_count size arity
      in let first : List (List K3) = rows_words width (plane_held words width size start arity).rows
      in let others : List (List K3) = planes_words width (planes_held words width size (start + count) arities)
      in let end : ℕ = end_from size (start + count) arities
      in let zeros : start + 0 + count ≡ start + count = omega arith
      in let room : (start + 0 + count) * width ≤ length words
      = omega (arith, mul-le-mul_right {m = start + 0 + count} {n = end} width (omega (arith, end_above size (start + count) arities)), fits)
      in let rest : others ++ drop (end * width) words ≡ drop ((start + count) * width) words
      = planes_are (start + count) arities fits none.1
      in append_assoc first others (drop (end * width) words) ∙ ap (λ ws. first ++ ws) rest
      ∙ ap (λ m. first ++ drop (m * width) words) (sym zeros)
      ∙ rows_are (column_count size arity) start 0 count room (λ row column lt past low. none.0 row column (omega arith) past low)
      ∙ ap (λ m. drop (m * width) words) (let same : start + 0 ≡ start = omega arith in same)

pub table_words_are : (l : LayoutForm) (words : List (List K3)) → HoldsTable l words → AreWords words
    → table_words (table_held l words) ≡ words
table_words_are l words h long =
    let width : ℕ = words_for l.size
    in let all : List (List K3) = table_words (table_held l words)
    in let end : drop (end_from l.size 0 l.arities * width) words ≡ []
    = drop_all (end_from l.size 0 l.arities * width) words (omega (arith, h.as_many))
    in let none : 0 * width ≡ 0 = omega arith
    in sym (append-nil all) ∙ ap (λ ws. all ++ ws) (sym end)
    ∙ planes_are words width l.size long (few_words l.size h.layout.size) 0 l.arities (omega (arith, h.as_many)) h.unused
    ∙ ap (λ m. drop m words) none

-- ---- words compare as the values that they hold

then_then : (a b c : Ordering) → ordering_then (ordering_then a b) c ≡ ordering_then a (ordering_then b c)
then_then Less b c = refl
then_then Equal b c = refl
then_then Greater b c = refl

cmp_append : {X : Type 0} (R : X → X → Ordering) (a b c d : List X) → length a ≡ length c
    → slice_cmp R (a ++ b) (c ++ d) ≡ ordering_then (slice_cmp R a c) (slice_cmp R b d)
cmp_append R [] b [] d len = refl
cmp_append R [] b (y ∷ c) d len = absurd (omega arith)
cmp_append R (x ∷ a) b [] d len = absurd (omega arith)
cmp_append R (x ∷ a) b (y ∷ c) d len =
    ap (ordering_then (R x y)) (cmp_append R a b c d (omega arith)) ∙ sym (then_then (R x y) (slice_cmp R a c) (slice_cmp R b d))

module _ (n : ℕ) (few : n ≤ 4) where
  cells : (row : List K3) (columns : ℕ) → length row ≡ columns → columns ≤ 64 * n → HoldsCells (take n (row_words row)) n 1 columns
  cells row columns long room = record {
    words_have = long-row_words row n few;
    as_many = length-row_words row n few ∙ (let same : n ≡ 1 * n = omega arith in same);
    room = room;
    unused = λ line column lt past low.
        (let first : line * n ≡ 0 = ap (λ m. m * n) (let none : line ≡ 0 = omega arith in none) ∙ (let none : 0 * n ≡ 0 = omega arith in none)
        in ap (λ m. value_in (take n (row_words row)) m column) first ∙ value-row_words row n column few low
        ∙ get_or_past row column No (omega (arith, long)));
  }

  one_row : (row : List K3) (columns : ℕ) → length row ≡ columns → columns ≤ 64 * n
      → rows_of (take n (row_words row)) n 1 columns ≡ row ∷ []
  one_row row columns long room =
      let words : List (List K3) = take n (row_words row)
      in let none : 0 * n ≡ 0 = omega arith
      in ext_get_or [] (rows_of words n 1 columns) (row ∷ []) (length-rows_of words n 1 columns)
      (λ p l.
      let zero_th : 0 ≡ p = omega (arith, l, length-rows_of words n 1 columns)
      in subst (λ q. get_or (rows_of words n 1 columns) q [] ≡ get_or (row ∷ []) q []) zero_th
      (get_or-rows_of words n 1 columns 0 (omega arith) ∙ ap (row_of words columns) none
      ∙ ext_get_or No (row_of words columns 0) row (length-row_of words columns 0 ∙ sym long)
      (λ c m.
      let lc : c < columns = omega (arith, m, length-row_of words columns 0)
      in get_or-row_of words columns 0 c lc ∙ value-row_words row n c few (omega (arith, lc, room)))))

  row_compares : (row other : List K3) → length row ≡ length other → length row ≤ 64 * n
      → slice_cmp (slice_cmp value_cmp) (take n (row_words row)) (take n (row_words other)) ≡ slice_cmp value_cmp row other
  row_compares row other same room =
      let columns : ℕ = length row
      in words_as_rows (take n (row_words row)) (take n (row_words other)) n 1 columns (cells row columns refl room)
      (cells other columns (sym same) room)
      ∙ ap (λ rows. slice_cmp (slice_cmp value_cmp) rows (rows_of (take n (row_words other)) n 1 columns)) (one_row row columns refl room)
      ∙ ap (slice_cmp (slice_cmp value_cmp) (row ∷ [])) (one_row other columns (sym same) room)
      ∙ then_nothing (slice_cmp value_cmp row other)

  -- rows of one shape
  abbrev SameRows : List (List K3) → List (List K3) → Type 0
  SameRows [] [] = Unit {0}
  SameRows [] (other ∷ others) = ⊥
  SameRows (row ∷ rows) [] = ⊥
  SameRows (row ∷ rows) (other ∷ others) = (length row ≡ length other) × (length row ≤ 64 * n) × SameRows rows others

  same_long : (rows others : List (List K3)) → SameRows rows others → length (rows_words n rows) ≡ length (rows_words n others)
  same_long [] [] same = refl
  same_long [] (other ∷ others) same = absurd same
  same_long (row ∷ rows) [] same = absurd same
  same_long (row ∷ rows) (other ∷ others) same =
      omega (
        arith,
        length-append (take n (row_words row)) (rows_words n rows),
        length-append (take n (row_words other)) (rows_words n others),
        length-row_words row n few,
        length-row_words other n few,
        same_long rows others same.2,
      )

  rows_compare : (rows others : List (List K3)) → SameRows rows others
      → slice_cmp (slice_cmp value_cmp) (rows_words n rows) (rows_words n others) ≡ slice_cmp (slice_cmp value_cmp) rows others
  rows_compare [] [] same = refl
  rows_compare [] (other ∷ others) same = absurd same
  rows_compare (row ∷ rows) [] same = absurd same
  rows_compare (row ∷ rows) (other ∷ others) same =
      cmp_append (slice_cmp value_cmp) (take n (row_words row)) (rows_words n rows) (take n (row_words other)) (rows_words n others)
      (length-row_words row n few ∙ sym (length-row_words other n few))
      ∙ ap (λ o. ordering_then o (slice_cmp (slice_cmp value_cmp) (rows_words n rows) (rows_words n others))) (row_compares row other same.0 same.1)
      ∙ ap (ordering_then (slice_cmp value_cmp row other)) (rows_compare rows others same.2)

  module _ (words others : List (List K3)) (size : ℕ) (fit : (arity : ℕ) → column_count size arity ≤ 64 * n) where
    same_held : (columns start k count : ℕ) → columns ≤ 64 * n
        → SameRows (map (λ row. row_of words columns ((start + row) * n)) (range_with_len k count))
        (map (λ row. row_of others columns ((start + row) * n)) (range_with_len k count))
    same_held columns start k zero room = tt
    same_held columns start k (suc count) room = (
      length-row_of words columns ((start + k) * n) ∙ sym (length-row_of others columns ((start + k) * n)),
      omega (arith, length-row_of words columns ((start + k) * n), room),
      same_held columns start (k + 1) count room,
    )

    planes_compare : (start : ℕ) (arities : List ℕ)
        → slice_cmp (slice_cmp value_cmp) (planes_words n (planes_held words n size start arities))
        (planes_words n (planes_held others n size start arities))
        ≡ planes_cmp (planes_held words n size start arities) (planes_held others n size start arities)
    unfolding plane_held
    planes_compare start [] = refl
    planes_compare start (arity ∷ arities) =
        let mine : List (List K3) = (plane_held words n size start arity).rows
        in let theirs : List (List K3) = (plane_held others n size start arity).rows
        in let after : ℕ = start + row_count size arity
        in let same : SameRows mine theirs = same_held (column_count size arity) start 0 (row_count size arity) (fit arity)
        in let one : slice_cmp (slice_cmp value_cmp) mine theirs ≡ plane_cmp (plane_held words n size start arity) (plane_held others n size start arity)
        = ap (λ o. ordering_then o (slice_cmp (slice_cmp value_cmp) mine theirs)) (sym (tied_itself nat_cmp_total arity))
        in cmp_append (slice_cmp value_cmp) (rows_words n mine) (planes_words n (planes_held words n size after arities)) (rows_words n theirs)
        (planes_words n (planes_held others n size after arities)) (same_long mine theirs same)
        ∙ ap (λ o. ordering_then o (slice_cmp (slice_cmp value_cmp) (planes_words n (planes_held words n size after arities))
        (planes_words n (planes_held others n size after arities)))) (rows_compare mine theirs same ∙ one)
        ∙ ap (ordering_then (plane_cmp (plane_held words n size start arity) (plane_held others n size start arity)))
        (planes_compare after arities)

pub words_compare : (l : LayoutForm) (words others : List (List K3)) → HoldsTable l words → HoldsTable l others
    → AreWords words → AreWords others
    → slice_cmp (slice_cmp value_cmp) words others ≡ planes_cmp (table_held l words).planes (table_held l others).planes
words_compare l words others h g long also =
    ap (λ ws. slice_cmp (slice_cmp value_cmp) ws others) (sym (table_words_are l words h long))
    ∙ ap (slice_cmp (slice_cmp value_cmp) (table_words (table_held l words))) (sym (table_words_are l others g also))
    ∙ planes_compare (words_for l.size) (few_words l.size h.layout.size) words others l.size (λ arity. (columns_fit l.size arity).0) 0 l.arities
