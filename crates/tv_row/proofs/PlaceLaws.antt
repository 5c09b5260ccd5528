-- Places in rows of words.
use Rattle.std.proofs.Common.{ℕ, ◌≡◌, ◌≢◌, ◌<◌, ◌≤◌, ◌+◌, ◌*◌, ◌/◌, ◌%◌}
use Rattle.std.proofs.Common.{List, [], length, get_or, set, sym, ap, ◌∙◌, inl, inr, ⊎_elim}
use Rattle.std.proofs.Common.{◌⊎◌, arith, replicate}
use Rattle.std.proofs.lemmas.Bool.{cases_eq, cases_lt}
use Rattle.std.proofs.lemmas.Nat.{same_from_place, row_fits}
use Rattle.std.proofs.lemmas.List.{length-replicate, get_or-replicate, length-set}
use Rattle.std.proofs.lemmas.List.{get_or-set_same, get_or-set_other, get_or_past}
use Rattle.std.proofs.lemmas.List.FromFn.{length-map-range_with_len, get_or-map-range_with_len}
use Rattle.tv_kleene.specs.declared.K3.{K3}
use Rattle.tv_kleene.specs.declared.K3.TheVariants.{No}
use Rattle.tv_row.specs.Places.{AreWords, word_at, value_in, with_value, row_of, rows_of, HoldsRows}

-- ---- a value put into a row

module _ (words : List (List K3)) (long : AreWords words) where
  long_at : (p : ℕ) → p < length words → length (word_at words p) ≡ 64
  long_at p lt = long p [] lt

  pub put_same : (start column : ℕ) (k : K3) → start + column / 64 < length words → value_in (with_value words start column k) start column ≡ k
  put_same start column k lt =
      let p : ℕ = start + column / 64
      in let word : List K3 = set (word_at words p) (column % 64) k
      in let len : length (word_at words p) ≡ 64 = long_at p lt
      in ap (λ v. get_or v (column % 64) No) (get_or-set_same words p word [] lt)
      ∙ get_or-set_same (word_at words p) (column % 64) k No (omega arith)

  pub put_other : (start column first place : ℕ) (k : K3) → start + column / 64 < length words
      → (first + place / 64 ≢ start + column / 64) ⊎ (place % 64 ≢ column % 64)
      → value_in (with_value words start column k) first place ≡ value_in words first place
  put_other start column first place k lt (inl ne) =
      ap (λ v. get_or v (place % 64) No)
      (get_or-set_other words (start + column / 64) (first + place / 64) (set (word_at words (start + column / 64)) (column % 64) k) [] ne)
  put_other start column first place k lt (inr ne) =
      let p : ℕ = start + column / 64
      in let word : List K3 = set (word_at words p) (column % 64) k
      in ⊎_elim
      (λ e.
      ap (λ q. get_or (get_or (set words p word) q []) (place % 64) No) e
      ∙ ap (λ v. get_or v (place % 64) No) (get_or-set_same words p word [] lt)
      ∙ get_or-set_other (word_at words p) (column % 64) (place % 64) k No ne
      ∙ ap (λ q. get_or (get_or words q []) (place % 64) No) (sym e))
      (λ apart. ap (λ v. get_or v (place % 64) No) (get_or-set_other words p (first + place / 64) word [] apart))
      (cases_eq (first + place / 64) p)

  pub put_long : (start column : ℕ) (k : K3) → start + column / 64 < length words → AreWords (with_value words start column k)
  put_long start column k lt i d h =
      let p : ℕ = start + column / 64
      in let word : List K3 = set (word_at words p) (column % 64) k
      in let li : i < length words = omega (arith, length-set words p word)
      in ⊎_elim
      (λ e. ap (λ j. length (get_or (set words p word) j d)) e ∙ ap length (get_or-set_same words p word d lt) ∙ length-set (word_at words p) (column % 64) k ∙ long_at p lt)
      (λ ne. ap length (get_or-set_other words p i word d ne) ∙ long i d li)
      (cases_eq i p)

-- two columns of two rows lie at two places
pub columns_apart : (width u w v x : ℕ) → w < 64 * width → x < 64 * width → (v ≢ u) ⊎ (x ≢ w)
    → (v * width + x / 64 ≢ u * width + w / 64) ⊎ (x % 64 ≢ w % 64)
columns_apart width u w v x lw lx other =
    ⊎_elim
    (λ e.
    let same : (v ≡ u) × (x / 64 ≡ w / 64) = same_from_place v (x / 64) u (w / 64) width (omega arith) (omega arith) e
    in ⊎_elim
    (λ f. absurd (⊎_elim (λ ne. ne same.0) (λ ne. ne (omega (arith, same.1, f))) other))
    (λ ne. inr ne)
    (cases_eq (x % 64) (w % 64)))
    (λ ne. inl ne)
    (cases_eq (v * width + x / 64) (u * width + w / 64))

-- ---- the rows

pub length-rows_of : (words : List (List K3)) (width rows columns : ℕ) → length (rows_of words width rows columns) ≡ rows
unfolding rows_of
length-rows_of words width rows columns = length-map-range_with_len (λ row. row_of words columns (row * width)) 0 rows

pub length-row_of : (words : List (List K3)) (columns start : ℕ) → length (row_of words columns start) ≡ columns
unfolding row_of
length-row_of words columns start = length-map-range_with_len (value_in words start) 0 columns

pub get_or-row_of : (words : List (List K3)) (columns start w : ℕ) → w < columns → get_or (row_of words columns start) w No ≡ value_in words start w
unfolding row_of
get_or-row_of words columns start w lt = get_or-map-range_with_len (value_in words start) 0 columns w w No lt (omega arith)

pub get_or-rows_of : (words : List (List K3)) (width rows columns u : ℕ) → u < rows → get_or (rows_of words width rows columns) u [] ≡ row_of words columns (u * width)
unfolding rows_of
get_or-rows_of words width rows columns u lt =
    get_or-map-range_with_len (λ row. row_of words columns (row * width)) 0 rows u u [] lt (omega arith)

-- a row's words lie within the words
pub within_words : (words : List (List K3)) (width rows columns u : ℕ) → HoldsRows words width rows columns → u < rows → u * width + width ≤ length words
within_words words width rows columns u h lt = omega (arith, row_fits u width rows width lt (omega arith), h.as_many)

module _ (words : List (List K3)) (width rows columns u w : ℕ) (k : K3) (h : HoldsRows words width rows columns) (lu : u < rows) (lw : w < columns) where
  inside : u * width + w / 64 < length words
  inside = let r : columns ≤ 64 * width = h.room in omega (arith, within_words words width rows columns u h lu)

  others : (v x : ℕ) → x < 64 * width → (v ≢ u) ⊎ (x ≢ w) → value_in (with_value words (u * width) w k) (v * width) x ≡ value_in words (v * width) x
  others v x lx other =
      let r : columns ≤ 64 * width = h.room
      in put_other words h.words_have (u * width) w (v * width) x k inside (columns_apart width u w v x (omega arith) lx other)

-- ---- words that are No everywhere

pub no_value : (n start column : ℕ) → value_in (replicate n (replicate 64 No)) start column ≡ No
no_value n start column =
    ⊎_elim
    (λ lt.
    ap (λ word. get_or word (column % 64) No) (get_or-replicate n (start + column / 64) (replicate 64 No) [] lt)
    ∙ get_or-replicate 64 (column % 64) No No (omega arith))
    (λ past.
    ap (λ word. get_or word (column % 64) No)
    (get_or_past (replicate n (replicate 64 No)) (start + column / 64) [] (omega (arith, length-replicate n (replicate 64 No)))))
    (cases_lt (start + column / 64) n)
