-- A row word by word: 64 places of it at a time.
use Rattle.std.proofs.Common.{ℕ, ◌≡◌, ◌<◌, ◌≤◌, ◌+◌, ◌-◌, ◌*◌, ◌/◌, ◌%◌, ◌⊎◌, inl, inr, ⊎_elim, min}
use Rattle.std.proofs.Common.{replicate, List, [], set}
use Rattle.std.proofs.Common.{length, get_or, sym, ap, subst, ◌∙◌, arith}
use Rattle.std.proofs.lemmas.Bool.{cases_eq, cases_lt}
use Rattle.std.proofs.lemmas.List.{length-set, get_or-set_same, get_or-set_other, get_or_default, get_or_past}
use Rattle.tv_kleene.specs.declared.K3.{K3}
use Rattle.tv_kleene.specs.declared.K3.TheVariants.{No}
use Rattle.tv_row.specs.Bits.{padded}
use Rattle.tv_row.specs.Places.{word_at, value_in, row_of}
use Rattle.tv_row.specs.RowForm.{HoldsRow}
use Rattle.tv_row.specs.RowLaws.{read_held}
use Rattle.tv_row.proofs.PlaceLaws.{length-row_of, get_or-row_of}
use Rattle.tv_row.proofs.RowOps.{no_place}

-- the places of the word `chunk` of a row
pub value_in-chunk : (words : List (List K3)) (chunk i : ℕ) → i < 64
    → value_in words 0 (64 * chunk + i) ≡ get_or (word_at words chunk) i No
value_in-chunk words chunk i lt =
    let at : 0 + (64 * chunk + i) / 64 ≡ chunk = omega arith
    in let low : (64 * chunk + i) % 64 ≡ i = omega arith
    in ap (λ p. get_or (word_at words p) ((64 * chunk + i) % 64) No) at ∙ ap (λ j. get_or (word_at words chunk) j No) low

pub word-seen : (words : List (List K3)) (size chunk i : ℕ) (now : List K3) → HoldsRow words size
    → row_of words size 0 ≡ now → chunk < 4 → i < 64
    → get_or (word_at words chunk) i No ≡ get_or now (64 * chunk + i) No
word-seen words size chunk i now holds seen low lt =
    sym (value_in-chunk words chunk i lt) ∙ sym (read_held words size (64 * chunk + i) holds (omega arith))
    ∙ ap (λ values. get_or values (64 * chunk + i) No) seen

module _ (words : List (List K3)) (size chunk count : ℕ) (word new : List K3) (holds : HoldsRow words size)
    (within : 64 * chunk < size) (are : count ≡ min 64 (size - 64 * chunk)) (long : length new ≡ 64)
    (taken : (i : ℕ) → i < count → get_or new (0 + i) No ≡ get_or word (0 + i) No)
    (kept : (j : ℕ) → (j < 0) ⊎ (0 + count ≤ j) → get_or new j No ≡ get_or (padded 0 (replicate 64 No)) j No) where
  low : chunk < 4
  low = omega (arith, holds.small)

  within_words : chunk < length words
  within_words = omega (arith, low, holds.as_many)

  here : (i : ℕ) → get_or (word_at (set words chunk new) chunk) i No ≡ get_or new i No
  here i = ap (λ w. get_or w i No) (get_or-set_same words chunk new [] within_words)

  -- a place in the word
  pub put-here : (i : ℕ) → i < 64 → 64 * chunk + i < size
      → get_or (row_of (set words chunk new) size 0) (64 * chunk + i) No ≡ get_or word i No
  put-here i lt inside =
      get_or-row_of (set words chunk new) size 0 (64 * chunk + i) inside ∙ value_in-chunk (set words chunk new) chunk i lt
      ∙ here i
      ∙ subst (λ j. get_or new j No ≡ get_or word j No) (omega arith) (taken i (omega (arith, are, lt, inside)))

  elsewhere : (column : ℕ) → ¬ (column / 64 ≡ chunk) → value_in (set words chunk new) 0 column ≡ value_in words 0 column
  elsewhere column ne =
      ap (λ w. get_or w (column % 64) No)
      (get_or-set_other words chunk (0 + column / 64) new [] (λ e. ne (omega (arith, e))))

  -- a place behind the row's last, in the word
  past : (column : ℕ) → size ≤ column → column / 64 ≡ chunk → value_in (set words chunk new) 0 column ≡ No
  past column le e =
      let i : column ≡ 64 * chunk + column % 64 = omega arith
      in ap (value_in (set words chunk new) 0) i ∙ value_in-chunk (set words chunk new) chunk (column % 64) (omega arith)
      ∙ here (column % 64) ∙ kept (column % 64) (inr (omega (arith, i, le, are))) ∙ no_place (column % 64) (omega arith)

  pub put-holds : HoldsRow (set words chunk new) size
  put-holds = record {
    words_have = λ p d lt. ap length (get_or_default (set words chunk new) p d [] lt) ∙ longs p (omega (arith, lt, length-set words chunk new));
    as_many = length-set words chunk new ∙ holds.as_many;
    small = holds.small;
    unused = λ column le lt. ⊎_elim (past column le) (λ ne. elsewhere column ne ∙ holds.unused column le lt) (cases_eq (column / 64) chunk);
  }
    where
      longs : (p : ℕ) → p < length words → length (word_at (set words chunk new) p) ≡ 64
      longs p lt = ⊎_elim
          (λ e. ap (λ q. length (word_at (set words chunk new) q)) e ∙ ap length (get_or-set_same words chunk new [] within_words) ∙ long)
          (λ ne. ap length (get_or-set_other words chunk p new [] ne) ∙ holds.words_have p [] lt)
          (cases_eq p chunk)

  -- a place elsewhere
  pub put-elsewhere : (u : ℕ) → (u < 64 * chunk) ⊎ (64 * chunk + 64 ≤ u)
      → get_or (row_of (set words chunk new) size 0) u No ≡ get_or (row_of words size 0) u No
  put-elsewhere u out = ⊎_elim
      (λ lt.
      get_or-row_of (set words chunk new) size 0 u lt ∙ elsewhere u (λ e. apart out e)
      ∙ sym (get_or-row_of words size 0 u lt))
      (λ past.
      get_or_past (row_of (set words chunk new) size 0) u No (omega (arith, past, length-row_of (set words chunk new) size 0))
      ∙ sym (get_or_past (row_of words size 0) u No (omega (arith, past, length-row_of words size 0))))
      (cases_lt u size)
    where
      apart : (u < 64 * chunk) ⊎ (64 * chunk + 64 ≤ u) → u / 64 ≡ chunk → ⊥
      apart (inl less) e = omega arith
      apart (inr more) e = omega arith
