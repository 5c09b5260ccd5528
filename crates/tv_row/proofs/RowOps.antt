-- Rows whose words are filled one after the other.
use Rattle.std.proofs.Common.{Option, Some, None, IfSome, ◌^◌, ℕ, ◌≡◌, ◌≢◌, ◌<◌, ◌≤◌, ◌+◌, ◌-◌, ◌*◌, ◌/◌, ◌%◌}
use Rattle.std.proofs.Common.{zero, suc, ◌∷◌, min, cond, List, [], ◌++◌, set, length, map, get_or, take}
use Rattle.std.proofs.Common.{replicate, refl, sym}
use Rattle.std.proofs.Common.{ap, ◌∙◌, ◌⊎◌, inl, inr, ⊎_elim, subst, arith, ltb}
use Rattle.std.proofs.lemmas.Bool.{cases_eq, cases_lt, lt-ltb, le-ltb}
use Rattle.std.proofs.lemmas.List.{ext_get_or, get_or_default, length-replicate, length-map, length-take-le}
use Rattle.std.proofs.lemmas.List.{get_or-replicate, get_or-map, get_or-take, length-set, get_or-set_same}
use Rattle.std.proofs.lemmas.List.{get_or-set_other, length-append, get_or_append_left, get_or-append_right}
use Rattle.std.proofs.Math.Seq.{take-length}
use Rattle.tv_kleene.proofs.Lattice.{smaller-no}
use Rattle.tv_kleene.specs.declared.K3.{K3}
use Rattle.tv_kleene.specs.declared.K3.TheVariants.{No, Yes}
use Rattle.tv_kleene.specs.Kleene.{smaller_of, negation_of}
use Rattle.tv_row.specs.Bits.{paired, padded, greatest_in}
use Rattle.tv_row.specs.Firsts.{IsFirstFrom}
use Rattle.tv_row.specs.Places.{AreWords, word_at, value_in, with_value, row_of}
use Rattle.tv_row.specs.RowForm.{HoldsRow}
use Rattle.tv_row.specs.RowLaws.{read_held}
use Rattle.tv_row.proofs.Greatest.{greatest_padded}
use Rattle.tv_row.proofs.PlaceLaws.{length-row_of, get_or-row_of, put_same, put_other, put_long}
use Rattle.tv_row.proofs.WordOps.{length-padded, get_or-padded, length-paired, get_or-paired}

-- the first p words are those that g gives, and the others are No everywhere
abbrev pub FilledTo : (words : List (List K3)) (p : ℕ) (g : ℕ → List K3) → Type 0
FilledTo words p g =
    ((v : ℕ) → v < p → word_at words v ≡ g v)
    × ((v : ℕ) → p ≤ v → v < 4 → word_at words v ≡ padded 0 (replicate 64 No))
    × (length words ≡ 4)

-- the next word filled
pub filled_more : (words : List (List K3)) (p : ℕ) (g : ℕ → List K3) (word : List K3) → FilledTo words p g → p < 4 → word ≡ g p
    → FilledTo (set words p word) (p + 1) g
filled_more words p g word filled low e = (
  λ v lt.
      ⊎_elim
      (λ same. ap (word_at (set words p word)) same ∙ get_or-set_same words p word [] (omega (arith, filled.2)) ∙ e ∙ ap g (sym same))
      (λ other. get_or-set_other words p v word [] other ∙ filled.0 v (omega arith))
      (cases_eq v p),
  λ v le lt. get_or-set_other words p v word [] (λ same. omega arith) ∙ filled.1 v (omega arith) lt,
  length-set words p word ∙ filled.2,
)

-- one word, and No behind it
pub alone_filled : (words : List (List K3)) (g : ℕ → List K3) (word : List K3)
    → words ≡ word ∷ replicate 3 (padded 0 (replicate 64 No)) → word ≡ g 0 → FilledTo words 1 g
alone_filled words g word e same =
    subst (λ ws. FilledTo ws 1 g) (sym e)
    (λ v lt. (let z : v ≡ 0 = omega arith in ap (word_at (word ∷ replicate 3 (padded 0 (replicate 64 No)))) z ∙ same ∙ ap g (sym z)), behind, refl)
  where
    behind : (v : ℕ) → 1 ≤ v → v < 4 → word_at (word ∷ replicate 3 (padded 0 (replicate 64 No))) v ≡ padded 0 (replicate 64 No)
    behind zero le lt = absurd (omega arith)
    behind (suc v) le lt = get_or-replicate 3 v (padded 0 (replicate 64 No)) [] (omega arith)

-- all four words
pub four_filled : (a b c d : List K3) (g : ℕ → List K3) → a ≡ g 0 → b ≡ g 1 → c ≡ g 2 → d ≡ g 3
    → FilledTo (a ∷ b ∷ c ∷ d ∷ []) 4 g
four_filled a b c d g ea eb ec ed = (each, λ v le lt. absurd (omega arith), refl)
  where
    each : (v : ℕ) → v < 4 → word_at (a ∷ b ∷ c ∷ d ∷ []) v ≡ g v
    each zero lt = ea
    each (suc zero) lt = eb
    each (suc (suc zero)) lt = ec
    each (suc (suc (suc zero))) lt = ed
    each (suc (suc (suc (suc v)))) lt = absurd (omega arith)

-- a row as it is seen is as long as its size says
pub length_seen : (words : List (List K3)) (size : ℕ) (now : List K3) → row_of words size 0 ≡ now → length now ≡ size
length_seen words size now view = ap length (sym view) ∙ length-row_of words size 0

-- a word of No
pub no_word : length (padded 0 (replicate 64 No)) ≡ 64
no_word = length-padded 0 (replicate 64 No) (omega arith) (length-replicate 64 No)

pub no_place : (i : ℕ) → i < 64 → get_or (padded 0 (replicate 64 No)) i No ≡ No
no_place i low =
    get_or-padded 0 (replicate 64 No) i (omega arith) (length-replicate 64 No) low
    ∙ ap (λ t. cond t (get_or (replicate 64 No) i No) No) (le-ltb i 0 (omega arith))

module _ (words : List (List K3)) (size n : ℕ) (g : ℕ → List K3) (filled : FilledTo words n g) (room : size ≤ 64 * n)
    (small : size ≤ 256) (long : (p : ℕ) → p < n → length (g p) ≡ 64)
    (past : (c : ℕ) → size ≤ c → c < 64 * n → get_or (g (c / 64)) (c % 64) No ≡ No) where
  filled_value : (c : ℕ) → c < 64 * n → value_in words 0 c ≡ get_or (g (c / 64)) (c % 64) No
  filled_value c lt =
      let at : 0 + c / 64 ≡ c / 64 = omega arith
      in ap (λ p. get_or (word_at words p) (c % 64) No) at ∙ ap (λ word. get_or word (c % 64) No) (filled.0 (c / 64) (omega arith))

  empty_value : (c : ℕ) → 64 * n ≤ c → c < 256 → value_in words 0 c ≡ No
  empty_value c le low =
      let at : 0 + c / 64 ≡ c / 64 = omega arith
      in ap (λ p. get_or (word_at words p) (c % 64) No) at
      ∙ ap (λ word. get_or word (c % 64) No) (filled.1 (c / 64) (omega arith) (omega arith)) ∙ no_place (c % 64) (omega arith)

  long_words : (p : ℕ) → p < 4 → length (word_at words p) ≡ 64
  long_words p lt =
      ⊎_elim (λ low. ap length (filled.0 p low) ∙ long p low) (λ high. ap length (filled.1 p high lt) ∙ no_word) (cases_lt p n)

  pub filled_holds : HoldsRow words size
  filled_holds = record {
    words_have = λ p d lt. ap length (get_or_default words p d [] lt) ∙ long_words p (omega (arith, filled.2));
    as_many = filled.2;
    small = small;
    unused = λ c le low. ⊎_elim (λ lt. filled_value c lt ∙ past c le lt) (λ high. empty_value c high low) (cases_lt c (64 * n));
  }

  pub filled_row : (values : List K3) → length values ≡ size → ((c : ℕ) → c < size → get_or (g (c / 64)) (c % 64) No ≡ get_or values c No)
      → row_of words size 0 ≡ values
  filled_row values len same =
      ext_get_or No (row_of words size 0) values (length-row_of words size 0 ∙ sym len)
      (λ c l.
      let lt : c < size = omega (arith, length-row_of words size 0)
      in get_or-row_of words size 0 c lt ∙ filled_value c (omega arith) ∙ same c lt)

-- ---- the words of two rows, place by place

module _ (one other words : List (List K3)) (size n : ℕ) (op : K3 → K3 → K3) (none : op No No ≡ No) (h : HoldsRow one size) (k : HoldsRow other size)
    (filled : FilledTo words n (λ p. paired op (word_at one p) (word_at other p))) (room : size ≤ 64 * n) (few : n ≤ 4) where
  pair_value : (c : ℕ) → c < 256
      → get_or (paired op (word_at one (c / 64)) (word_at other (c / 64))) (c % 64) No ≡ op (get_or (row_of one size 0) c No) (get_or (row_of other size 0) c No)
  pair_value c low =
      let at : 0 + c / 64 ≡ c / 64 = omega arith
      in let a : length (word_at one (c / 64)) ≡ 64 = h.words_have (c / 64) [] (omega (arith, h.as_many))
      in let b : length (word_at other (c / 64)) ≡ 64 = k.words_have (c / 64) [] (omega (arith, k.as_many))
      in get_or-paired op (word_at one (c / 64)) (word_at other (c / 64)) (c % 64) (omega arith) (omega arith)
      ∙ ap (λ p. op (get_or (word_at one p) (c % 64) No) (get_or (word_at other p) (c % 64) No)) (sym at)
      ∙ (rw (read_held one size c h low, read_held other size c k low) refl)

  pair_past : (c : ℕ) → size ≤ c → c < 64 * n → get_or (paired op (word_at one (c / 64)) (word_at other (c / 64))) (c % 64) No ≡ No
  pair_past c le lt =
      let low : c < 256 = omega (arith, h.small)
      in pair_value c low ∙ (rw (read_held one size c h low, read_held other size c k low, h.unused c le low, k.unused c le low) none)

  pair_long : (p : ℕ) → p < n → length (paired op (word_at one p) (word_at other p)) ≡ 64
  pair_long p lt =
      let a : length (word_at one p) ≡ 64 = h.words_have p [] (omega (arith, h.small, h.as_many))
      in length-paired op (word_at one p) (word_at other p) (a ∙ sym (k.words_have p [] (omega (arith, h.small, k.as_many)))) ∙ a

  pub pair_holds : HoldsRow words size
  pair_holds = filled_holds words size n (λ p. paired op (word_at one p) (word_at other p)) filled room h.small pair_long pair_past

  pub pair_row : row_of words size 0 ≡ paired op (row_of one size 0) (row_of other size 0)
  pair_row =
      let a : length (row_of one size 0) ≡ size = length-row_of one size 0
      in let b : length (row_of other size 0) ≡ size = length-row_of other size 0
      in filled_row words size n (λ p. paired op (word_at one p) (word_at other p)) filled room h.small pair_long pair_past
      (paired op (row_of one size 0) (row_of other size 0)) (length-paired op (row_of one size 0) (row_of other size 0) (a ∙ sym b) ∙ a)
      (λ c lt.
      pair_value c (omega (arith, h.small))
      ∙ sym (get_or-paired op (row_of one size 0) (row_of other size 0) c (omega arith) (omega arith)))

-- the same, of the rows as they are seen
module _ (one other words : List (List K3)) (size size' n : ℕ) (now others : List K3) (op : K3 → K3 → K3) (none : op No No ≡ No)
    (h : HoldsRow one size) (k : HoldsRow other size') (view : row_of one size 0 ≡ now) (view' : row_of other size' 0 ≡ others)
    (same : length now ≡ length others) (filled : FilledTo words n (λ p. paired op (word_at one p) (word_at other p)))
    (room : size ≤ 64 * n) (few : n ≤ 4) where
  sizes : size' ≡ size
  sizes = sym (length-row_of other size' 0) ∙ ap length view' ∙ sym same ∙ ap length (sym view) ∙ length-row_of one size 0

  as_long : HoldsRow other size
  as_long = subst (HoldsRow other) sizes k

  pub both_hold : HoldsRow words size
  both_hold = pair_holds one other words size n op none h as_long filled room few

  pub both_rows : row_of words size 0 ≡ paired op now others
  both_rows =
      pair_row one other words size n op none h as_long filled room few
      ∙ ap (λ z. paired op (row_of one size 0) (row_of other z 0)) (sym sizes)
      ∙ (rw (view, view') refl)

-- ---- each word made alone

-- the words of copies of one value
module _ (words : List (List K3)) (size n : ℕ) (k : K3) (small : size ≤ 256) (room : size ≤ 64 * n)
    (filled : FilledTo words n (λ p. padded (min 64 (size - 64 * p)) (replicate 64 k))) where
  copies_long : (p : ℕ) → p < n → length (padded (min 64 (size - 64 * p)) (replicate 64 k)) ≡ 64
  copies_long p lt = length-padded (min 64 (size - 64 * p)) (replicate 64 k) (omega arith) (length-replicate 64 k)

  copies_at : (p i : ℕ) → i < 64
      → get_or (padded (min 64 (size - 64 * p)) (replicate 64 k)) i No ≡ cond (ltb i (min 64 (size - 64 * p))) k No
  copies_at p i low =
      get_or-padded (min 64 (size - 64 * p)) (replicate 64 k) i (omega arith) (length-replicate 64 k) low
      ∙ ap (λ x. cond (ltb i (min 64 (size - 64 * p))) x No) (get_or-replicate 64 i k No low)

  copies_past : (c : ℕ) → size ≤ c → c < 64 * n → get_or (padded (min 64 (size - 64 * (c / 64))) (replicate 64 k)) (c % 64) No ≡ No
  copies_past c le lt =
      copies_at (c / 64) (c % 64) (omega arith)
      ∙ ap (λ t. cond t k No) (le-ltb (c % 64) (min 64 (size - 64 * (c / 64))) (omega arith))

  pub copies_hold : HoldsRow words size
  copies_hold =
      filled_holds words size n (λ p. padded (min 64 (size - 64 * p)) (replicate 64 k)) filled room small copies_long copies_past

  pub copies_row : row_of words size 0 ≡ replicate size k
  copies_row =
      filled_row words size n (λ p. padded (min 64 (size - 64 * p)) (replicate 64 k)) filled room small copies_long copies_past
      (replicate size k) (length-replicate size k)
      (λ c lt.
      copies_at (c / 64) (c % 64) (omega arith)
      ∙ ap (λ t. cond t k No) (lt-ltb (c % 64) (min 64 (size - 64 * (c / 64))) (omega arith))
      ∙ sym (get_or-replicate size c k No lt))

-- the words of another row, each value changed by f, and only the first of them
module _ (one words : List (List K3)) (size count n : ℕ) (now : List K3) (f : K3 → K3) (h : HoldsRow one size)
    (view : row_of one size 0 ≡ now) (le : count ≤ length now) (room : count ≤ 64 * n) (few : n ≤ 4) (op : List K3 → List K3)
    (op_long : (word : List K3) → length word ≡ 64 → length (op word) ≡ 64)
    (op_at : (word : List K3) (i : ℕ) → length word ≡ 64 → i < 64 → get_or (op word) i No ≡ f (get_or word i No))
    (filled : FilledTo words n (λ p. padded (min 64 (count - 64 * p)) (op (word_at one p)))) where
  within : count ≤ size
  within = omega (arith, ap length view, length-row_of one size 0)

  word_long : (p : ℕ) → p < n → length (word_at one p) ≡ 64
  word_long p lt = h.words_have p [] (omega (arith, h.small, h.as_many, within))

  front_long : (p : ℕ) → p < n → length (padded (min 64 (count - 64 * p)) (op (word_at one p))) ≡ 64
  front_long p lt = length-padded (min 64 (count - 64 * p)) (op (word_at one p)) (omega arith) (op_long (word_at one p) (word_long p lt))

  front_at : (p i : ℕ) → p < n → i < 64
      → get_or (padded (min 64 (count - 64 * p)) (op (word_at one p))) i No
      ≡ cond (ltb i (min 64 (count - 64 * p))) (f (get_or (word_at one p) i No)) No
  front_at p i lt low =
      get_or-padded (min 64 (count - 64 * p)) (op (word_at one p)) i (omega arith) (op_long (word_at one p) (word_long p lt)) low
      ∙ ap (λ x. cond (ltb i (min 64 (count - 64 * p))) x No) (op_at (word_at one p) i (word_long p lt) low)

  front_past : (c : ℕ) → count ≤ c → c < 64 * n → get_or (padded (min 64 (count - 64 * (c / 64))) (op (word_at one (c / 64)))) (c % 64) No ≡ No
  front_past c ge lt =
      front_at (c / 64) (c % 64) (omega arith) (omega arith)
      ∙ ap (λ t. cond t (f (get_or (word_at one (c / 64)) (c % 64) No)) No)
      (le-ltb (c % 64) (min 64 (count - 64 * (c / 64))) (omega arith))

  small_count : count ≤ 256
  small_count = omega (arith, h.small, within)

  pub front_holds : HoldsRow words count
  front_holds =
      filled_holds words count n (λ p. padded (min 64 (count - 64 * p)) (op (word_at one p))) filled room small_count front_long
      front_past

  pub front_row : row_of words count 0 ≡ map f (take count now)
  front_row =
      let len : length (take count now) ≡ count = length-take-le count now le
      in filled_row words count n (λ p. padded (min 64 (count - 64 * p)) (op (word_at one p))) filled room small_count front_long
      front_past (map f (take count now)) (length-map (take count now) f ∙ len)
      (λ c lt.
      let at : 0 + c / 64 ≡ c / 64 = omega arith
      in front_at (c / 64) (c % 64) (omega arith) (omega arith)
      ∙ ap (λ t. cond t (f (get_or (word_at one (c / 64)) (c % 64) No)) No)
      (lt-ltb (c % 64) (min 64 (count - 64 * (c / 64))) (omega arith))
      ∙ ap (λ p. f (get_or (word_at one p) (c % 64) No)) (sym at)
      ∙ ap f (sym (read_held one size c h (omega (arith, small_count))) ∙ ap (λ v. get_or v c No) view ∙ sym (get_or-take count now c No lt))
      ∙ sym (get_or-map f (take count now) c No No (omega arith)))

-- a whole row negated
module _ (one words : List (List K3)) (size n : ℕ) (h : HoldsRow one size) (room : size ≤ 64 * n) (few : n ≤ 4)
    (filled : FilledTo words n (λ p. padded (min 64 (size - 64 * p)) (map negation_of (word_at one p)))) where
  negated_long : (word : List K3) → length word ≡ 64 → length (map negation_of word) ≡ 64
  negated_long word len = length-map word negation_of ∙ len

  negated_at : (word : List K3) (i : ℕ) → length word ≡ 64 → i < 64 → get_or (map negation_of word) i No ≡ negation_of (get_or word i No)
  negated_at word i len low = get_or-map negation_of word i No No (omega arith)

  pub negated_hold : HoldsRow words size
  negated_hold =
      front_holds one words size size n (row_of one size 0) negation_of h refl (omega (arith, length-row_of one size 0)) room few
      (map negation_of) negated_long negated_at filled

  pub negated_row : row_of words size 0 ≡ map negation_of (row_of one size 0)
  negated_row =
      front_row one words size size n (row_of one size 0) negation_of h refl (omega (arith, length-row_of one size 0)) room few
      (map negation_of) negated_long negated_at filled
      ∙ ap (map negation_of)
      (ap (λ m. take m (row_of one size 0)) (sym (length-row_of one size 0)) ∙ take-length (row_of one size 0))

-- a whole row capped
module _ (one words : List (List K3)) (size n : ℕ) (k : K3) (h : HoldsRow one size) (room : size ≤ 64 * n) (few : n ≤ 4)
    (filled : FilledTo words n (λ p. map (smaller_of k) (word_at one p))) where
  whole : (p : ℕ) → p < n → length (word_at one p) ≡ 64
  whole p lt = h.words_have p [] (omega (arith, h.small, h.as_many))

  capped_at : (c : ℕ) → c < 64 * n → get_or (map (smaller_of k) (word_at one (c / 64))) (c % 64) No ≡ smaller_of k (get_or (row_of one size 0) c No)
  capped_at c lt =
      let at : 0 + c / 64 ≡ c / 64 = omega arith
      in let len : length (word_at one (c / 64)) ≡ 64 = whole (c / 64) (omega arith)
      in get_or-map (smaller_of k) (word_at one (c / 64)) (c % 64) No No (omega arith)
      ∙ ap (λ p. smaller_of k (get_or (word_at one p) (c % 64) No)) (sym at)
      ∙ ap (smaller_of k) (sym (read_held one size c h (omega (arith, h.small))))

  capped_long : (p : ℕ) → p < n → length (map (smaller_of k) (word_at one p)) ≡ 64
  capped_long p lt = length-map (word_at one p) (smaller_of k) ∙ whole p lt

  capped_past : (c : ℕ) → size ≤ c → c < 64 * n → get_or (map (smaller_of k) (word_at one (c / 64))) (c % 64) No ≡ No
  capped_past c le lt =
      let low : c < 256 = omega (arith, h.small)
      in capped_at c lt ∙ ap (smaller_of k) (read_held one size c h low ∙ h.unused c le low) ∙ smaller-no k

  pub capped_hold : HoldsRow words size
  capped_hold = filled_holds words size n (λ p. map (smaller_of k) (word_at one p)) filled room h.small capped_long capped_past

  pub capped_row : row_of words size 0 ≡ map (smaller_of k) (row_of one size 0)
  capped_row =
      filled_row words size n (λ p. map (smaller_of k) (word_at one p)) filled room h.small capped_long capped_past
      (map (smaller_of k) (row_of one size 0)) (length-map (row_of one size 0) (smaller_of k) ∙ length-row_of one size 0)
      (λ c lt.
      capped_at c (omega arith) ∙ sym (get_or-map (smaller_of k) (row_of one size 0) c No No (omega (arith, length-row_of one size 0))))

-- ---- one value put, and the greatest

module _ (words : List (List K3)) (size u : ℕ) (k : K3) (h : HoldsRow words size) (lt : u < size) where
  here : 0 + u / 64 < length words
  here = omega (arith, h.as_many, h.small)

  apart : (c : ℕ) → c ≢ u → (0 + c / 64 ≢ 0 + u / 64) ⊎ (c % 64 ≢ u % 64)
  apart c ne = ⊎_elim (λ e. inr (λ f. ne (omega arith))) (λ other. inl (λ f. other (omega arith))) (cases_eq (c / 64) (u / 64))

  pub set_holds : HoldsRow (with_value words 0 u k) size
  set_holds = record {
    words_have = put_long words h.words_have 0 u k here;
    as_many = length-set words (0 + u / 64) (set (word_at words (0 + u / 64)) (u % 64) k) ∙ h.as_many;
    small = h.small;
    unused = λ c le low. put_other words h.words_have 0 u 0 c k here (apart c (λ e. omega arith)) ∙ h.unused c le low;
  }

  pub set_row : row_of (with_value words 0 u k) size 0 ≡ set (row_of words size 0) u k
  set_row =
      let after : List (List K3) = with_value words 0 u k
      in let len : length (row_of words size 0) ≡ size = length-row_of words size 0
      in ext_get_or No (row_of after size 0) (set (row_of words size 0) u k)
      (length-row_of after size 0 ∙ sym len ∙ sym (length-set (row_of words size 0) u k))
      (λ c l.
      let lc : c < size = omega (arith, length-row_of after size 0)
      in get_or-row_of after size 0 c lc
      ∙ ⊎_elim
      (λ e.
      ap (value_in after 0) e ∙ put_same words h.words_have 0 u k here
      ∙ sym (ap (λ y. get_or (set (row_of words size 0) u k) y No) e ∙ get_or-set_same (row_of words size 0) u k No (omega arith)))
      (λ ne.
      put_other words h.words_have 0 u 0 c k here (apart c ne) ∙ sym (get_or-row_of words size 0 c lc)
      ∙ sym (get_or-set_other (row_of words size 0) u c k No ne))
      (cases_eq c u))

-- the words have the row's values and No behind them
pub greatest_held : (words : List (List K3)) (size n : ℕ) → HoldsRow words size → size ≤ 64 * n → n ≤ 4
    → greatest_in (row_of words (64 * n) 0) ≡ greatest_in (row_of words size 0)
greatest_held words size n h room few =
    let len : length (row_of words size 0) ≡ size = length-row_of words size 0
    in let none : List K3 = replicate (64 * n - size) No
    in ap greatest_in
    (ext_get_or No (row_of words (64 * n) 0) (row_of words size 0 ++ none)
    (omega (arith, length-row_of words (64 * n) 0, length-append (row_of words size 0) none, length-replicate (64 * n - size) No))
    (λ c l.
    let lc : c < 64 * n = omega (arith, length-row_of words (64 * n) 0)
    in get_or-row_of words (64 * n) 0 c lc
    ∙ ⊎_elim
    (λ lt. sym (get_or_append_left (row_of words size 0) none No c (omega arith) ∙ get_or-row_of words size 0 c lt))
    (λ past.
    h.unused c past (omega (arith, h.small))
    ∙ sym (get_or-append_right (row_of words size 0) none size c No len past ∙ get_or-replicate (64 * n - size) (c - size) No No (omega arith)))
    (cases_lt c size)))
    ∙ greatest_padded (row_of words size 0) (64 * n - size)

-- ---- the first word of a row of at most 64 values

pub first_place : (words : List (List K3)) (c : ℕ) → c < 64 → value_in words 0 c ≡ get_or (word_at words 0) c No
first_place words c lt =
    let at : 0 + c / 64 ≡ 0 = omega arith
    in let low : c % 64 ≡ c = omega arith
    in ap (λ p. get_or (word_at words p) (c % 64) No) at ∙ ap (λ i. get_or (word_at words 0) i No) low

-- its values are those of the row, and No behind them
pub first_word : (words : List (List K3)) → AreWords words → length words ≡ 4 → row_of words 64 0 ≡ word_at words 0
first_word words long four =
    let len : length (word_at words 0) ≡ 64 = long 0 [] (omega arith)
    in ext_get_or No (row_of words 64 0) (word_at words 0) (length-row_of words 64 0 ∙ sym len)
    (λ c l.
    let lt : c < 64 = omega (arith, length-row_of words 64 0)
    in get_or-row_of words 64 0 c lt ∙ first_place words c lt)

-- its first values are the row
pub first_values : (words : List (List K3)) (size : ℕ) → HoldsRow words size → size ≤ 64 → take size (word_at words 0) ≡ row_of words size 0
first_values words size h low =
    let long : length (word_at words 0) ≡ 64 = h.words_have 0 [] (omega (arith, h.as_many))
    in let len : length (take size (word_at words 0)) ≡ size = length-take-le size (word_at words 0) (omega arith)
    in ext_get_or No (take size (word_at words 0)) (row_of words size 0) (len ∙ sym (length-row_of words size 0))
    (λ c l.
    let lt : c < size = omega (arith, len)
    in get_or-take size (word_at words 0) c No lt ∙ sym (first_place words c (omega arith)) ∙ sym (get_or-row_of words size 0 c lt))

word_place : (words : List (List K3)) (word : List K3) (c : ℕ) → word ≡ word_at words 0 → c < 64 → get_or word c No ≡ value_in words 0 c
word_place words word c e lt = ap (λ w. get_or w c No) e ∙ sym (first_place words c lt)

-- the first place in the word is the first in the row
pub first_in_word : (words : List (List K3)) (word : List K3) (from : ℕ) (Is IsNot : K3 → Type 0) (found : Option ℕ) → word ≡ word_at words 0
    → IsFirstFrom (λ j. Is (get_or word j No)) (λ j. IsNot (get_or word j No)) from 64 found
    → IsFirstFrom (λ c. Is (value_in words 0 c)) (λ c. IsNot (value_in words 0 c)) from (64 * 1) found
first_in_word words word from Is IsNot (Some u) e first = (
  first.0,
  first.1,
  subst Is (word_place words word u e first.1) first.2,
  λ c le lt. subst IsNot (word_place words word c e (omega (arith, first.1))) (first.3 c le lt),
)
first_in_word words word from Is IsNot None e none = λ c le lt. subst IsNot (word_place words word c e lt) (none c le lt)

-- ---- the next place

module _ (words : List (List K3)) (size n from : ℕ) (now : List K3) (h : HoldsRow words size) (view : row_of words size 0 ≡ now)
    (room : size ≤ 64 * n) (few : n ≤ 4) where
  read_now : (c : ℕ) → c < 256 → get_or now c No ≡ value_in words 0 c
  read_now c low = sym (ap (λ v. get_or v c No) view) ∙ read_held words size c h low

  long_now : length now ≡ size
  long_now = length_seen words size now view

  -- a place that isn't No is one of the row's
  in_row : (u : ℕ) → u < 64 * n → value_in words 0 u ≢ No → u < size
  in_row u lt some = ⊎_elim (λ low. low) (λ past. absurd (some (h.unused u past (omega (arith, h.small))))) (cases_lt u size)

  found_yes : (u : ℕ)
      → (from ≤ u) × (u < 64 * n) × (value_in words 0 u ≡ Yes) × ((c : ℕ) → from ≤ c → c < u → value_in words 0 c ≢ Yes)
      → (from ≤ u) × (u < length now) × (get_or now u No ≡ Yes) × ((c : ℕ) → from ≤ c → c < u → get_or now c No ≢ Yes)
  found_yes u found =
      let lt : u < size = in_row u found.1 (λ no. is_no (value_in words 0 u) found.2 no)
      in (
        found.0,
        omega (arith, long_now),
        read_now u (omega (arith, h.small)) ∙ found.2,
        λ c le before yes. found.3 c le before (sym (read_now c (omega (arith, h.small))) ∙ yes),
      )
    where
      is_no : (k : K3) → k ≡ Yes → k ≡ No → ⊥
      is_no k y z = cc

  none_yes : ((c : ℕ) → from ≤ c → c < 64 * n → value_in words 0 c ≢ Yes)
      → (u : ℕ) → from ≤ u → u < length now → get_or now u No ≢ Yes
  none_yes none u le lt is_yes = none u le (omega (arith, long_now)) (sym (read_now u (omega (arith, long_now, h.small))) ∙ is_yes)

  found_possible : (u : ℕ)
      → (from ≤ u) × (u < 64 * n) × (value_in words 0 u ≢ No) × ((c : ℕ) → from ≤ c → c < u → value_in words 0 c ≡ No)
      → (from ≤ u) × (u < length now) × (get_or now u No ≢ No) × ((c : ℕ) → from ≤ c → c < u → get_or now c No ≡ No)
  found_possible u found =
      let lt : u < size = in_row u found.1 found.2
      in (
        found.0,
        omega (arith, long_now),
        λ no. found.2 (sym (read_now u (omega (arith, h.small))) ∙ no),
        λ c le before. read_now c (omega (arith, h.small)) ∙ found.3 c le before,
      )

  none_possible : ((c : ℕ) → from ≤ c → c < 64 * n → value_in words 0 c ≡ No)
      → (u : ℕ) → from ≤ u → u < length now → get_or now u No ≡ No
  none_possible none u le lt = read_now u (omega (arith, long_now, h.small)) ∙ none u le (omega (arith, long_now))

  pub first_yes_seen : (found : Option ℕ)
      → IsFirstFrom (λ c. value_in words 0 c ≡ Yes) (λ c. value_in words 0 c ≢ Yes) from (64 * n) found
      → IsFirstFrom (λ u. get_or now u No ≡ Yes) (λ u. get_or now u No ≢ Yes) from (length now) found
  first_yes_seen (Some u) first = found_yes u first
  first_yes_seen None none = none_yes none

  pub first_possible_seen : (found : Option ℕ)
      → IsFirstFrom (λ c. value_in words 0 c ≢ No) (λ c. value_in words 0 c ≡ No) from (64 * n) found
      → IsFirstFrom (λ u. get_or now u No ≢ No) (λ u. get_or now u No ≡ No) from (length now) found
  first_possible_seen (Some u) first = found_possible u first
  first_possible_seen None none = none_possible none

  pub place_below : (Is IsNot : ℕ → Type 0) (found : Option ℕ) → IsFirstFrom Is IsNot from (64 * n) found → IfSome found (λ u. u < 2 ^ 32)
  place_below Is IsNot (Some u) first = omega (arith, first.1, h.small)
  place_below Is IsNot None none = tt

-- ---- rows read and written

module _ (words held : List (List K3)) (start size n : ℕ) (long : AreWords words) (small : size ≤ 256)
    (room : start + (size / 64 + min 1 (size % 64)) ≤ length words)
    (unused : (c : ℕ) → size ≤ c → c < 64 * (size / 64 + min 1 (size % 64)) → value_in words start c ≡ No)
    (e : n ≡ size / 64 + min 1 (size % 64)) (filled : FilledTo held n (λ v. word_at words (start + v))) where
  source_long : (p : ℕ) → p < n → length (word_at words (start + p)) ≡ 64
  source_long p lt = long (start + p) [] (omega arith)

  source_past : (c : ℕ) → size ≤ c → c < 64 * n → get_or (word_at words (start + c / 64)) (c % 64) No ≡ No
  source_past c le lt = unused c le (omega arith)

  pub read_holds : HoldsRow held size
  read_holds = filled_holds held size n (λ v. word_at words (start + v)) filled (omega arith) small source_long source_past

  pub read_row : row_of held size 0 ≡ row_of words size start
  read_row =
      filled_row held size n (λ v. word_at words (start + v)) filled (omega arith) small source_long source_past (row_of words size start)
      (length-row_of words size start) (λ c lt. sym (get_or-row_of words size start c lt))
