-- Words and rows that are drawn run by run.
use Rattle.std.proofs.Common.{ℕ, ◌≡◌, ◌≢◌, ◌<◌, ◌≤◌, ◌+◌, ◌-◌, ◌*◌, ◌/◌, ◌%◌, ◌⊎◌, inl, inr, ⊎_elim, Bool}
use Rattle.std.proofs.Common.{true, false, ◌&&◌, cond, eqb, ltb, leb, List, [], ◌∷◌, ◌++◌, length, map}
use Rattle.std.proofs.Common.{get_or, zero-add}
use Rattle.std.proofs.Common.{set, take, refl, sym, ap, ◌∙◌, arith}
use Rattle.std.proofs.lemmas.Bool.{cases_eq, cases_lt, lt-ltb, le-ltb, le-leb, lt-leb}
use Rattle.std.proofs.lemmas.Nat.Bits.{bit_at_above}
use Rattle.std.proofs.lemmas.List.{length-set, length-map, get_or-map, get_or-set_same, get_or-set_other}
use Rattle.std.proofs.lemmas.List.{get_or_past, get_or_default, ext_get_or}
use Rattle.std.proofs.lemmas.List.Elements.{All-set}
use Rattle.std.proofs.lemmas.List.Sums.{fold_push, fold_more}
use Rattle.tv_kleene.specs.declared.K3.{K3}
use Rattle.tv_kleene.specs.declared.K3.TheVariants.{No}
use Rattle.tv_row.specs.Bits.{bit, value_of, values_of, IsWord}
use Rattle.tv_row.specs.BitLaws.{length-values_of, get_or-values_of}
use Rattle.tv_row.specs.Places.{AreWords, word_at, value_in, row_of}
use Rattle.tv_row.specs.RowForm.{HoldsRow}
use Rattle.std.specs.List.{range_with_len}
use Rattle.std.proofs.lemmas.List.FromFn.{length-range_with_len, get_or-range_with_len}
use Rattle.tv_row.specs.Drawing.{all_and_next, DrawingForm, drawn_from, covers, run_over, drawn_by}
use Rattle.tv_row.specs.Drawing.{IsRunOfColumns}
use Rattle.tv_row.specs.declared.drawing.Run.{Run}
use Rattle.tv_row.proofs.PlaceLaws.{length-row_of, get_or-row_of}

-- ---- a word with values of another

module _ (a b c d may must to from count : ℕ) (v : IsWord a b) (to_room : to + count ≤ 64) (from_room : from + count ≤ 64)
    (may_taken : (i : ℕ) → i < count → bit may (to + i) ≡ bit c (from + i))
    (may_kept : (j : ℕ) → j < 64 → (j < to) ⊎ (to + count ≤ j) → bit may j ≡ bit a j)
    (must_taken : (i : ℕ) → i < count → bit must (to + i) ≡ bit d (from + i))
    (must_kept : (j : ℕ) → j < 64 → (j < to) ⊎ (to + count ≤ j) → bit must j ≡ bit b j) where
  pub run_taken : (i : ℕ) → i < count → get_or (values_of may must) (to + i) No ≡ get_or (values_of c d) (from + i) No
  run_taken i lt =
      get_or-values_of may must (to + i) (omega arith) ∙ ap (λ m. value_of m (bit must (to + i))) (may_taken i lt)
      ∙ ap (value_of (bit c (from + i))) (must_taken i lt) ∙ sym (get_or-values_of c d (from + i) (omega arith))

  pub run_kept : (j : ℕ) → (j < to) ⊎ (to + count ≤ j) → get_or (values_of may must) j No ≡ get_or (values_of a b) j No
  run_kept j out =
      ⊎_elim
      (λ low.
      get_or-values_of may must j low ∙ ap (λ m. value_of m (bit must j)) (may_kept j low out)
      ∙ ap (value_of (bit a j)) (must_kept j low out) ∙ sym (get_or-values_of a b j low))
      (λ high.
      get_or_past (values_of may must) j No (omega (arith, length-values_of may must))
      ∙ sym (get_or_past (values_of a b) j No (omega (arith, length-values_of a b))))
      (cases_lt j 64)

  module _ (w : IsWord c d) where
    within_kept : (j : ℕ) → j < 64 → (j < to) ⊎ (to + count ≤ j) → (bit must j && bit may j) ≡ bit must j
    within_kept j low out =
        ap (λ x. x && bit may j) (must_kept j low out) ∙ ap (λ x. bit b j && x) (may_kept j low out) ∙ v.within j low
        ∙ sym (must_kept j low out)

    within_taken : (i : ℕ) → i < count → (bit must (to + i) && bit may (to + i)) ≡ bit must (to + i)
    within_taken i lt =
        ap (λ x. x && bit may (to + i)) (must_taken i lt) ∙ ap (λ x. bit d (from + i) && x) (may_taken i lt)
        ∙ w.within (from + i) (omega arith) ∙ sym (must_taken i lt)

    pub run_within : (j : ℕ) → j < 64 → (bit must j && bit may j) ≡ bit must j
    run_within j low = at (cases_lt j to) (cases_lt j (to + count))
      where
        at : (j < to) ⊎ (to ≤ j) → (j < to + count) ⊎ (to + count ≤ j) → (bit must j && bit may j) ≡ bit must j
        at (inl before) other = within_kept j low (inl before)
        at (inr from_on) (inr past) = within_kept j low (inr past)
        at (inr from_on) (inl lt) =
            let e : to + (j - to) ≡ j = omega arith
            in ap (λ i. bit must i && bit may i) (sym e) ∙ within_taken (j - to) (omega arith) ∙ ap (bit must) e

-- ---- a word's values from a place on

module _ (may must place front_may front_must : ℕ) (w : IsWord may must) (low : place < 64)
    (may_from : (i : ℕ) → bit front_may i ≡ bit may (place + i)) (must_from : (i : ℕ) → bit front_must i ≡ bit must (place + i)) where
  pub from_within : (i : ℕ) → i < 64 → (bit front_must i && bit front_may i) ≡ bit front_must i
  from_within i lt =
      ⊎_elim
      (λ inside.
      ap (λ x. x && bit front_may i) (must_from i) ∙ ap (λ x. bit must (place + i) && x) (may_from i) ∙ w.within (place + i) inside
      ∙ sym (must_from i))
      (λ past.
      let none : bit front_must i ≡ false = must_from i ∙ ap (λ x. eqb x 1) (bit_at_above must 64 (place + i) w.must_fits past)
      in ap (λ x. x && bit front_may i) none ∙ sym none)
      (cases_lt (place + i) 64)

  pub from_values : (i : ℕ) → place + i < 64
      → get_or (values_of front_may front_must) i No ≡ get_or (values_of may must) (place + i) No
  from_values i lt =
      get_or-values_of front_may front_must i (omega arith) ∙ ap (λ m. value_of m (bit front_must i)) (may_from i)
      ∙ ap (value_of (bit may (place + i))) (must_from i) ∙ sym (get_or-values_of may must (place + i) lt)

-- ---- a row that is cleared, word by word

pub cleared : (first words : List (List K3)) (at w : ℕ) (word none : List K3) → word ≡ none → length word ≡ 64 → length words ≡ length first
    → at + w < length words → ((v : ℕ) → v < w → word_at words (at + v) ≡ none)
    → ((p : ℕ) → (p < at) ⊎ (at + w ≤ p) → word_at words p ≡ word_at first p) → (AreWords first → AreWords words)
    → ((v : ℕ) → v < w + 1 → word_at (set words (at + w) word) (at + v) ≡ none)
    × ((p : ℕ) → (p < at) ⊎ (at + (w + 1) ≤ p) → word_at (set words (at + w) word) p ≡ word_at first p)
    × (AreWords first → AreWords (set words (at + w) word)) × (length (set words (at + w) word) ≡ length first)
cleared first words at w word none is long many lt done rest all = (
  λ v lv.
      ⊎_elim
      (λ e. ap (λ n. word_at (set words (at + w) word) (at + n)) e ∙ get_or-set_same words (at + w) word [] lt ∙ is)
      (λ ne. get_or-set_other words (at + w) (at + v) word [] (λ e. ne (omega arith)) ∙ done v (omega (arith, ne)))
      (cases_eq v w),
  λ p out.
      get_or-set_other words (at + w) p word [] (λ e. ⊎_elim (λ before. omega arith) (λ past. omega arith) out)
      ∙ rest p (⊎_elim (λ before. inl before) (λ past. inr (omega arith)) out),
  λ before. All-set (λ line. length line ≡ 64) words (at + w) word long (all before),
  length-set words (at + w) word ∙ many,
)

-- ---- the columns of a run

covered : (run : Run) (c : ℕ) → run.to ≤ c → c < run.to + run.count → covers run c ≡ true
covered run c le lt = ap (λ b. b && ltb c (run.to + run.count)) (le-leb run.to c le) ∙ lt-ltb c (run.to + run.count) lt

both : (b : Bool) → (b && false) ≡ false
both true = refl
both false = refl

outside : (run : Run) (c : ℕ) → (c < run.to) ⊎ (run.to + run.count ≤ c) → covers run c ≡ false
outside run c (inl lt) = ap (λ b. b && ltb c (run.to + run.count)) (lt-leb run.to c lt)
outside run c (inr past) = ap (λ b. leb run.to c && b) (le-ltb c (run.to + run.count) past) ∙ both (leb run.to c)

module _ (words source : List (List K3)) (at from : ℕ) (run : Run) (new : List K3) (to_room : run.to % 64 + run.count ≤ 64)
    (from_room : run.from % 64 + run.count ≤ 64) (lt : at + run.to / 64 < length words)
    (taken : (i : ℕ) → i < run.count
    → get_or new (run.to % 64 + i) No ≡ get_or (word_at source (from + run.from / 64)) (run.from % 64 + i) No)
    (kept : (j : ℕ) → (j < run.to % 64) ⊎ (run.to % 64 + run.count ≤ j) → get_or new j No ≡ get_or (word_at words (at + run.to / 64)) j No) where
  abbrev after : List (List K3)
  after = set words (at + run.to / 64) new

  here : (c : ℕ) → at + c / 64 ≡ at + run.to / 64 → value_in after at c ≡ get_or new (c % 64) No
  here c e =
      ap (λ p. get_or (word_at after p) (c % 64) No) e
      ∙ ap (λ word. get_or word (c % 64) No) (get_or-set_same words (at + run.to / 64) new [] lt)

  value_outside : (c : ℕ) → (c < run.to) ⊎ (run.to + run.count ≤ c) → value_in after at c ≡ value_in words at c
  value_outside c out =
      ⊎_elim
      (λ e.
      here c e ∙ kept (c % 64) (⊎_elim (λ before. inl (omega arith)) (λ past. inr (omega arith)) out)
      ∙ ap (λ p. get_or (word_at words p) (c % 64) No) (sym e))
      (λ ne. ap (λ word. get_or word (c % 64) No) (get_or-set_other words (at + run.to / 64) (at + c / 64) new [] ne))
      (cases_eq (at + c / 64) (at + run.to / 64))

  value_inside : (c : ℕ) → run.to ≤ c → c < run.to + run.count → value_in after at c ≡ value_in source from (run.from + (c - run.to))
  value_inside c le within =
      let i : ℕ = c - run.to
      in let e : at + c / 64 ≡ at + run.to / 64 = omega arith
      in let low : c % 64 ≡ run.to % 64 + i = omega arith
      in let place : from + run.from / 64 ≡ from + (run.from + i) / 64 = omega arith
      in let column : run.from % 64 + i ≡ (run.from + i) % 64 = omega arith
      in here c e ∙ ap (λ j. get_or new j No) low ∙ taken i (omega arith)
      ∙ ap (λ p. get_or (word_at source p) (run.from % 64 + i) No) place
      ∙ ap (λ j. get_or (word_at source (from + (run.from + i) / 64)) j No) column

  pub run_drawn : (c : ℕ) → value_in after at c ≡ run_over (value_in source from) c (value_in words at c) run
  run_drawn c = cases (cases_lt c run.to) (cases_lt c (run.to + run.count))
    where
      apart : (c < run.to) ⊎ (run.to + run.count ≤ c) → value_in after at c ≡ run_over (value_in source from) c (value_in words at c) run
      apart out =
          value_outside c out
          ∙ sym (ap (λ b. cond b (value_in source from (run.from + (c - run.to))) (value_in words at c)) (outside run c out))

      cases : (c < run.to) ⊎ (run.to ≤ c) → (c < run.to + run.count) ⊎ (run.to + run.count ≤ c)
          → value_in after at c ≡ run_over (value_in source from) c (value_in words at c) run
      cases (inl before) other = apart (inl before)
      cases (inr le) (inr past) = apart (inr past)
      cases (inr le) (inl within) =
          value_inside c le within
          ∙ sym (ap (λ b. cond b (value_in source from (run.from + (c - run.to))) (value_in words at c)) (covered run c le within))

-- a run of one word
pub word_run : (old source new : List K3) (run : Run)
    → ((i : ℕ) → i < run.count → get_or new (run.to + i) No ≡ get_or source (run.from + i) No)
    → ((j : ℕ) → (j < run.to) ⊎ (run.to + run.count ≤ j) → get_or new j No ≡ get_or old j No)
    → (c : ℕ) → get_or new c No ≡ run_over (λ i. get_or source i No) c (get_or old c No) run
word_run old source new run taken kept c = cases (cases_lt c run.to) (cases_lt c (run.to + run.count))
  where
    value : ℕ → K3
    value i = get_or source i No

    apart : (c < run.to) ⊎ (run.to + run.count ≤ c) → get_or new c No ≡ run_over value c (get_or old c No) run
    apart out = kept c out ∙ sym (ap (λ b. cond b (value (run.from + (c - run.to))) (get_or old c No)) (outside run c out))

    cases : (c < run.to) ⊎ (run.to ≤ c) → (c < run.to + run.count) ⊎ (run.to + run.count ≤ c)
        → get_or new c No ≡ run_over value c (get_or old c No) run
    cases (inl before) other = apart (inl before)
    cases (inr le) (inr past) = apart (inr past)
    cases (inr le) (inl within) =
        let here : c ≡ run.to + (c - run.to) = omega arith
        in ap (λ n. get_or new n No) here ∙ taken (c - run.to) (omega arith)
        ∙ sym (ap (λ b. cond b (value (run.from + (c - run.to))) (get_or old c No)) (covered run c le within))

-- a run's word is one of its row's
pub run_apart : (at width columns size p : ℕ) (run : Run) → IsRunOfColumns columns size run → size ≤ 64 * width → (p < at) ⊎ (at + width ≤ p)
    → p ≢ at + run.to / 64
run_apart at width columns size p run is room out e =
    ⊎_elim (λ before. absurd (omega (arith, e))) (λ past. absurd (omega (arith, e, is.some, is.to_end))) out

-- ---- one run more

pub drawn_more : (value : ℕ → K3) (c : ℕ) (runs : List Run) (i : ℕ) (d : Run) (k k' : K3) → i < length runs
    → k ≡ drawn_by value (take i runs) c → k' ≡ run_over value c k (get_or runs i d) → k' ≡ drawn_by value (take (i + 1) runs) c
drawn_more value c runs i d k k' lt before now =
    now ∙ ap (λ x. run_over value c x (get_or runs i d)) before ∙ sym (fold_more (run_over value c) No runs i d lt)

-- ---- the runs of a list of origins

-- the columns before `at` have their values, and the others have none
abbrev pub DrawnBefore : DrawingForm → List Run → (at : ℕ) → Type 0
DrawnBefore d runs at = (value : ℕ → K3) (c : ℕ) → drawn_by value runs c ≡ cond (ltb c at) (drawn_from value d c) No

-- a column whose origin is past the end, or that has none, is No
pub drawn_past : (value : ℕ → K3) (d : DrawingForm) (c : ℕ) → d.columns ≤ get_or d.origins c d.columns → drawn_from value d c ≡ No
drawn_past value d c past =
    ap (λ b. cond b (value (get_or d.origins c d.columns)) No) (le-ltb (get_or d.origins c d.columns) d.columns past)

pub drawn_end : (value : ℕ → K3) (d : DrawingForm) (c : ℕ) → length d.origins ≤ c → drawn_from value d c ≡ No
drawn_end value d c le = drawn_past value d c (omega (arith, get_or_past d.origins c d.columns le))

pub drawn_at : (value : ℕ → K3) (d : DrawingForm) (c o : ℕ) → get_or d.origins c d.columns ≡ o → o < d.columns → drawn_from value d c ≡ value o
drawn_at value d c o e lt =
    ap (λ n. cond (ltb n d.columns) (value n) No) e ∙ ap (λ b. cond b (value o) No) (lt-ltb o d.columns lt)

-- what is drawn rests on the values of the columns alone
pub drawn_same : (value other : ℕ → K3) (d : DrawingForm) (c : ℕ) → ((o : ℕ) → o < d.columns → value o ≡ other o)
    → drawn_from value d c ≡ drawn_from other d c
drawn_same value other d c same =
    let o : ℕ = get_or d.origins c d.columns
    in ⊎_elim
    (λ lt. drawn_at value d c o refl lt ∙ same o lt ∙ sym (drawn_at other d c o refl lt))
    (λ le. drawn_past value d c le ∙ sym (drawn_past other d c le))
    (cases_lt o d.columns)

-- all columns and one that is No
pub drawn_next : (value : ℕ → K3) (n c : ℕ) → cond (ltb c n) (value c) No ≡ drawn_from value (all_and_next n) c
drawn_next value n c =
    let origins : List ℕ = range_with_len 0 (n + 1)
    in let long : length origins ≡ n + 1 = length-range_with_len 0 (n + 1)
    in ⊎_elim
    (λ lt.
    ap (λ b. cond b (value c) No) (lt-ltb c n lt)
    ∙ sym (drawn_at value (all_and_next n) c c (get_or-range_with_len 0 (n + 1) c n (omega arith) ∙ zero-add c) lt))
    (λ le.
    let past : n ≤ get_or origins c n
    = ⊎_elim
    (λ here. omega (arith, get_or-range_with_len 0 (n + 1) c n (omega (arith, here))))
    (λ other. omega (arith, get_or_past origins c n (omega (arith, long, other, le))))
    (cases_eq c n)
    in ap (λ b. cond b (value c) No) (le-ltb c n le) ∙ sym (drawn_past value (all_and_next n) c past))
    (cases_lt c n)

module _ (d : DrawingForm) (runs : List Run) (at : ℕ) (before : DrawnBefore d runs at) where
  -- a column that comes from past the end is passed over
  pub drawn_skipped : d.columns ≤ get_or d.origins at 0 → at < length d.origins → DrawnBefore d runs (at + 1)
  drawn_skipped past within value c = before value c ∙ cases (cases_lt c at) (cases_eq c at)
    where
      cases : (c < at) ⊎ (at ≤ c) → (c ≡ at) ⊎ (c ≢ at)
          → cond (ltb c at) (drawn_from value d c) No ≡ cond (ltb c (at + 1)) (drawn_from value d c) No
      cases (inl lt) other =
          ap (λ b. cond b (drawn_from value d c) No) (lt-ltb c at lt ∙ sym (lt-ltb c (at + 1) (omega arith)))
      cases (inr le) (inl e) =
          ap (λ b. cond b (drawn_from value d c) No) (le-ltb c at le)
          ∙ sym (ap (λ b. cond b (drawn_from value d c) No) (lt-ltb c (at + 1) (omega arith))
          ∙ drawn_past value d c (omega (arith, past, ap (λ n. get_or d.origins n d.columns) e, get_or_default d.origins at d.columns 0 within)))
      cases (inr le) (inr ne) =
          ap (λ b. cond b (drawn_from value d c) No) (le-ltb c at le ∙ sym (le-ltb c (at + 1) (omega (arith, ne))))

  -- a run's columns are drawn
  pub drawn_run : (run : Run) → IsRunOfColumns d.columns (length d.origins) run → run.to ≡ at
      → ((i : ℕ) → i < run.count → get_or d.origins (at + i) 0 ≡ run.from + i) → DrawnBefore d (runs ++ run ∷ []) (at + run.count)
  drawn_run run is place same value c =
      fold_push (run_over value c) No runs run ∙ ap (λ k. run_over value c k run) (before value c)
      ∙ cases (cases_lt c at) (cases_lt c (at + run.count))
    where
      apart : (c < run.to) ⊎ (run.to + run.count ≤ c) → (k : K3) → run_over value c k run ≡ k
      apart out k = ap (λ b. cond b (value (run.from + (c - run.to))) k) (outside run c out)

      cases : (c < at) ⊎ (at ≤ c) → (c < at + run.count) ⊎ (at + run.count ≤ c)
          → run_over value c (cond (ltb c at) (drawn_from value d c) No) run ≡ cond (ltb c (at + run.count)) (drawn_from value d c) No
      cases (inl lt) other =
          apart (inl (omega arith)) (cond (ltb c at) (drawn_from value d c) No)
          ∙ ap (λ b. cond b (drawn_from value d c) No) (lt-ltb c at lt ∙ sym (lt-ltb c (at + run.count) (omega arith)))
      cases (inr le) (inr past) =
          apart (inr (omega arith)) (cond (ltb c at) (drawn_from value d c) No)
          ∙ ap (λ b. cond b (drawn_from value d c) No) (le-ltb c at le ∙ sym (le-ltb c (at + run.count) past))
      cases (inr le) (inl within) =
          let i : ℕ = c - at
          in let here : at + i ≡ c = omega arith
          in let o : ℕ = run.from + (c - run.to)
          in let origin : get_or d.origins c d.columns ≡ o
          = get_or_default d.origins c d.columns 0 (omega (arith, is.to_end)) ∙ ap (λ n. get_or d.origins n 0) (sym here)
          ∙ same i (omega arith) ∙ (let e : run.from + i ≡ o = omega arith in e)
          in ap (λ b. cond b (value o) (cond (ltb c at) (drawn_from value d c) No)) (covered run c (omega arith) (omega arith))
          ∙ sym (ap (λ b. cond b (drawn_from value d c) No) (lt-ltb c (at + run.count) within)
          ∙ drawn_at value d c o origin (omega (arith, is.from_end)))

  -- at the end every column is
  pub drawn_all : length d.origins ≤ at → (value : ℕ → K3) (c : ℕ) → drawn_by value runs c ≡ drawn_from value d c
  drawn_all past value c =
      before value c
      ∙ ⊎_elim
      (λ lt. ap (λ b. cond b (drawn_from value d c) No) (lt-ltb c at lt))
      (λ le. ap (λ b. cond b (drawn_from value d c) No) (le-ltb c at le) ∙ sym (drawn_end value d c (omega arith)))
      (cases_lt c at)

-- ---- a drawn row

module _ (words : List (List K3)) (start : ℕ) (d : DrawingForm) (row : List K3) (is : row_of words d.columns start ≡ row) where
  value_drawn : (o : ℕ) → cond (ltb o d.columns) (value_in words start o) No ≡ get_or row o No
  value_drawn o =
      let long : length row ≡ d.columns = sym (ap length is) ∙ length-row_of words d.columns start
      in ⊎_elim
      (λ lt.
      ap (λ b. cond b (value_in words start o) No) (lt-ltb o d.columns lt)
      ∙ sym (get_or-row_of words d.columns start o lt) ∙ ap (λ (r : List K3). get_or r o No) is)
      (λ le. ap (λ b. cond b (value_in words start o) No) (le-ltb o d.columns le) ∙ sym (get_or_past row o No (omega arith)))
      (cases_lt o d.columns)

  -- what is drawn are the row's values at the origins
  pub drawn_reads : (c : ℕ) → drawn_from (value_in words start) d c ≡ get_or (map (λ o. get_or row o No) d.origins) c No
  drawn_reads c =
      ⊎_elim
      (λ lt. value_drawn (get_or d.origins c d.columns) ∙ sym (get_or-map (λ o. get_or row o No) d.origins c d.columns No lt))
      (λ le.
      drawn_end (value_in words start) d c le
      ∙ sym (get_or_past (map (λ o. get_or row o No) d.origins) c No (omega (arith, length-map d.origins (λ o. get_or row o No)))))
      (cases_lt c (length d.origins))

module _ (words source : List (List K3)) (d : DrawingForm) (now : List K3) (size : ℕ) (view : row_of source size 0 ≡ now)
    (columns : d.columns ≡ length now) (small : length d.origins ≤ 256) (long : AreWords words) (many : length words ≡ 4)
    (values : (c : ℕ) → c < 64 * 4 → value_in words 0 c ≡ drawn_from (value_in source 0) d c) where
  pub drawn_holds : HoldsRow words (length d.origins)
  drawn_holds = record {
    words_have = long;
    as_many = many;
    small = small;
    unused = λ c past low. values c (omega arith) ∙ drawn_end (value_in source 0) d c past;
  }

  pub drawn_row : row_of words (length d.origins) 0 ≡ map (λ origin. get_or now origin No) d.origins
  drawn_row =
      let many : ℕ = length d.origins
      in let as_long : d.columns ≡ size = columns ∙ sym (ap length view) ∙ length-row_of source size 0
      in ext_get_or No (row_of words many 0) (map (λ origin. get_or now origin No) d.origins)
      (length-row_of words many 0 ∙ sym (length-map d.origins (λ origin. get_or now origin No)))
      (λ c l.
      let lt : c < many = omega (arith, length-row_of words many 0)
      in get_or-row_of words many 0 c lt ∙ values c (omega arith)
      ∙ drawn_reads source 0 d now (ap (λ n. row_of source n 0) as_long ∙ view) c)
