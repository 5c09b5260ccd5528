-- Words that are packed.
use Rattle.std.proofs.Common.{ℕ, ◌≡◌, ◌≢◌, ◌<◌, ◌≤◌, ◌+◌, ◌*◌, ◌/◌, ◌%◌, ◌^◌, ◌⊎◌, inl, inr, ⊎_elim, cond}
use Rattle.std.proofs.Common.{ltb}
use Rattle.std.proofs.Common.{Bool, true, false, if◌then◌else◌, nat_le, List, [], ◌∷◌, length, get_or, set}
use Rattle.std.proofs.Common.{map, replicate, sym, ap, subst, refl, ◌∙◌, arith}
use Rattle.std.specs.List.{range_with_len}
use Rattle.std.specs.Cmp.Lexicographic.{slice_cmp}
use Rattle.std.proofs.lemmas.Bool.{cases_eq, cases_lt, lt-ltb, le-ltb, leb-true}
use Rattle.std.proofs.lemmas.Nat.{row_fits, div_below, mod_below, div-add-mod'}
use Rattle.std.proofs.lemmas.List.{ext_get_or, get_or_default, get_or_past, length-set, get_or-set_same}
use Rattle.std.proofs.lemmas.List.{get_or-set_other}
use Rattle.std.proofs.lemmas.List.{length-replicate, get_or-replicate}
use Rattle.std.proofs.lemmas.List.FromFn.{length-map-range_with_len, get_or-map-range_with_len}
use Rattle.tv_kleene.specs.declared.K3.{K3}
use Rattle.tv_kleene.specs.declared.K3.TheVariants.{No}
use Rattle.tv_row.specs.Bits.{padded, value_cmp}
use Rattle.tv_row.specs.Packed.{PackedForm, FillsWord, HoldsPacked, cells_for, word_unpacked, unpacked}
use Rattle.tv_row.specs.Packed.{packed}
use Rattle.tv_row.specs.Places.{AreWords, word_at, value_in, with_value, row_of}
use Rattle.tv_row.proofs.Compare.{value_tied, same_lists_tie, first_decides}
use Rattle.tv_row.proofs.CompareRows.{Differs, differ, list_tied}
use Rattle.tv_row.proofs.PlaceLaws.{no_value, put_same, put_other, put_long, length-row_of, get_or-row_of}
use Rattle.tv_row.proofs.WordOps.{length-padded, get_or-padded}

-- ---- numbers

pub fills_some : (cells : ℕ) → FillsWord cells → (0 < cells) × (cells ≤ 64)
fills_some cells (inl e) = (omega arith, omega arith)
fills_some cells (inr (inl e)) = (omega arith, omega arith)
fills_some cells (inr (inr (inl e))) = (omega arith, omega arith)
fills_some cells (inr (inr (inr (inl e)))) = (omega arith, omega arith)
fills_some cells (inr (inr (inr (inr (inl e))))) = (omega arith, omega arith)
fills_some cells (inr (inr (inr (inr (inr (inl e)))))) = (omega arith, omega arith)
fills_some cells (inr (inr (inr (inr (inr (inr e)))))) = (omega arith, omega arith)

-- the values of a packed word lie in one item
abbrev pub LiesIn : (p c cells : ℕ) → Type 0
LiesIn p c cells =
    c < cells
    → ((p * cells) % 64 + cells ≤ 64) × ((p * cells + c) / 64 ≡ (p * cells) / 64) × ((p * cells + c) % 64 ≡ (p * cells) % 64 + c)

pub lies_in : (p c cells : ℕ) → FillsWord cells → LiesIn p c cells
lies_in p c cells (inl e) = subst (LiesIn p c) (sym e) (λ lt. (omega arith, omega arith, omega arith))
lies_in p c cells (inr (inl e)) = subst (LiesIn p c) (sym e) (λ lt. (omega arith, omega arith, omega arith))
lies_in p c cells (inr (inr (inl e))) = subst (LiesIn p c) (sym e) (λ lt. (omega arith, omega arith, omega arith))
lies_in p c cells (inr (inr (inr (inl e)))) = subst (LiesIn p c) (sym e) (λ lt. (omega arith, omega arith, omega arith))
lies_in p c cells (inr (inr (inr (inr (inl e))))) = subst (LiesIn p c) (sym e) (λ lt. (omega arith, omega arith, omega arith))
lies_in p c cells (inr (inr (inr (inr (inr (inl e)))))) = subst (LiesIn p c) (sym e) (λ lt. (omega arith, omega arith, omega arith))
lies_in p c cells (inr (inr (inr (inr (inr (inr e)))))) = subst (LiesIn p c) (sym e) (λ lt. (omega arith, omega arith, omega arith))

-- ---- the values of words

module _ (items : List (List K3)) (cells p : ℕ) where
  pub long-word_unpacked : length (word_unpacked items cells p) ≡ 64
  long-word_unpacked = length-map-range_with_len (λ c. cond (ltb c cells) (value_in items 0 (p * cells + c)) No) 0 64

  told : (c : ℕ) → c < 64
      → get_or (word_unpacked items cells p) c No ≡ cond (ltb c cells) (value_in items 0 (p * cells + c)) No
  told c lt =
      get_or-map-range_with_len (λ c. cond (ltb c cells) (value_in items 0 (p * cells + c)) No) 0 64 c c No lt (omega arith)

  pub used_value : (c : ℕ) → c < 64 → c < cells → get_or (word_unpacked items cells p) c No ≡ value_in items 0 (p * cells + c)
  used_value c lt in_cells = told c lt ∙ ap (λ t. cond t (value_in items 0 (p * cells + c)) No) (lt-ltb c cells in_cells)

  pub unused_value : (c : ℕ) → c < 64 → cells ≤ c → get_or (word_unpacked items cells p) c No ≡ No
  unused_value c lt past = told c lt ∙ ap (λ t. cond t (value_in items 0 (p * cells + c)) No) (le-ltb c cells past)

pub length-unpacked : (items : List (List K3)) (cells count : ℕ) → length (unpacked items cells count) ≡ count
unfolding unpacked
length-unpacked items cells count = length-map-range_with_len (word_unpacked items cells) 0 count

pub word-unpacked : (items : List (List K3)) (cells count p : ℕ) → p < count
    → word_at (unpacked items cells count) p ≡ word_unpacked items cells p
unfolding unpacked
word-unpacked items cells count p lt = get_or-map-range_with_len (word_unpacked items cells) 0 count p p [] lt (omega arith)

pub long-unpacked : (items : List (List K3)) (cells count : ℕ) → AreWords (unpacked items cells count)
long-unpacked items cells count p d lt =
    ap length (get_or_default (unpacked items cells count) p d [] lt)
    ∙ ap length (word-unpacked items cells count p (omega (arith, lt, length-unpacked items cells count)))
    ∙ long-word_unpacked items cells p

module _ (items : List (List K3)) (cells count : ℕ) (h : HoldsPacked items cells count) where
  fit : (p : ℕ) → p < count → p * cells + cells ≤ count * cells
  fit p lt = row_fits p cells count cells lt (omega arith)

  -- a place is a number
  pub place_small : (p : ℕ) → p < count → p * cells + cells ≤ 2 ^ 54
  place_small p lt =
      omega (arith, row_fits p cells count 64 lt (fills_some cells h.fills).1, h.few)

  pub place_within : (p c : ℕ) → p < count → c < cells → 0 + (p * cells + c) / 64 < length items
  place_within p c lt in_cells = omega (arith, fit p lt, h.as_many)

  pub item_within : (p : ℕ) → p < count → (p * cells) / 64 < length items
  item_within p lt = omega (arith, fit p lt, (fills_some cells h.fills).0, h.as_many)

  pub value_seen : (start column : ℕ) → start + column / 64 < count → column % 64 < cells
      → value_in (unpacked items cells count) start column
      ≡ value_in items 0 ((start + column / 64) * cells + column % 64)
  value_seen start column lt in_cells =
      ap (λ word. get_or word (column % 64) No) (word-unpacked items cells count (start + column / 64) lt)
      ∙ used_value items cells (start + column / 64) (column % 64) (omega arith) in_cells

  -- a word that is cut out of its item
  pub word_is : (p : ℕ) (word front item : List K3) → p < count → word ≡ padded cells front → length front ≡ 64
      → item ≡ word_at items ((p * cells) / 64)
      → ((i : ℕ) → (p * cells) % 64 + i < 64 → get_or front i No ≡ get_or item ((p * cells) % 64 + i) No)
      → word ≡ word_at (unpacked items cells count) p
  word_is p word front item lt cut long is from =
      let most : cells ≤ 64 = (fills_some cells h.fills).1
      in cut
      ∙ ext_get_or No (padded cells front) (word_unpacked items cells p) (length-padded cells front most long ∙ sym (long-word_unpacked items cells p))
      (λ i l.
      let li : i < 64 = omega (arith, l, length-padded cells front most long)
      in get_or-padded cells front i most long li
      ∙ ⊎_elim
      (λ in_cells.
      let lies : ((p * cells) % 64 + cells ≤ 64) × ((p * cells + i) / 64 ≡ (p * cells) / 64) × ((p * cells + i) % 64 ≡ (p * cells) % 64 + i)
      = lies_in p i cells h.fills in_cells
      in let at : 0 + (p * cells + i) / 64 ≡ (p * cells) / 64 = omega (arith, lies.1)
      in ap (λ t. cond t (get_or front i No) No) (lt-ltb i cells in_cells) ∙ from i (omega (arith, lies.0, in_cells))
      ∙ ap (λ (w : List K3). get_or w ((p * cells) % 64 + i) No) is
      ∙ sym (used_value items cells p i li in_cells ∙ ap (λ q. get_or (word_at items q) ((p * cells + i) % 64) No) at
      ∙ ap (λ j. get_or (word_at items ((p * cells) / 64)) j No) lies.2))
      (λ past. ap (λ t. cond t (get_or front i No) No) (le-ltb i cells past) ∙ sym (unused_value items cells p i li past))
      (cases_lt i cells))
      ∙ sym (word-unpacked items cells count p lt)

  -- ---- a word is put

  module _ (new : List (List K3)) (p : ℕ) (word : List K3) (lt : p < count) (long : length word ≡ 64)
      (same : length new ≡ length items) (longs : AreWords new)
      (here : (c : ℕ) → c < cells → value_in new 0 (p * cells + c) ≡ get_or word c No)
      (rest : (c : ℕ) → cells ≤ c → c < 64 → get_or word c No ≡ No)
      (others : (q : ℕ) → (q < p * cells) ⊎ (p * cells + cells ≤ q) → value_in new 0 q ≡ value_in items 0 q) where
    pub put_holds : HoldsPacked new cells count
    put_holds = record {
      words_have = longs;
      fills = h.fills;
      few = h.few;
      as_many = same ∙ h.as_many;
      unused = λ q past low. others q (inr (omega (arith, fit p lt, past))) ∙ h.unused q past (omega (arith, low, same));
    }

    put_here : word_unpacked new cells p ≡ word
    put_here =
        ext_get_or No (word_unpacked new cells p) word (long-word_unpacked new cells p ∙ sym long)
        (λ c l.
        let lc : c < 64 = omega (arith, l, long-word_unpacked new cells p)
        in ⊎_elim (λ in_cells. used_value new cells p c lc in_cells ∙ here c in_cells)
        (λ past. unused_value new cells p c lc past ∙ sym (rest c past lc)) (cases_lt c cells))

    put_there : (v : ℕ) → v ≢ p → word_unpacked new cells v ≡ word_unpacked items cells v
    put_there v ne =
        ext_get_or No (word_unpacked new cells v) (word_unpacked items cells v)
        (long-word_unpacked new cells v ∙ sym (long-word_unpacked items cells v))
        (λ c l.
        let lc : c < 64 = omega (arith, l, long-word_unpacked new cells v)
        in ⊎_elim
        (λ in_cells.
        used_value new cells v c lc in_cells ∙ others (v * cells + c) (apart c in_cells (cases_lt v p))
        ∙ sym (used_value items cells v c lc in_cells))
        (λ past. unused_value new cells v c lc past ∙ sym (unused_value items cells v c lc past)) (cases_lt c cells))
      where
        apart : (c : ℕ) → c < cells → (v < p) ⊎ (p ≤ v) → (v * cells + c < p * cells) ⊎ (p * cells + cells ≤ v * cells + c)
        apart c in_cells (inl before) = inl (omega (arith, row_fits v cells p cells before (omega arith)))
        apart c in_cells (inr behind) = inr (omega (arith, row_fits p cells v cells (omega arith) (omega arith)))

    pub put_is : unpacked new cells count ≡ set (unpacked items cells count) p word
    put_is =
        let many : length (unpacked items cells count) ≡ count = length-unpacked items cells count
        in ext_get_or [] (unpacked new cells count) (set (unpacked items cells count) p word)
        (length-unpacked new cells count ∙ sym (length-set (unpacked items cells count) p word ∙ many))
        (λ v l.
        let lv : v < count = omega (arith, l, length-unpacked new cells count)
        in word-unpacked new cells count v lv
        ∙ ⊎_elim
        (λ e.
        ap (word_unpacked new cells) e ∙ put_here
        ∙ sym (ap (word_at (set (unpacked items cells count) p word)) e
        ∙ get_or-set_same (unpacked items cells count) p word [] (omega (arith, lt, many))))
        (λ ne.
        put_there v ne
        ∙ sym (get_or-set_other (unpacked items cells count) p v word [] ne ∙ word-unpacked items cells count v lv))
        (cases_eq v p))

  -- one value is put

  module _ (p column : ℕ) (k : K3) (lt : p < count) (in_cells : column < cells) where
    abbrev spot : ℕ
    spot = p * cells + column

    abbrev old_word : List K3
    old_word = word_at (unpacked items cells count) p

    within : 0 + spot / 64 < length items
    within = place_within p column lt in_cells

    small : cells ≤ 64
    small = (fills_some cells h.fills).1

    old_long : length old_word ≡ 64
    old_long = ap length (word-unpacked items cells count p lt) ∙ long-word_unpacked items cells p

    apart : (q : ℕ) → q ≢ spot → (0 + q / 64 ≢ 0 + spot / 64) ⊎ (q % 64 ≢ spot % 64)
    apart q ne =
        ⊎_elim (λ e. inr (λ f. ne (omega (arith, e, f)))) (λ differ. inl differ) (cases_eq (0 + q / 64) (0 + spot / 64))

    cell_here : (c : ℕ) → c < cells → value_in (with_value items 0 spot k) 0 (p * cells + c) ≡ get_or (set old_word column k) c No
    cell_here c lc =
        ⊎_elim
        (λ e.
        ap (λ n. value_in (with_value items 0 spot k) 0 (p * cells + n)) e ∙ put_same items h.words_have 0 spot k within
        ∙ sym (ap (λ n. get_or (set old_word column k) n No) e ∙ get_or-set_same old_word column k No (omega (arith, old_long, in_cells, small))))
        (λ ne.
        put_other items h.words_have 0 spot 0 (p * cells + c) k within (apart (p * cells + c) (λ same. ne (omega (arith, same))))
        ∙ sym (get_or-set_other old_word column c k No ne ∙ ap (λ w. get_or w c No) (word-unpacked items cells count p lt)
        ∙ used_value items cells p c (omega (arith, lc, small)) lc))
        (cases_eq c column)

    cell_rest : (c : ℕ) → cells ≤ c → c < 64 → get_or (set old_word column k) c No ≡ No
    cell_rest c past low =
        get_or-set_other old_word column c k No (λ e. omega (arith, e, past, in_cells))
        ∙ ap (λ w. get_or w c No) (word-unpacked items cells count p lt) ∙ unused_value items cells p c low past

    cell_others : (q : ℕ) → (q < p * cells) ⊎ (p * cells + cells ≤ q) → value_in (with_value items 0 spot k) 0 q ≡ value_in items 0 q
    cell_others q out = put_other items h.words_have 0 spot 0 q k within (apart q (other out))
      where
        other : (q < p * cells) ⊎ (p * cells + cells ≤ q) → q ≢ spot
        other (inl before) e = omega (arith, before, e)
        other (inr past) e = omega (arith, past, e, in_cells)

    many : length (with_value items 0 spot k) ≡ length items
    many = length-set items (0 + spot / 64) (set (word_at items (0 + spot / 64)) (spot % 64) k)

    pub cell_holds : HoldsPacked (with_value items 0 spot k) cells count
    cell_holds =
        put_holds (with_value items 0 spot k) p (set old_word column k) lt (length-set old_word column k ∙ old_long) many
        (put_long items h.words_have 0 spot k within) cell_here cell_rest cell_others

    pub cell_is : unpacked (with_value items 0 spot k) cells count ≡ set (unpacked items cells count) p (set old_word column k)
    cell_is =
        put_is (with_value items 0 spot k) p (set old_word column k) lt (length-set old_word column k ∙ old_long) many
        (put_long items h.words_have 0 spot k within) cell_here cell_rest cell_others

  -- the item of which a run is the word
  module _ (p : ℕ) (word made item : List K3) (lt : p < count) (long : length word ≡ 64) (made_long : length made ≡ 64)
      (is : item ≡ word_at items ((p * cells) / 64))
      (rest : (c : ℕ) → cells ≤ c → c < 64 → get_or word c No ≡ No)
      (taken : (i : ℕ) → i < cells → get_or made ((p * cells) % 64 + i) No ≡ get_or word (0 + i) No)
      (kept : (j : ℕ) → (j < (p * cells) % 64) ⊎ ((p * cells) % 64 + cells ≤ j) → get_or made j No ≡ get_or item j No) where
    abbrev at_item : ℕ
    at_item = (p * cells) / 64

    abbrev new : List (List K3)
    new = set items at_item made

    in_item : (i : ℕ) → get_or (word_at new at_item) i No ≡ get_or made i No
    in_item i = ap (λ w. get_or w i No) (get_or-set_same items at_item made [] (item_within p lt))

    new_longs : AreWords new
    new_longs v d l =
        ap length (get_or_default new v d [] l)
        ∙ ⊎_elim
        (λ e. ap (λ q. length (word_at new q)) e ∙ ap length (get_or-set_same items at_item made [] (item_within p lt)) ∙ made_long)
        (λ ne. ap length (get_or-set_other items at_item v made [] ne) ∙ h.words_have v [] (omega (arith, l, length-set items at_item made)))
        (cases_eq v at_item)

    new_here : (c : ℕ) → c < cells → value_in new 0 (p * cells + c) ≡ get_or word c No
    new_here c in_cells =
        let lies : ((p * cells) % 64 + cells ≤ 64) × ((p * cells + c) / 64 ≡ (p * cells) / 64) × ((p * cells + c) % 64 ≡ (p * cells) % 64 + c)
        = lies_in p c cells h.fills in_cells
        in let at : 0 + (p * cells + c) / 64 ≡ at_item = omega (arith, lies.1)
        in let first : 0 + c ≡ c = omega arith
        in ap (λ q. get_or (word_at new q) ((p * cells + c) % 64) No) at ∙ ap (λ j. get_or (word_at new at_item) j No) lies.2
        ∙ in_item ((p * cells) % 64 + c) ∙ taken c in_cells ∙ ap (λ j. get_or word j No) first

    new_others : (q : ℕ) → (q < p * cells) ⊎ (p * cells + cells ≤ q) → value_in new 0 q ≡ value_in items 0 q
    new_others q out =
        ⊎_elim
        (λ e.
        ap (λ v. get_or (word_at new v) (q % 64) No) e ∙ in_item (q % 64) ∙ kept (q % 64) (apart out e)
        ∙ ap (λ (w : List K3). get_or w (q % 64) No) is ∙ sym (ap (λ v. get_or (word_at items v) (q % 64) No) e))
        (λ ne. ap (λ w. get_or w (q % 64) No) (get_or-set_other items at_item (0 + q / 64) made [] ne))
        (cases_eq (0 + q / 64) at_item)
      where
        apart : (q < p * cells) ⊎ (p * cells + cells ≤ q) → 0 + q / 64 ≡ at_item
            → (q % 64 < (p * cells) % 64) ⊎ ((p * cells) % 64 + cells ≤ q % 64)
        apart (inl before) e = inl (omega arith)
        apart (inr past) e = inr (omega arith)

    pub run_holds : HoldsPacked (set items at_item made) cells count
    run_holds = put_holds new p word lt long (length-set items at_item made) new_longs new_here rest new_others

    pub run_is : unpacked (set items at_item made) cells count ≡ set (unpacked items cells count) p word
    run_is = put_is new p word lt long (length-set items at_item made) new_longs new_here rest new_others

  -- ---- the items are the words packed

  pub packed_back : items ≡ packed (record { cells = cells; words = unpacked items cells count })
  unfolding packed
  packed_back =
      let words : List (List K3) = unpacked items cells count
      in let value : ℕ → ℕ → K3 = λ q c. get_or (word_at words ((64 * q + c) / cells)) ((64 * q + c) % cells) No
      in let word : ℕ → List K3 = λ q. map (value q) (range_with_len 0 64)
      in let many : (length words * cells + 63) / 64 ≡ length items
      = ap (λ n. (n * cells + 63) / 64) (length-unpacked items cells count) ∙ sym h.as_many
      in ext_get_or [] items (map word (range_with_len 0 ((length words * cells + 63) / 64)))
      (sym (length-map-range_with_len word 0 ((length words * cells + 63) / 64) ∙ many))
      (λ q lq.
      let long : length (word_at items q) ≡ 64 = h.words_have q [] lq
      in ext_get_or No (word_at items q) (word q) (long ∙ sym (length-map-range_with_len (value q) 0 64))
      (λ c lc.
      let low : c < 64 = omega (arith, lc, long)
      in held q c lq low ∙ sym (get_or-map-range_with_len (value q) 0 64 c c No low (omega arith)))
      ∙ sym (get_or-map-range_with_len word 0 ((length words * cells + 63) / 64) q q [] (omega (arith, lq, many)) (omega arith)))
    where
      held : (q c : ℕ) → q < length items → c < 64
          → get_or (word_at items q) c No
          ≡ get_or (word_at (unpacked items cells count) ((64 * q + c) / cells)) ((64 * q + c) % cells) No
      held q c lq low =
          let place : ℕ = 64 * q + c
          in let some : 0 < cells = (fills_some cells h.fills).0
          in let most : cells ≤ 64 = (fills_some cells h.fills).1
          in let in_cells : place % cells < cells = mod_below place cells some
          in let at : 0 + place / 64 ≡ q = omega arith
          in let low_at : place % 64 ≡ c = omega arith
          in let here : value_in items 0 place ≡ get_or (word_at items q) c No
          = ap (λ v. get_or (word_at items v) (place % 64) No) at ∙ ap (λ i. get_or (word_at items q) i No) low_at
          in sym here
          ∙ ⊎_elim
          (λ lt.
          let back : place / cells * cells + place % cells ≡ place = omega (arith, div-add-mod' place cells)
          in ap (value_in items 0) (sym back)
          ∙ sym (ap (λ w. get_or w (place % cells) No) (word-unpacked items cells count (place / cells) lt)
          ∙ used_value items cells (place / cells) (place % cells) (omega arith) in_cells))
          (λ past.
          let back : place / cells * cells + place % cells ≡ place = omega (arith, div-add-mod' place cells)
          in h.unused place (omega (arith, back, times-le count (place / cells) cells past)) (omega arith)
          ∙ sym (ap (λ w. get_or w (place % cells) No) (get_or_past (unpacked items cells count) (place / cells) [] (omega (arith, past, length-unpacked items cells count)))))
          (cases_lt (place / cells) count)
        where
          times-le : (a b n : ℕ) → a ≤ b → a * n ≤ b * n
          times-le a b n le = grind arith

-- ---- No everywhere

module _ (kept cells count : ℕ) (fills : FillsWord cells) (few : count ≤ 2 ^ 48) (as_many : kept ≡ (count * cells + 63) / 64) where
  abbrev none : List (List K3)
  none = replicate kept (replicate 64 No)

  pub no_holds : HoldsPacked (replicate kept (replicate 64 No)) cells count
  no_holds = record {
    words_have = λ p d lt. ap length (get_or-replicate kept p (replicate 64 No) d (omega (arith, lt, length-replicate kept (replicate 64 No)))) ∙ length-replicate 64 No;
    fills = fills;
    few = few;
    as_many = length-replicate kept (replicate 64 No) ∙ as_many;
    unused = λ place past low. no_value kept 0 place;
  }

  pub no_words : unpacked (replicate kept (replicate 64 No)) cells count ≡ replicate count (replicate 64 No)
  no_words =
      ext_get_or [] (unpacked none cells count) (replicate count (replicate 64 No))
      (length-unpacked none cells count ∙ sym (length-replicate count (replicate 64 No)))
      (λ p l.
      let lt : p < count = omega (arith, l, length-unpacked none cells count)
      in word-unpacked none cells count p lt
      ∙ ext_get_or No (word_unpacked none cells p) (replicate 64 No) (long-word_unpacked none cells p ∙ sym (length-replicate 64 No))
      (λ c m.
      let low : c < 64 = omega (arith, m, long-word_unpacked none cells p)
      in ⊎_elim (λ in_cells. used_value none cells p c low in_cells ∙ no_value kept 0 (p * cells + c))
      (λ past. unused_value none cells p c low past) (cases_lt c cells)
      ∙ sym (get_or-replicate 64 c No No low))
      ∙ sym (get_or-replicate count p (replicate 64 No) [] lt))

-- ---- words compare as they are packed

module _ (items others : List (List K3)) (cells count : ℕ) (h : HoldsPacked items cells count) (g : HoldsPacked others cells count)
    (d : Differs items others) where
  some : 0 < cells
  some = (fills_some cells h.fills).0

  low : d.word.i < 64
  low = omega (arith, d.word.i_within, h.words_have d.p [] d.p_within)

  abbrev place : ℕ
  place = 64 * d.p + d.word.i

  abbrev v : ℕ
  v = place / cells

  abbrev c : ℕ
  c = place % cells

  back : v * cells + c ≡ place
  back = omega (arith, div-add-mod' place cells)

  in_cells : c < cells
  in_cells = mod_below place cells some

  in_word : c < 64
  in_word = omega (arith, in_cells, (fills_some cells h.fills).1)

  value_here : (w : List (List K3)) → value_in w 0 place ≡ get_or (word_at w d.p) d.word.i No
  value_here w =
      let at : 0 + place / 64 ≡ d.p = omega (arith, low)
      in let col : place % 64 ≡ d.word.i = omega (arith, low)
      in ap (λ q. get_or (word_at w q) (place % 64) No) at ∙ ap (λ i. get_or (word_at w d.p) i No) col

  values_before : (q : ℕ) → q < place → value_in items 0 q ≡ value_in others 0 q
  values_before q lt =
      ⊎_elim
      (λ earlier. ap (λ w. get_or w (q % 64) No) (d.before (0 + q / 64) (omega arith)))
      (λ here.
      let at : 0 + q / 64 ≡ d.p = omega (arith, low)
      in let col : q % 64 < d.word.i = omega (arith, low)
      in ap (λ x. get_or (word_at items x) (q % 64) No) at ∙ d.word.before (q % 64) col
      ∙ sym (ap (λ x. get_or (word_at others x) (q % 64) No) at))
      (cases_lt (q / 64) d.p)

  placed : place < count * cells
  placed =
      ⊎_elim (λ lt. lt)
      (λ past.
      absurd (d.word.apart
      (ap (λ k. value_cmp k (get_or (word_at others d.p) d.word.i No)) (sym (value_here items) ∙ h.unused place past (omega (arith, low, d.p_within)))
      ∙ ap (value_cmp No) (sym (value_here others) ∙ g.unused place past (omega (arith, low, d.p_within, h.as_many, g.as_many))))))
      (cases_lt place (count * cells))

  listed : v < count
  listed = div_below place cells count some placed

  seen : (w : List (List K3)) → get_or (word_at (unpacked w cells count) v) c No ≡ get_or (word_at w d.p) d.word.i No
  seen w =
      ap (λ word. get_or word c No) (word-unpacked w cells count v listed) ∙ used_value w cells v c in_word in_cells
      ∙ ap (value_in w 0) back ∙ value_here w

  same_word : (q n : ℕ) → q < count → n ≤ 64 → q * cells + n ≤ place ⊎ (cells ≤ n) × (q * cells + cells ≤ place)
      → (i : ℕ) → i < n → get_or (word_at (unpacked items cells count) q) i No ≡ get_or (word_at (unpacked others cells count) q) i No
  same_word q n lq few to i lt =
      ap (λ word. get_or word i No) (word-unpacked items cells count q lq)
      ∙ ⊎_elim
      (λ used.
      used_value items cells q i (omega arith) used
      ∙ values_before (q * cells + i) (⊎_elim (λ le. omega (arith, le, lt)) (λ both. omega (arith, both.1, used)) to)
      ∙ sym (used_value others cells q i (omega arith) used))
      (λ past. unused_value items cells q i (omega arith) past ∙ sym (unused_value others cells q i (omega arith) past))
      (cases_lt i cells)
      ∙ sym (ap (λ word. get_or word i No) (word-unpacked others cells count q lq))

  long_at : (w : List (List K3)) (q : ℕ) → q < count → length (word_at (unpacked w cells count) q) ≡ 64
  long_at w q lt = ap length (word-unpacked w cells count q lt) ∙ long-word_unpacked w cells q

  before_words : (q : ℕ) → q < v → word_at (unpacked items cells count) q ≡ word_at (unpacked others cells count) q
  before_words q lt =
      let lq : q < count = omega (arith, listed)
      in ext_get_or No (word_at (unpacked items cells count) q) (word_at (unpacked others cells count) q)
      (long_at items q lq ∙ sym (long_at others q lq))
      (λ i l.
      same_word q 64 lq (omega arith)
      (inr ((fills_some cells h.fills).1, omega (arith, row_fits q cells v cells lt (omega arith), back)))
      i (omega (arith, l, long_at items q lq)))

  told_apart : value_cmp (get_or (word_at (unpacked items cells count) v) c No) (get_or (word_at (unpacked others cells count) v) c No)
      ≡ value_cmp (get_or (word_at items d.p) d.word.i No) (get_or (word_at others d.p) d.word.i No)
  told_apart =
      ap (λ k. value_cmp k (get_or (word_at (unpacked others cells count) v) c No)) (seen items)
      ∙ ap (value_cmp (get_or (word_at items d.p) d.word.i No)) (seen others)

  decided : slice_cmp (slice_cmp value_cmp) items others
      ≡ slice_cmp (slice_cmp value_cmp) (unpacked items cells count) (unpacked others cells count)
  decided =
      let by_word : slice_cmp value_cmp (word_at items d.p) (word_at others d.p)
      ≡ value_cmp (get_or (word_at items d.p) d.word.i No) (get_or (word_at others d.p) d.word.i No)
      = first_decides value_cmp value_tied No (word_at items d.p) (word_at others d.p) d.word.i
      (h.words_have d.p [] d.p_within ∙ sym (g.words_have d.p [] (omega (arith, d.p_within, h.as_many, g.as_many))))
      d.word.i_within d.word.before d.word.apart
      in let by_cells : slice_cmp value_cmp (word_at (unpacked items cells count) v) (word_at (unpacked others cells count) v)
      ≡ value_cmp (get_or (word_at items d.p) d.word.i No) (get_or (word_at others d.p) d.word.i No)
      = first_decides value_cmp value_tied No (word_at (unpacked items cells count) v) (word_at (unpacked others cells count) v) c
      (long_at items v listed ∙ sym (long_at others v listed)) (omega (arith, in_word, long_at items v listed))
      (same_word v c listed (omega (arith, in_word)) (inl (omega (arith, back)))) (λ f. d.word.apart (sym told_apart ∙ f))
      ∙ told_apart
      in first_decides (slice_cmp value_cmp) list_tied [] items others d.p (h.as_many ∙ sym g.as_many) d.p_within d.before
      (λ f. d.word.apart (sym by_word ∙ f))
      ∙ by_word
      ∙ sym (first_decides (slice_cmp value_cmp) list_tied [] (unpacked items cells count) (unpacked others cells count) v
      (length-unpacked items cells count ∙ sym (length-unpacked others cells count)) (omega (arith, listed, length-unpacked items cells count))
      before_words (λ f. d.word.apart (sym by_cells ∙ f))
      ∙ by_cells)

pub packed_compare : (items others : List (List K3)) (cells count : ℕ) → HoldsPacked items cells count → HoldsPacked others cells count
    → slice_cmp (slice_cmp value_cmp) items others
    ≡ slice_cmp (slice_cmp value_cmp) (unpacked items cells count) (unpacked others cells count)
packed_compare items others cells count h g =
    ⊎_elim
    (λ e.
    ap (slice_cmp (slice_cmp value_cmp) items) (sym e) ∙ same_lists_tie (slice_cmp value_cmp) list_tied items
    ∙ sym (ap (λ o. slice_cmp (slice_cmp value_cmp) (unpacked items cells count) (unpacked o cells count)) (sym e)
    ∙ same_lists_tie (slice_cmp value_cmp) list_tied (unpacked items cells count)))
    (λ d. decided items others cells count h g d)
    (differ items others h.words_have g.words_have (h.as_many ∙ sym g.as_many))

-- ---- the words as they are seen

module _ (items : List (List K3)) (cells count : ℕ) (now : PackedForm)
    (view : record { cells = cells; words = unpacked items cells count } ≡ now) where
  pub seen_many : length now.words ≡ count
  seen_many = ap (λ (f : PackedForm). length f.words) (sym view) ∙ length-unpacked items cells count

  pub seen_cells : now.cells ≡ cells
  seen_cells = ap (λ (f : PackedForm). f.cells) (sym view)

  pub seen_long : AreWords now.words
  seen_long = subst (λ (f : PackedForm). AreWords f.words) view (long-unpacked items cells count)

  module _ (h : HoldsPacked items cells count) where
    pub seen_place_small : (p : ℕ) → p < length now.words → p * cells + cells ≤ 2 ^ 54
    seen_place_small p lt = place_small items cells count h p (omega (arith, lt, seen_many))

    pub seen_place_within : (p c : ℕ) → p < length now.words → c < now.cells → 0 + (p * cells + c) / 64 < length items
    seen_place_within p c lt in_cells = place_within items cells count h p c (omega (arith, lt, seen_many)) (omega (arith, in_cells, seen_cells))

    -- one value, where it stands in its item
    pub seen_value : (start column at : ℕ) (item : List K3) → start + column / 64 < length now.words → column % 64 < now.cells
        → at ≡ (start + column / 64) * now.cells + column % 64 → item ≡ word_at items (at / 64)
        → get_or item (at % 64) No ≡ value_in now.words start column
    seen_value start column at item lt room placed is =
        let first : at / 64 ≡ 0 + at / 64 = omega arith
        in ap (λ (w : List K3). get_or w (at % 64) No) is ∙ ap (λ q. get_or (word_at items q) (at % 64) No) first
        ∙ ap (value_in items 0) (placed ∙ ap (λ n. (start + column / 64) * n + column % 64) seen_cells)
        ∙ sym (value_seen items cells count h start column (omega (arith, lt, seen_many)) (omega (arith, room, seen_cells)))
        ∙ ap (λ (f : PackedForm). value_in f.words start column) view

    -- the values that are used of a word
    pub seen_front : (p : ℕ) (item front : List K3) → p < length now.words → item ≡ word_at items ((p * cells) / 64)
        → ((i : ℕ) → (p * cells) % 64 + i < 64 → get_or front i No ≡ get_or item ((p * cells) % 64 + i) No)
        → (i : ℕ) → i < now.cells → get_or front i No ≡ get_or (word_at now.words p) i No
    seen_front p item front lt is from i low =
        let in_cells : i < cells = omega (arith, low, seen_cells)
        in let lp : p < count = omega (arith, lt, seen_many)
        in let li : i < 64 = omega (arith, in_cells, (fills_some cells h.fills).1)
        in let lies : ((p * cells) % 64 + cells ≤ 64) × ((p * cells + i) / 64 ≡ (p * cells) / 64) × ((p * cells + i) % 64 ≡ (p * cells) % 64 + i)
        = lies_in p i cells h.fills in_cells
        in let at : 0 + (p * cells + i) / 64 ≡ (p * cells) / 64 = omega (arith, lies.1)
        in from i (omega (arith, lies.0, in_cells)) ∙ ap (λ (w : List K3). get_or w ((p * cells) % 64 + i) No) is
        ∙ ap (λ j. get_or (word_at items ((p * cells) / 64)) j No) (sym lies.2)
        ∙ ap (λ q. get_or (word_at items q) ((p * cells + i) % 64) No) (sym at)
        ∙ sym (used_value items cells p i li in_cells) ∙ ap (λ w. get_or w i No) (sym (word-unpacked items cells count p lp))
        ∙ ap (λ (f : PackedForm). get_or (word_at f.words p) i No) view

    -- a word that shares none is its item
    pub seen_whole : (p : ℕ) (item : List K3) → p < length now.words → now.cells ≡ 64 → item ≡ word_at items p
        → item ≡ word_at now.words p
    seen_whole p item lt room is =
        let wide : cells ≡ 64 = sym seen_cells ∙ room
        in let lp : p < count = omega (arith, lt, seen_many)
        in let many : count * cells ≡ count * 64 = ap (λ n. count * n) wide
        in let long : length (word_at items p) ≡ 64 = h.words_have p [] (omega (arith, lp, many, h.as_many))
        in is
        ∙ ext_get_or No (word_at items p) (word_unpacked items cells p) (long ∙ sym (long-word_unpacked items cells p))
        (λ i l.
        let li : i < 64 = omega (arith, l, long)
        in let start : p * cells ≡ p * 64 = ap (λ n. p * n) wide
        in let at : p ≡ 0 + (p * cells + i) / 64 = omega (arith, start, li)
        in let low : i ≡ (p * cells + i) % 64 = omega (arith, start, li)
        in ap (λ q. get_or (word_at items q) i No) at ∙ ap (λ j. get_or (word_at items (0 + (p * cells + i) / 64)) j No) low
        ∙ sym (used_value items cells p i li (omega (arith, wide, li))))
        ∙ sym (word-unpacked items cells count p lp) ∙ ap (λ (f : PackedForm). word_at f.words p) view

    pub seen_item_within : (p : ℕ) → p < length now.words → (p * cells) / 64 < length items
    seen_item_within p lt = item_within items cells count h p (omega (arith, lt, seen_many))

-- two lists as they are seen compare as their items
pub seen_compare : (items others : List (List K3)) (cells cells' count count' : ℕ) (now now' : PackedForm)
    → record { cells = cells; words = unpacked items cells count } ≡ now
    → record { cells = cells'; words = unpacked others cells' count' } ≡ now'
    → HoldsPacked items cells count → HoldsPacked others cells' count' → now.cells ≡ now'.cells
    → length now.words ≡ length now'.words
    → (length items ≡ length others)
    × (slice_cmp (slice_cmp value_cmp) items others ≡ slice_cmp (slice_cmp value_cmp) now.words now'.words)
seen_compare items others cells cells' count count' now now' view view' h g same many =
    let ec : cells' ≡ cells = sym (seen_cells others cells' count' now' view') ∙ sym same ∙ seen_cells items cells count now view
    in let en : count' ≡ count = sym (seen_many others cells' count' now' view') ∙ sym many ∙ seen_many items cells count now view
    in let k : HoldsPacked others cells count = subst (HoldsPacked others cells) en (subst (λ n. HoldsPacked others n count') ec g)
    in (
      h.as_many ∙ sym k.as_many,
      packed_compare items others cells count h k
          ∙ ap (λ (f : PackedForm). slice_cmp (slice_cmp value_cmp) f.words (unpacked others cells count)) view
          ∙ ap (λ n. slice_cmp (slice_cmp value_cmp) now.words (unpacked others cells n)) (sym en)
          ∙ ap (λ n. slice_cmp (slice_cmp value_cmp) now.words (unpacked others n count')) (sym ec)
          ∙ ap (λ (f : PackedForm). slice_cmp (slice_cmp value_cmp) now.words f.words) view',
    )

-- the room that is chosen fills a word
pub cells_fill : (columns : ℕ) → FillsWord (cells_for columns)
cells_fill columns =
    at (nat_le columns 1) (nat_le columns 2) (nat_le columns 4) (nat_le columns 8) (nat_le columns 16) (nat_le columns 32)
  where
    at : (a b c d e f : Bool)
        → FillsWord (if a then 1 else if b then 2 else if c then 4 else if d then 8 else if e then 16 else if f then 32 else 64)
    at true b c d e f = inl refl
    at false true c d e f = inr (inl refl)
    at false false true d e f = inr (inr (inl refl))
    at false false false true e f = inr (inr (inr (inl refl)))
    at false false false false true f = inr (inr (inr (inr (inl refl))))
    at false false false false false true = inr (inr (inr (inr (inr (inl refl)))))
    at false false false false false false = inr (inr (inr (inr (inr (inr refl)))))

-- and a row of so many values, or of one, has that room
abbrev pub IsEnough : (columns cells : ℕ) → Type 0
IsEnough columns cells = (cells ≡ 64) ⊎ ((1 ≤ cells) × (columns ≤ cells))

pub cells_enough : (columns : ℕ) → IsEnough columns (cells_for columns)
cells_enough columns =
    at (nat_le columns 1) (nat_le columns 2) (nat_le columns 4) (nat_le columns 8) (nat_le columns 16) (nat_le columns 32) refl refl refl
    refl refl refl
  where
    at : (a b c d e f : Bool) → nat_le columns 1 ≡ a → nat_le columns 2 ≡ b → nat_le columns 4 ≡ c → nat_le columns 8 ≡ d
        → nat_le columns 16 ≡ e → nat_le columns 32 ≡ f
        → IsEnough columns
        (if a then 1 else if b then 2 else if c then 4 else if d then 8 else if e then 16 else if f then 32 else 64)
    at true b c d e f ea eb ec ed ee ef = inr (omega arith, leb-true columns 1 ea)
    at false true c d e f ea eb ec ed ee ef = inr (omega arith, leb-true columns 2 eb)
    at false false true d e f ea eb ec ed ee ef = inr (omega arith, leb-true columns 4 ec)
    at false false false true e f ea eb ec ed ee ef = inr (omega arith, leb-true columns 8 ed)
    at false false false false true f ea eb ec ed ee ef = inr (omega arith, leb-true columns 16 ee)
    at false false false false false true ea eb ec ed ee ef = inr (omega arith, leb-true columns 32 ef)
    at false false false false false false ea eb ec ed ee ef = inl refl

-- the items in which one value is put, where it stands there
pub placed_put : (items : List (List K3)) (spot at : ℕ) (item made : List K3) (k : K3) → at ≡ spot
    → item ≡ word_at items (at / 64) → made ≡ set item (at % 64) k
    → with_value items 0 spot k ≡ set items (at / 64) made
placed_put items spot at item made k e is put =
    let place : 0 + spot / 64 ≡ at / 64 = omega (arith, e)
    in let low : spot % 64 ≡ at % 64 = omega (arith, e)
    in ap (λ q. set items q (set (word_at items q) (spot % 64) k)) place
    ∙ ap (λ m. set items (at / 64) (set (word_at items (at / 64)) m k)) low
    ∙ ap (λ w. set items (at / 64) (set w (at % 64) k)) (sym is) ∙ ap (set items (at / 64)) (sym put)

pub no_item : padded 0 (replicate 64 No) ≡ replicate 64 No
unfolding padded
no_item = refl

-- ---- rows of one word

pub alone_value : (word : List K3) (size u : ℕ) → size ≤ 64 → u < size → get_or (row_of (word ∷ []) size 0) u No ≡ get_or word u No
alone_value word size u small lt =
    let at : 0 + u / 64 ≡ 0 = omega arith
    in let low : u % 64 ≡ u = omega arith
    in get_or-row_of (word ∷ []) size 0 u lt ∙ ap (λ p. get_or (word_at (word ∷ []) p) (u % 64) No) at ∙ ap (λ i. get_or word i No) low

pub alone_row : (words : List (List K3)) (word : List K3) (size start : ℕ) → size ≤ 64 → word ≡ word_at words start
    → row_of (word ∷ []) size 0 ≡ row_of words size start
alone_row words word size start small is =
    ext_get_or No (row_of (word ∷ []) size 0) (row_of words size start)
    (length-row_of (word ∷ []) size 0 ∙ sym (length-row_of words size start))
    (λ c l.
    let lc : c < size = omega (arith, l, length-row_of (word ∷ []) size 0)
    in let at : 0 + c / 64 ≡ 0 = omega arith
    in let there : start ≡ start + c / 64 = omega arith
    in get_or-row_of (word ∷ []) size 0 c lc ∙ ap (λ p. get_or (word_at (word ∷ []) p) (c % 64) No) at
    ∙ ap (λ w. get_or w (c % 64) No) is ∙ ap (λ p. get_or (word_at words p) (c % 64) No) there
    ∙ sym (get_or-row_of words size start c lc))
