-- The variables that a step picks: they keep their names and numbers, and the other numbers are vacant.
use Rattle.std.proofs.Common.{◌≡◌, ℕ, zero, suc, ◌+◌, ◌<◌, Bool, true, false, not, cond, ◌||◌, ◌&&◌, ◌==◌}
use Rattle.std.proofs.Common.{get_or, set, List, [], ◌∷◌, length, refl, ap, sym, subst, ◌∙◌, arith, Ok}
use Rattle.std.proofs.Common.{Option, Some, None}
use Rattle.std.specs.Prelude.{is_some}
use Rattle.std.specs.List.{list_any, repeat}
use Rattle.std.proofs.lemmas.Bool.{eq-eqb, eqb-true, true≢false, false≢true}
use Rattle.std.proofs.lemmas.List.{length-set, get_or-set_same, get_or-set_other}
use Rattle.std.proofs.lemmas.List.Folds.{list_any_at}
use Rattle.std.proofs.lemmas.List.Quantifiers.{position-Some}
use Rattle.std.proofs.lemmas.Slice.Eq.{bytes_eq-Decides}
use Rattle.tv_vocab.proofs.valid.Numbers.{named_full, named_same}
use Rattle.tv_tree.specs.Forms as tree
use Rattle.tv_tree.specs.Names.{is_among}
use Rattle.tv_model.specs.Form.{Form}
use Rattle.tv_model.specs.Valid.{without, free_occurrences, first_occurrences}
use Rattle.tv_names.specs.Symbols.{SymbolForm}
use Rattle.tv_names.specs.Naming.{SlotForm, Vacant, Nameless, Named, NamingForm, is_vacant, is_named}
use Rattle.tv_names.specs.Naming.{number_of, no_names, kept_slot, kept_from}
use Rattle.tv_names.specs.Numbers.{Sight, OfName, OfPair, is_numbered, vacant_count}
use Rattle.tv_names.specs.Picks.{picks_in, flagged, flags_of, is_one_of}
use Rattle.tv_names.specs.Resolving.{PlaceForm, is_known_at, resolved}
use Rattle.tv_names.proofs.SlotFills.{none_passes}
use Rattle.tv_names.proofs.Sightings.{some_passes}
use Rattle.tv_vocab.specs.Vocabulary.{anywhere}
use Rattle.tv_vocab.specs.Actions.{PickingForm, picking, precondition}
use Rattle.tv_vocab.specs.Variables.{is_known, picked_names, free_names}
use Rattle.tv_vocab.proofs.valid.Refusals.{ok_is, went}
use Rattle.tv_vocab.proofs.valid.Flags.{no_flag}
use Rattle.tv_vocab.proofs.valid.Picked.{kept_length, kept_at}
use Rattle.tv_vocab.proofs.items.Numbered.{vacant_unnamed, Knows}
use Rattle.tv_vocab.proofs.items.Frees.{Frees, later_itself, not_one_of}
use Rattle.tv_vocab.proofs.items.Resolved.{formula_free}

-- ---- an item that begins with some numbers given

-- so many numbers are given, and these names have theirs
pub record Begins (used : ℕ) (names : List (List ℕ)) (s : NamingForm) : Type 0 where
  pub vacant : vacant_count s.slots + used ≡ 32
  pub known : (y : Sight) → is_numbered s y ≡ is_known names y

no_number : (n : ℕ) (name : List ℕ) → list_any (is_named name) (repeat n (Vacant ∷ [])) ≡ false
no_number zero name = refl
no_number (suc n) name = no_number n name

pub nothing_begins : Begins 0 [] no_names
nothing_begins = record { vacant = refl; known = known }
  where
    known : (y : Sight) → is_numbered no_names y ≡ is_known [] y
    known (OfName name) = no_number 32 name
    known OfPair = refl

-- a name has a number exactly where a slot has it
pub number_there : (name : List ℕ) (slots : List SlotForm)
    → is_some (number_of name slots) ≡ list_any (is_named name) slots
number_there name slots = by (number_of name slots) refl
  where
    by : (o : Option ℕ) → number_of name slots ≡ o → is_some o ≡ list_any (is_named name) slots
    by None e = sym (none_passes (is_named name) slots e)
    by (Some n) e = sym (some_passes name slots n e)

nothing_known : Knows (flags_of []) (λ y. false) no_names
nothing_known = record {
  named = λ y. none (number_of y no_names.slots) (number_there y no_names.slots ∙ no_number 32 y);
  vacant = λ n e. no_flag 32 n;
  size = refl;
}
  where
    none : (o : Option ℕ) → is_some o ≡ false → is_known_at (flags_of []) o ≡ false
    none None h = refl
    none (Some n) h = absurd (true≢false h)

-- ---- different variables

abbrev AreDifferent : List ℕ → Type 0
AreDifferent [] = Unit {0}
AreDifferent (v ∷ vs) = (is_one_of vs v ≡ false) × AreDifferent vs

less_one_of : (v n : ℕ) (vs : List ℕ) → is_one_of vs n ≡ false → is_one_of (without v vs) n ≡ false
less_one_of v n vs h = not_one_of v n vs ∙ ap (λ (p : Bool). not (v == n) && p) h ∙ by (not (v == n))
  where
    by : (b : Bool) → (b && false) ≡ false
    by true = refl
    by false = refl

less_different : (v : ℕ) (vs : List ℕ) → AreDifferent vs → AreDifferent (without v vs)
less_different v [] d = tt
less_different v (w ∷ vs) d = by (w == v) (less_one_of v w vs d.0) (less_different v vs d.1)
  where
    by : (b : Bool) → is_one_of (without v vs) w ≡ false → AreDifferent (without v vs)
        → AreDifferent (cond (not b) (w ∷ without v vs) (without v vs))
    by true p q = q
    by false p q = (p, q)

first_different : (vs : List ℕ) → AreDifferent (first_occurrences vs)
first_different [] = tt
first_different (v ∷ vs) = (gone, less_different v (first_occurrences vs) (first_different vs))
  where
    gone : is_one_of (without v (first_occurrences vs)) v ≡ false
    gone = not_one_of v v (first_occurrences vs) ∙ rw (eq-eqb v v refl) refl

first_one_of : (n : ℕ) (vs : List ℕ) → is_one_of (first_occurrences vs) n ≡ is_one_of vs n
first_one_of n [] = refl
first_one_of n (v ∷ vs) = rw (not_one_of v n (first_occurrences vs), first_one_of n vs)
    (by (v == n) (is_one_of vs n))
  where
    by : (p q : Bool) → (p || (not p && q)) ≡ (p || q)
    by true q = refl
    by false q = refl

-- ---- flags

flag_is : (vs : List ℕ) (flags : List Bool) (n : ℕ) → n < length flags
    → get_or (flagged flags vs) n false ≡ (get_or flags n false || is_one_of vs n)
flag_is [] flags n lt = or_false (get_or flags n false)
  where
    or_false : (b : Bool) → b ≡ (b || false)
    or_false true = refl
    or_false false = refl
flag_is (v ∷ vs) flags n lt =
    flag_is vs (set flags v true) n (omega (arith, length-set flags v true))
    ∙ ap (λ (p : Bool). p || is_one_of vs n) (here (v == n) refl)
    ∙ or_assoc (get_or flags n false) (v == n) (is_one_of vs n)
  where
    or_assoc : (a b c : Bool) → ((a || b) || c) ≡ (a || (b || c))
    or_assoc true b c = refl
    or_assoc false b c = refl

    here : (b : Bool) → (v == n) ≡ b → get_or (set flags v true) n false ≡ (get_or flags n false || b)
    here true e =
        let same : v ≡ n = eqb-true v n e in
        ap (λ (m : ℕ). get_or (set flags m true) n false) same ∙ get_or-set_same flags n true false lt
        ∙ or_true (get_or flags n false)
      where
        or_true : (b : Bool) → true ≡ (b || true)
        or_true true = refl
        or_true false = refl
    here false e = get_or-set_other flags v n true false
        (λ same. true≢false (sym (eq-eqb v n (sym same)) ∙ e)) ∙ or_false (get_or flags n false)
      where
        or_false : (b : Bool) → b ≡ (b || false)
        or_false true = refl
        or_false false = refl

picked_flag : (vs : List ℕ) (n : ℕ) → n < 32 → get_or (flags_of vs) n false ≡ is_one_of vs n
picked_flag vs n lt = flag_is vs (repeat 32 (false ∷ [])) n lt
    ∙ ap (λ (p : Bool). p || is_one_of vs n) (no_flag 32 n)

true_within : (bs : List Bool) (n : ℕ) → get_or bs n false ≡ true → n < length bs
true_within [] n h = absurd (false≢true h)
true_within (b ∷ bs) zero h = omega arith
true_within (b ∷ bs) (suc n) h = let rest = true_within bs n h in omega arith

-- ---- how many numbers are kept

kept_gone : (k i : ℕ) (flags : List Bool) (slots : List SlotForm) → get_or flags (k + i) false ≡ false
    → is_vacant (get_or (kept_from k flags slots) i Vacant) ≡ true
kept_gone k i flags [] h = refl
kept_gone k zero flags (slot ∷ slots) h =
    let here : k + 0 ≡ k = omega arith in
    let off : get_or flags k false ≡ false = ap (λ (n : ℕ). get_or flags n false) (sym here) ∙ h in
    ap (λ (b : Bool). is_vacant (kept_slot b slot)) off
kept_gone k (suc i) flags (slot ∷ slots) h =
    let next : (k + 1) + i ≡ k + suc i = omega arith in
    kept_gone (k + 1) i flags slots (ap (λ (n : ℕ). get_or flags n false) next ∙ h)

kept_other : (k v : ℕ) (flags : List Bool) (slots : List SlotForm) → v < k
    → kept_from k (set flags v true) slots ≡ kept_from k flags slots
kept_other k v flags [] lt = refl
kept_other k v flags (slot ∷ slots) lt =
    let apart : k ≡ v → ⊥ = λ same. omega (arith, same, lt) in
    rw (get_or-set_other flags v k true false apart, kept_other (k + 1) v flags slots (omega arith)) refl

vacant_cons : (slot : SlotForm) (slots more : List SlotForm) → vacant_count slots + 1 ≡ vacant_count more
    → vacant_count (slot ∷ slots) + 1 ≡ vacant_count (slot ∷ more)
vacant_cons Vacant slots more h = omega arith
vacant_cons Nameless slots more h = h
vacant_cons (Named name) slots more h = h

-- one more number is kept
kept_one : (k i : ℕ) (flags : List Bool) (slots : List SlotForm) → i < length slots → k + i < length flags
    → get_or flags (k + i) false ≡ false → is_vacant (get_or slots i Vacant) ≡ false
    → vacant_count (kept_from k (set flags (k + i) true) slots) + 1 ≡ vacant_count (kept_from k flags slots)
kept_one k i flags [] low within off full = absurd (omega arith)
kept_one k zero flags (slot ∷ slots) low within off full =
    let here : k + 0 ≡ k = omega arith in
    let flag : get_or (set flags (k + 0) true) k false ≡ true =
    ap (λ (n : ℕ). get_or (set flags n true) k false) here
    ∙ get_or-set_same flags k true false (omega (arith, here, within)) in
    let no_flag : get_or flags k false ≡ false = ap (λ (n : ℕ). get_or flags n false) (sym here) ∙ off in
    rw (flag, no_flag, kept_other (k + 1) (k + 0) flags slots (omega arith)) (by slot full)
  where
    by : (s : SlotForm) → is_vacant s ≡ false → vacant_count (s ∷ kept_from (k + 1) flags slots) + 1 ≡ 1
        + vacant_count (kept_from (k + 1) flags slots)
    by Vacant h = absurd (true≢false h)
    by Nameless h = omega arith
    by (Named name) h = omega arith
kept_one k (suc i) flags (slot ∷ slots) low within off full =
    let next : k + suc i ≡ (k + 1) + i = omega arith in
    let apart : k ≡ k + suc i → ⊥ = λ same. omega (arith, same) in
    let rest = kept_one (k + 1) i flags slots (omega arith) (omega arith)
    (ap (λ (n : ℕ). get_or flags n false) (sym next) ∙ off) full in
    rw (get_or-set_other flags (k + suc i) k true false apart)
    (vacant_cons (kept_slot (get_or flags k false) slot)
    (kept_from (k + 1) (set flags (k + suc i) true) slots) (kept_from (k + 1) flags slots)
    (ap (λ (n : ℕ). vacant_count (kept_from (k + 1) (set flags n true) slots) + 1) next ∙ rest))

-- these numbers are kept
kept_all : (vs : List ℕ) (flags : List Bool) (slots : List SlotForm) → AreDifferent vs
    → length slots ≡ length flags
    → ((n : ℕ) → is_one_of vs n ≡ true → (n < length slots) × (get_or flags n false ≡ false)
    × (is_vacant (get_or slots n Vacant) ≡ false))
    → vacant_count (kept_from 0 (flagged flags vs) slots) + length vs ≡ vacant_count (kept_from 0 flags slots)
kept_all [] flags slots different size each = omega arith
kept_all (v ∷ vs) flags slots different size each =
    let here = each v (rw (eq-eqb v v refl) refl) in
    let at : 0 + v ≡ v = omega arith in
    let one = kept_one 0 v flags slots here.0 (omega (arith, here.0, size))
    (ap (λ (n : ℕ). get_or flags n false) at ∙ here.1) here.2 in
    let moved : vacant_count (kept_from 0 (set flags v true) slots) + 1
    ≡ vacant_count (kept_from 0 flags slots) =
    ap (λ (n : ℕ). vacant_count (kept_from 0 (set flags n true) slots) + 1) (sym at) ∙ one in
    let rest = kept_all vs (set flags v true) slots different.1 (size ∙ sym (length-set flags v true))
    later in
    omega (arith, moved, rest)
  where
    later : (n : ℕ) → is_one_of vs n ≡ true → (n < length slots) × (get_or (set flags v true) n false ≡ false)
        × (is_vacant (get_or slots n Vacant) ≡ false)
    later n h =
        let given = each n (ap (λ (p : Bool). (v == n) || p) h ∙ or_true (v == n)) in
        let apart : n ≡ v → ⊥ = λ same. true≢false (sym h ∙ ap (is_one_of vs) same ∙ different.0) in
        (given.0, get_or-set_other flags v n true false apart ∙ given.1, given.2)
      where
        or_true : (b : Bool) → (b || true) ≡ true
        or_true true = refl
        or_true false = refl

none_kept : (k n : ℕ) (slots : List SlotForm) → vacant_count (kept_from k (repeat n (false ∷ [])) slots)
    ≡ length slots
none_kept k n [] = refl
none_kept k n (slot ∷ slots) = let rest = none_kept (k + 1) n slots in rw (no_flag n k) (omega (arith, rest))

-- ---- what a step picks

-- what a retain formula and updates begin with
pub record IsBegun (names : List (List ℕ)) (x : PickingForm) : Type 0 where
  pub begins : Begins (length x.picks) names x.picked
  pub knows : Knows (flags_of x.picks) (is_among names) x.picked
  pub further : x.picked.further ≡ None

module _ (names : List (List ℕ)) (x : Form × NamingForm) (at : PlaceForm)
    (free : Frees at (λ y. false) no_names x.1 names (free_occurrences x.0)) (sized : length x.1.slots ≡ 32) where
  abbrev picks : List ℕ
  picks = picks_in x.0

  abbrev kept : List SlotForm
  kept = kept_from 0 (flags_of picks) x.1.slots

  picked_is : (n : ℕ) → is_one_of picks n ≡ is_one_of (free_occurrences x.0) n
  picked_is n = first_one_of n (free_occurrences x.0)

  -- a picked number is that of a name
  name_of : (n : ℕ) → is_one_of picks n ≡ true → (y : List ℕ) × (number_of y x.1.slots ≡ Some n)
  name_of n h = free.named n (sym (picked_is n) ∙ h)

  below : (n : ℕ) → is_one_of picks n ≡ true → n < 32
  below n h =
      let found = name_of n h in
      let place = position-Some (is_named found.0) x.1.slots n Vacant found.1 in
      omega (arith, place.0, sized)

  full : (n : ℕ) → is_one_of picks n ≡ true → is_vacant (get_or x.1.slots n Vacant) ≡ false
  full n h =
      let found = name_of n h in
      let place = position-Some (is_named found.0) x.1.slots n Vacant found.1 in
      named_full found.0 (get_or x.1.slots n Vacant) place.1

  kept_slots : (n : ℕ) → is_one_of picks n ≡ true → get_or kept n Vacant ≡ get_or x.1.slots n Vacant
  kept_slots n h =
      let e : 0 + n ≡ n = omega arith in
      kept_at 0 n (flags_of picks) x.1.slots (ap (λ (m : ℕ). get_or (flags_of picks) m false) e
      ∙ picked_flag picks n (below n h) ∙ h)

  -- what has a name among the kept numbers is picked
  named_picked : (y : List ℕ) (n : ℕ) → number_of y kept ≡ Some n → (is_one_of picks n ≡ true)
      × (is_among names y ≡ true)
  named_picked y n e = by (is_one_of picks n) refl
    where
      place : (n < length kept) × (is_named y (get_or kept n Vacant) ≡ true)
          × ((k : ℕ) → k < n → is_named y (get_or kept k Vacant) ≡ false)
      place = position-Some (is_named y) kept n Vacant e

      lt : n < 32
      lt =
          let long = kept_length 0 (flags_of picks) x.1.slots in
          let at = place.0 in
          omega (arith, long, at, sized)

      by : (b : Bool) → is_one_of picks n ≡ b → (is_one_of picks n ≡ true) × (is_among names y ≡ true)
      by true h =
          let found = name_of n h in
          let there = position-Some (is_named found.0) x.1.slots n Vacant found.1 in
          let same : y ≡ found.0 = (bytes_eq-Decides y found.0).0
          (named_same y found.0 (get_or x.1.slots n Vacant)
          (ap (is_named y) (sym (kept_slots n h)) ∙ place.1) there.1) in (
            h,
            sym (free.same x.1 (later_itself x.1) y n
                (ap (λ (z : List ℕ). number_of z x.1.slots) same ∙ found.1)) ∙ sym (picked_is n) ∙ h,
          )
      by false h =
          let e : 0 + n ≡ n = omega arith in
          let gone = kept_gone 0 n (flags_of picks) x.1.slots
          (ap (λ (m : ℕ). get_or (flags_of picks) m false) e ∙ picked_flag picks n lt ∙ h) in
          absurd (true≢false (sym place.1 ∙ vacant_unnamed y (get_or kept n Vacant) gone))

  -- a name that stands free keeps its number
  free_kept : (y : List ℕ) → is_among names y ≡ true → list_any (is_named y) kept ≡ true
  free_kept y h = by (number_of y x.1.slots) refl (free.numbered y h)
    where
      by : (o : Option ℕ) → number_of y x.1.slots ≡ o → is_some o ≡ true → list_any (is_named y) kept ≡ true
      by None e k = absurd (false≢true k)
      by (Some n) e k =
          let picked : is_one_of picks n ≡ true = picked_is n ∙ free.same x.1 (later_itself x.1) y n e ∙ h in
          let place = position-Some (is_named y) x.1.slots n Vacant e in
          let long = kept_length 0 (flags_of picks) x.1.slots in
          let within : n < length kept = let below = place.0 in omega (arith, long, below) in
          list_any_at (is_named y) kept n Vacant within (ap (is_named y) (kept_slots n picked) ∙ place.1)

  name_there : (y : List ℕ) → is_some (number_of y kept) ≡ is_among names y
  name_there y = by (number_of y kept) (is_among names y) refl refl
    where
      by : (o : Option ℕ) (b : Bool) → number_of y kept ≡ o → is_among names y ≡ b → is_some o ≡ b
      by (Some n) true e h = refl
      by None false e h = refl
      by (Some n) false e h = sym (named_picked y n e).1 ∙ h
      by None true e h = sym (none_passes (is_named y) kept e) ∙ free_kept y h

  counted : vacant_count kept + length picks ≡ 32
  counted =
      kept_all picks (repeat 32 (false ∷ [])) x.1.slots (first_different (free_occurrences x.0)) sized
      (λ n h. (omega (arith, below n h, sized), no_flag 32 n, full n h))
      ∙ none_kept 0 32 x.1.slots ∙ sized

  pub picking_begun : IsBegun names (picking x.0 x.1)
  picking_begun = record {
    begins = record { vacant = counted; known = known };
    knows = record {
      named = λ y. flags y (number_of y kept) refl;
      vacant = λ n e. unflagged n (get_or (flags_of picks) n false) refl e;
      size = kept_length 0 (flags_of picks) x.1.slots ∙ sized
          ∙ sym (flags_long picks (repeat 32 (false ∷ [])));
    };
    further = refl;
  }
    where
      known : (y : Sight) → is_numbered (picking x.0 x.1).picked y ≡ is_known names y
      known (OfName y) = sym (number_there y kept) ∙ name_there y
      known OfPair = refl

      flags_long : (vs : List ℕ) (bs : List Bool) → length (flagged bs vs) ≡ length bs
      flags_long [] bs = refl
      flags_long (v ∷ vs) bs = flags_long vs (set bs v true) ∙ length-set bs v true

      flags : (y : List ℕ) (o : Option ℕ) → number_of y kept ≡ o
          → is_known_at (flags_of picks) o ≡ is_among names y
      flags y None e = ap is_some (sym e) ∙ name_there y
      flags y (Some n) e = let found = named_picked y n e in picked_flag picks n (below n found.0) ∙ found.0
          ∙ sym found.1

      unflagged : (n : ℕ) (b : Bool) → get_or (flags_of picks) n false ≡ b
          → is_vacant (get_or kept n Vacant) ≡ true → b ≡ false
      unflagged n false e h = refl
      unflagged n true e h =
          let lt : n < 32 = flag_below n e in
          let picked : is_one_of picks n ≡ true = sym (picked_flag picks n lt) ∙ e in
          absurd (true≢false (sym h ∙ ap is_vacant (kept_slots n picked) ∙ full n picked))
        where
          flag_below : (m : ℕ) → get_or (flags_of picks) m false ≡ true → m < 32
          flag_below m k =
              let within = true_within (flags_of picks) m k in
              let long = flags_long picks (repeat 32 (false ∷ [])) in
              omega (arith, within, long)

pub precondition_begun : (symbols : List SymbolForm) (pre : Option tree.Form) (x : PickingForm)
    → precondition symbols pre ≡ Ok x → IsBegun (picked_names pre) x
precondition_begun symbols None x h =
    subst (IsBegun []) (ok_is (record { pre = None; picks = []; picked = no_names }) x h)
    (record {
      begins = nothing_begins;
      knows = record {
        named = nothing_known.named;
        vacant = nothing_known.vacant;
        size = nothing_known.size;
      };
      further = refl;
    })
precondition_begun symbols (Some f) x h =
    let a = went (resolved (anywhere symbols) f no_names) (λ y. Ok (picking y.0 y.1)) x h in
    let free = formula_free f (anywhere symbols) (λ y. false) no_names a.x nothing_known a.gave in
    subst (IsBegun (free_names f)) (ok_is (picking a.x.0 a.x.1) x a.rest)
    (picking_begun (free_names f) a.x (anywhere symbols) free free.knows.size)
