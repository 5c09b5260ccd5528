-- Which names have which numbers, as numbers are given.
use Rattle.std.proofs.Common.{◌≡◌, ℕ, zero, suc, ◌<◌, Bool, true, false, ◌||◌, get_or, set, List, [], ◌∷◌}
use Rattle.std.proofs.Common.{length, refl, ap, sym, subst, ◌∙◌, arith, inl, inr, ◌⊎◌, Ok, Option, Some, None}
use Rattle.std.specs.List.{position, position_or_len, list_any}
use Rattle.std.specs.Str.{bytes_eq}
use Rattle.std.proofs.lemmas.Bool.{cases_Bool, or_parts, lt-ltb, true≢false, false≢true}
use Rattle.std.proofs.lemmas.List.{length-set, get_or-set_same, get_or-set_other}
use Rattle.std.proofs.lemmas.List.Folds.{position_or_len-set}
use Rattle.std.proofs.lemmas.List.Quantifiers.{position-Some}
use Rattle.std.proofs.lemmas.Slice.Eq.{bytes_eq-Decides}
use Rattle.tv_names.specs.declared.refusal.ResolveError.TheVariants.{TooManyVariables}
use Rattle.tv_names.specs.Naming.{SlotForm, Vacant, Nameless, Named, NamingForm, is_vacant, is_named}
use Rattle.tv_names.specs.Naming.{number_of, filled_at, filled, sighted_at, sighted, two_more, own_at}
use Rattle.tv_names.specs.Naming.{own_pair}
use Rattle.tv_names.specs.Refusal.{◌>>=◌}
use Rattle.tv_names.specs.Resolving.{is_known_at}
use Rattle.tv_names.proofs.SlotFills.{none_passes}
use Rattle.tv_vocab.proofs.valid.Refusals.{ok_is, not_given, went}
use Rattle.tv_vocab.proofs.valid.Numbers.{named_same}

-- ---- numbers of names

-- a number is that of one name
pub same_name : (slots : List SlotForm) (y z : List ℕ) (n : ℕ) → number_of y slots ≡ Some n
    → number_of z slots ≡ Some n
    → y ≡ z
same_name slots y z n a b =
    let p = position-Some (is_named y) slots n Vacant a in
    let q = position-Some (is_named z) slots n Vacant b in
    (bytes_eq-Decides y z).0 (named_same y z (get_or slots n Vacant) p.1 q.1)

pub vacant_unnamed : (y : List ℕ) (slot : SlotForm) → is_vacant slot ≡ true → is_named y slot ≡ false
vacant_unnamed y Vacant h = refl
vacant_unnamed y Nameless h = refl
vacant_unnamed y (Named word) h = absurd (false≢true h)

-- a number that stood for nothing is given to another name, or to a variable without one
other_number : (slots : List SlotForm) (n : ℕ) (slot : SlotForm) (y : List ℕ)
    → is_vacant (get_or slots n Vacant) ≡ true → is_named y slot ≡ false
    → number_of y (set slots n slot) ≡ number_of y slots
other_number slots n slot y vacant other =
    let place = position_or_len-set (is_named y) slots n slot Vacant
    (other ∙ sym (vacant_unnamed y (get_or slots n Vacant) vacant)) in
    rw (place, length-set slots n slot) refl

first_place : (p : SlotForm → Bool) (slots : List SlotForm) (n : ℕ) (slot : SlotForm) → n < length slots
    → list_any p slots ≡ false → p slot ≡ true → position_or_len p (set slots n slot) ≡ n
first_place p [] n slot lt none here = absurd (omega arith)
first_place p (x ∷ slots) zero slot lt none here = rw here refl
first_place p (x ∷ slots) (suc n) slot lt none here =
    let parts = or_parts (p x) (list_any p slots) none in
    rw (parts.0, first_place p slots n slot (omega arith) parts.1 here) (omega arith)

-- and to this name
own_number : (slots : List SlotForm) (n : ℕ) (name : List ℕ) → n < length slots → number_of name slots ≡ None
    → number_of name (set slots n (Named name)) ≡ Some n
own_number slots n name lt new =
    let place = first_place (is_named name) slots n (Named name) lt (none_passes (is_named name) slots new)
    ((bytes_eq-Decides name name).1 refl) in
    rw (place, length-set slots n (Named name), lt-ltb n (length slots) lt) refl

still_vacant : (slots : List SlotForm) (n m : ℕ) (slot : SlotForm) → is_vacant slot ≡ false
    → is_vacant (get_or (set slots n slot) m Vacant) ≡ true → is_vacant (get_or slots m Vacant) ≡ true
still_vacant [] n m slot full h = h
still_vacant (x ∷ slots) zero zero slot full h = absurd (true≢false (sym h ∙ full))
still_vacant (x ∷ slots) zero (suc m) slot full h = h
still_vacant (x ∷ slots) (suc n) zero slot full h = h
still_vacant (x ∷ slots) (suc n) (suc m) slot full h = still_vacant slots n m slot full h

-- ---- what a step does to the numbers of names

-- names keep their numbers
abbrev pub Later : NamingForm → NamingForm → Type 0
Later s t = (y : List ℕ) (n : ℕ) → number_of y s.slots ≡ Some n → number_of y t.slots ≡ Some n

-- no name gets a number
pub record IsQuiet (s t : NamingForm) : Type 0 where
  pub same : (y : List ℕ) → number_of y t.slots ≡ number_of y s.slots
  pub vacant : (n : ℕ) → is_vacant (get_or t.slots n Vacant) ≡ true
      → is_vacant (get_or s.slots n Vacant) ≡ true
  pub further : t.further ≡ s.further
  pub size : length t.slots ≡ length s.slots

-- this name has a number in the end, and no other name gets one
pub record IsSeen (name : List ℕ) (s : NamingForm) (x : ℕ × NamingForm) : Type 0 where
  pub number : number_of name x.1.slots ≡ Some x.0
  pub before : (number_of name s.slots ≡ Some x.0)
      ⊎ ((number_of name s.slots ≡ None) × (is_vacant (get_or s.slots x.0 Vacant) ≡ true))
  pub same : (y : List ℕ) → bytes_eq y name ≡ false → number_of y x.1.slots ≡ number_of y s.slots
  pub vacant : (n : ℕ) → is_vacant (get_or x.1.slots n Vacant) ≡ true
      → is_vacant (get_or s.slots n Vacant) ≡ true
  pub further : x.1.further ≡ s.further
  pub size : length x.1.slots ≡ length s.slots

quiet_fill : (o : Option ℕ) (s : NamingForm) (x : ℕ × NamingForm) → position is_vacant s.slots ≡ o
    → filled_at o Nameless s ≡ Ok x → IsQuiet s x.1
quiet_fill None s x at h = absurd (not_given TooManyVariables x h)
quiet_fill (Some n) s x at h =
    let found = position-Some is_vacant s.slots n Vacant at in
    subst (λ (y : ℕ × NamingForm). IsQuiet s y.1) (ok_is (n, record s { slots = set s.slots n Nameless }) x h)
    (record {
      same = λ y. other_number s.slots n Nameless y found.1 refl;
      vacant = λ m e. still_vacant s.slots n m Nameless refl e;
      further = refl;
      size = length-set s.slots n Nameless;
    })

pub filled_quiet : (s : NamingForm) (x : ℕ × NamingForm) → filled Nameless s ≡ Ok x → IsQuiet s x.1
unfolding filled
filled_quiet s x h = quiet_fill (position is_vacant s.slots) s x refl h

quiet_then : (s t u : NamingForm) → IsQuiet s t → IsQuiet t u → IsQuiet s u
quiet_then s t u a b = record {
  same = λ y. b.same y ∙ a.same y;
  vacant = λ n e. a.vacant n (b.vacant n e);
  further = b.further ∙ a.further;
  size = b.size ∙ a.size;
}

pair_by : (o : Option (ℕ × ℕ)) (s : NamingForm) (x : (ℕ × ℕ) × NamingForm) → own_at o s ≡ Ok x → IsQuiet s x.1
unfolding two_more
pair_by (Some pair) s x h =
    subst (λ (y : (ℕ × ℕ) × NamingForm). IsQuiet s y.1) (ok_is (pair, s) x h)
    (record { same = λ y. refl; vacant = λ n e. e; further = refl; size = refl })
pair_by None s x h =
    let own : ℕ × NamingForm → ℕ × NamingForm → (ℕ × ℕ) × NamingForm =
    λ left right. ((left.0, right.0), record right.1 { own = Some (left.0, right.0) }) in
    let a = went (filled Nameless s) (λ left. filled Nameless left.1 >>= λ right. Ok (own left right)) x h in
    let b = went (filled Nameless a.x.1) (λ right. Ok (own a.x right)) x a.rest in
    let both = quiet_then s a.x.1 b.x.1 (filled_quiet s a.x a.gave) (filled_quiet a.x.1 b.x b.gave) in
    subst (λ (y : (ℕ × ℕ) × NamingForm). IsQuiet s y.1) (ok_is (own a.x b.x) x b.rest)
    (record { same = both.same; vacant = both.vacant; further = both.further; size = both.size })

pub pair_quiet : (s : NamingForm) (x : (ℕ × ℕ) × NamingForm) → own_pair s ≡ Ok x → IsQuiet s x.1
unfolding own_pair
pair_quiet s x h = pair_by s.own s x h

new_seen : (o : Option ℕ) (name : List ℕ) (s : NamingForm) (x : ℕ × NamingForm)
    → position is_vacant s.slots ≡ o
    → number_of name s.slots ≡ None → filled_at o (Named name) s ≡ Ok x → IsSeen name s x
new_seen None name s x at new h = absurd (not_given TooManyVariables x h)
new_seen (Some n) name s x at new h =
    let found = position-Some is_vacant s.slots n Vacant at in
    subst (IsSeen name s) (ok_is (n, record s { slots = set s.slots n (Named name) }) x h)
    (record {
      number = own_number s.slots n name found.0 new;
      before = inr (new, found.1);
      same = λ y other. other_number s.slots n (Named name) y found.1 other;
      vacant = λ m e. still_vacant s.slots n m (Named name) refl e;
      further = refl;
      size = length-set s.slots n (Named name);
    })

seen_by : (o : Option ℕ) (name : List ℕ) (s : NamingForm) (x : ℕ × NamingForm) → number_of name s.slots ≡ o
    → sighted_at o name s ≡ Ok x → IsSeen name s x
unfolding filled
seen_by None name s x at h = new_seen (position is_vacant s.slots) name s x refl at h
seen_by (Some n) name s x at h =
    subst (IsSeen name s) (ok_is (n, s) x h)
    (record {
      number = at;
      before = inl at;
      same = λ y other. refl;
      vacant = λ m e. e;
      further = refl;
      size = refl;
    })

pub sighted_seen : (name : List ℕ) (s : NamingForm) (x : ℕ × NamingForm) → sighted name s ≡ Ok x
    → IsSeen name s x
unfolding sighted
sighted_seen name s x h = seen_by (number_of name s.slots) name s x refl h

pub seen_later : (name : List ℕ) (s : NamingForm) (x : ℕ × NamingForm) → IsSeen name s x → Later s x.1
seen_later name s x seen y n e =
    elim (cases_Bool (bytes_eq y name)) [
      | inl is ↦
          let same : y ≡ name = (bytes_eq-Decides y name).0 is in
          elim seen.before [
            | inl had ↦ ap (λ (z : List ℕ). number_of z x.1.slots) same ∙ seen.number ∙ sym had
                ∙ ap (λ (z : List ℕ). number_of z s.slots) (sym same) ∙ e
            | inr none ↦ absurd (some_none n (sym e ∙ ap (λ (z : List ℕ). number_of z s.slots) same ∙ none.0))
          ]
      | inr other ↦ seen.same y other ∙ e
    ]
  where
    some_none : (m : ℕ) → ◌≡◌ {A = Option ℕ} (Some m) None → ⊥
    some_none m k = cc

-- ---- which names are known

-- which names are known at a place, and that a number that stands for nothing isn't
pub record Knows (known : List Bool) (K : List ℕ → Bool) (s : NamingForm) : Type 0 where
  pub named : (y : List ℕ) → is_known_at known (number_of y s.slots) ≡ K y
  pub vacant : (n : ℕ) → is_vacant (get_or s.slots n Vacant) ≡ true → get_or known n false ≡ false
  pub size : length s.slots ≡ length known

pub knows_quiet : (known : List Bool) (K : List ℕ → Bool) (s t : NamingForm) → Knows known K s → IsQuiet s t
    → Knows known K t
knows_quiet known K s t knows quiet = record {
  named = λ y. ap (is_known_at known) (quiet.same y) ∙ knows.named y;
  vacant = λ n e. knows.vacant n (quiet.vacant n e);
  size = quiet.size ∙ knows.size;
}

pub knows_seen : (known : List Bool) (K : List ℕ → Bool) (name : List ℕ) (s : NamingForm) (x : ℕ × NamingForm)
    → Knows known K s → IsSeen name s x → Knows known K x.1
knows_seen known K name s x knows seen = record {
  named = λ y. elim (cases_Bool (bytes_eq y name)) [
    | inl is ↦
        let same : y ≡ name = (bytes_eq-Decides y name).0 is in
        ap (λ (z : List ℕ). is_known_at known (number_of z x.1.slots)) same
        ∙ ap (is_known_at known) seen.number
        ∙ here seen.before ∙ ap K (sym same)
    | inr other ↦ ap (is_known_at known) (seen.same y other) ∙ knows.named y
  ];
  vacant = λ n e. knows.vacant n (seen.vacant n e);
  size = seen.size ∙ knows.size;
}
  where
    here : (number_of name s.slots ≡ Some x.0)
        ⊎ ((number_of name s.slots ≡ None) × (is_vacant (get_or s.slots x.0 Vacant) ≡ true))
        → get_or known x.0 false ≡ K name
    here (inl had) = ap (is_known_at known) (sym had) ∙ knows.named name
    here (inr none) = knows.vacant x.0 none.1 ∙ ap (is_known_at known) (sym none.0) ∙ knows.named name

known_set : (known : List Bool) (v : ℕ) (o : Option ℕ) → ((n : ℕ) → o ≡ Some n → n ≡ v → ⊥)
    → is_known_at (set known v true) o ≡ is_known_at known o
known_set known v None apart = refl
known_set known v (Some n) apart = get_or-set_other known v n true false (apart n refl)

-- the number of a name isn't that of another
pub other_name : (slots : List SlotForm) (y name : List ℕ) (v : ℕ) → number_of name slots ≡ Some v
    → bytes_eq y name ≡ false → (n : ℕ) → number_of y slots ≡ Some n → n ≡ v → ⊥
other_name slots y name v at other n e same =
    true≢false (sym ((bytes_eq-Decides y name).1 (same_name slots y name v (e ∙ ap Some same) at)) ∙ other)

-- under a quantifier its name is known too
pub knows_under : (known : List Bool) (K : List ℕ → Bool) (name : List ℕ) (v : ℕ) (s : NamingForm)
    → Knows known K s → number_of name s.slots ≡ Some v
    → Knows (set known v true) (λ y. bytes_eq y name || K y) s
knows_under known K name v s knows at = record {
  named = λ y. elim (cases_Bool (bytes_eq y name)) [
    | inl is ↦
        let same : y ≡ name = (bytes_eq-Decides y name).0 is in
        rw is (ap (λ (z : List ℕ). is_known_at (set known v true) (number_of z s.slots)) same
        ∙ ap (is_known_at (set known v true)) at ∙ get_or-set_same known v true false within)
    | inr other ↦
        rw other (known_set known v (number_of y s.slots) (λ n e. other_name s.slots y name v at other n e)
        ∙ knows.named y)
  ];
  vacant = λ n e.
      let full = position-Some (is_named name) s.slots v Vacant at in
      let apart : n ≡ v → ⊥ = λ same. true≢false (sym full.1
      ∙ vacant_unnamed name (get_or s.slots v Vacant)
      (ap (λ (m : ℕ). is_vacant (get_or s.slots m Vacant)) (sym same) ∙ e)) in
      get_or-set_other known v n true false apart ∙ knows.vacant n e;
  size = knows.size ∙ sym (length-set known v true);
}
  where
    within : v < length known
    within = let found = position-Some (is_named name) s.slots v Vacant at in subst (λ (n : ℕ). v < n)
        knows.size found.0

-- and behind it as before
pub knows_over : (known : List Bool) (K : List ℕ → Bool) (name : List ℕ) (v : ℕ) (s t : NamingForm)
    → Knows known K s → number_of name s.slots ≡ Some v → number_of name t.slots ≡ Some v
    → Knows (set known v true) (λ y. bytes_eq y name || K y) t → Knows known K t
knows_over known K name v s t outer before at inner = record {
  named = λ y. elim (cases_Bool (bytes_eq y name)) [
    | inl is ↦
        let same : y ≡ name = (bytes_eq-Decides y name).0 is in
        ap (λ (z : List ℕ). is_known_at known (number_of z t.slots)) same
        ∙ ap (is_known_at known) (at ∙ sym before)
        ∙ outer.named name ∙ ap K (sym same)
    | inr other ↦
        sym (known_set known v (number_of y t.slots) (λ n e. other_name t.slots y name v at other n e))
        ∙ inner.named y ∙ ap (λ (b : Bool). b || K y) other
  ];
  vacant = λ n e. unset n (inner.vacant n e);
  size = inner.size ∙ length-set known v true;
}
  where
    unset : (n : ℕ) → get_or (set known v true) n false ≡ false → get_or known n false ≡ false
    unset n h = by known v n h
      where
        by : (flags : List Bool) (w m : ℕ) → get_or (set flags w true) m false ≡ false
            → get_or flags m false ≡ false
        by [] w m k = k
        by (b ∷ flags) zero zero k = absurd (true≢false k)
        by (b ∷ flags) zero (suc m) k = k
        by (b ∷ flags) (suc w) zero k = k
        by (b ∷ flags) (suc w) (suc m) k = by flags w m k
