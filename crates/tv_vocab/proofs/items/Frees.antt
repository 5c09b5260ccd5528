-- What stands free in a part of a formula: by names in the text, and by numbers in what was resolved.
use Rattle.std.proofs.Common.{◌≡◌, ℕ, Bool, true, false, not, cond, ◌||◌, ◌&&◌, ◌==◌, get_or, List, [], ◌∷◌}
use Rattle.std.proofs.Common.{◌++◌, length, refl, ap, sym, ◌∙◌, inl, inr, ◌⊎◌, Option, Some, None}
use Rattle.std.specs.Prelude.{is_some}
use Rattle.std.specs.List.{list_any}
use Rattle.std.specs.Str.{bytes_eq}
use Rattle.std.proofs.lemmas.Bool.{cases_Bool, eq-eqb, eqb-true, true≢false, false≢true}
use Rattle.std.proofs.lemmas.List.Folds.{list_any-append}
use Rattle.std.proofs.lemmas.Slice.Eq.{bytes_eq-Decides}
use Rattle.tv_tree.specs.Names.{is_among}
use Rattle.tv_model.specs.Valid.{without}
use Rattle.tv_names.specs.declared.place.Others.TheVariants.{Once}
use Rattle.tv_names.specs.Naming.{SlotForm, NamingForm, Vacant, is_vacant, number_of}
use Rattle.tv_names.specs.Picks.{is_one_of}
use Rattle.tv_names.specs.Resolving.{PlaceForm, is_known_at, under}
use Rattle.tv_vocab.specs.Variables.{without_names}
use Rattle.tv_vocab.proofs.valid.Refusals.{some_is}
use Rattle.tv_vocab.proofs.items.Numbered.{same_name, Later, IsQuiet, IsSeen, seen_later, Knows, knows_quiet}
use Rattle.tv_vocab.proofs.items.Numbered.{knows_seen, knows_over}

-- whether a name that isn't known is among these
abbrev pub has_other : (List ℕ → Bool) → List (List ℕ) → Bool
has_other K free = list_any (λ y. not (K y)) free

-- From s to t these names were seen free, where K are known, and stand for these variables.
pub record Frees (at : PlaceForm) (K : List ℕ → Bool) (s t : NamingForm) (free : List (List ℕ))
    (vars : List ℕ) : Type 0 where
  pub knows : Knows at.known K t
  pub later : Later s t
  pub numbered : (y : List ℕ) → is_among free y ≡ true → is_some (number_of y t.slots) ≡ true
  pub same : (u : NamingForm) → Later t u → (y : List ℕ) (n : ℕ) → number_of y u.slots ≡ Some n
      → is_one_of vars n ≡ is_among free y
  pub named : (n : ℕ) → is_one_of vars n ≡ true → (y : List ℕ) × (number_of y t.slots ≡ Some n)
  pub further : at.others ≡ Once → is_some t.further ≡ (is_some s.further || has_other K free)

pub later_then : (s t u : NamingForm) → Later s t → Later t u → Later s u
later_then s t u a b y n e = b y n (a y n e)

pub later_itself : (s : NamingForm) → Later s s
later_itself s y n e = e

still_numbered : (s t : NamingForm) (y : List ℕ) → Later s t → is_some (number_of y s.slots) ≡ true
    → is_some (number_of y t.slots) ≡ true
still_numbered s t y later h = by (number_of y s.slots) refl h
  where
    by : (o : Option ℕ) → number_of y s.slots ≡ o → is_some o ≡ true → is_some (number_of y t.slots) ≡ true
    by None e k = absurd (false≢true k)
    by (Some n) e k = ap is_some (later y n e)

or_false : (b : Bool) → b ≡ (b || false)
or_false true = refl
or_false false = refl

or_assoc : (a b c : Bool) → ((a || b) || c) ≡ (a || (b || c))
or_assoc true b c = refl
or_assoc false b c = refl

pub frees_none : (at : PlaceForm) (K : List ℕ → Bool) (s : NamingForm) → Knows at.known K s
    → Frees at K s s [] []
frees_none at K s knows = record {
  knows = knows;
  later = later_itself s;
  numbered = λ y h. absurd (false≢true h);
  same = λ u later y n e. refl;
  named = λ n h. absurd (false≢true h);
  further = λ once. or_false (is_some s.further);
}

pub frees_quiet : (at : PlaceForm) (K : List ℕ → Bool) (s t : NamingForm) → Knows at.known K s → IsQuiet s t
    → Frees at K s t [] []
frees_quiet at K s t knows quiet = record {
  knows = knows_quiet at.known K s t knows quiet;
  later = λ y n e. quiet.same y ∙ e;
  numbered = λ y h. absurd (false≢true h);
  same = λ u later y n e. refl;
  named = λ n h. absurd (false≢true h);
  further = λ once. ap is_some quiet.further ∙ or_false (is_some s.further);
}

pub frees_both : (at : PlaceForm) (K : List ℕ → Bool) (s t u : NamingForm) (xs ys : List (List ℕ))
    (vs ws : List ℕ)
    → Frees at K s t xs vs → Frees at K t u ys ws → Frees at K s u (xs ++ ys) (vs ++ ws)
frees_both at K s t u xs ys vs ws a b = record {
  knows = b.knows;
  later = later_then s t u a.later b.later;
  numbered = λ y h. elim (either (is_among xs y) (is_among ys y)
      (sym (list_any-append (bytes_eq y) xs ys) ∙ h)) [
        | inl k ↦ still_numbered t u y b.later (a.numbered y k)
        | inr k ↦ b.numbered y k
      ];
  same = λ w later y n e.
      list_any-append (λ v. v == n) vs ws
      ∙ ap (λ (p : Bool). p || is_one_of ws n) (a.same w (later_then t u w b.later later) y n e)
      ∙ ap (λ (p : Bool). is_among xs y || p) (b.same w later y n e)
      ∙ sym (list_any-append (bytes_eq y) xs ys);
  named = λ n h. elim (either (is_one_of vs n) (is_one_of ws n)
      (sym (list_any-append (λ v. v == n) vs ws) ∙ h)) [
        | inl k ↦ let found = a.named n k in (found.0, b.later found.0 n found.1)
        | inr k ↦ b.named n k
      ];
  further = λ once.
      b.further once ∙ ap (λ (p : Bool). p || has_other K ys) (a.further once)
      ∙ or_assoc (is_some s.further) (has_other K xs) (has_other K ys)
      ∙ ap (λ (p : Bool). is_some s.further || p) (sym (list_any-append (λ y. not (K y)) xs ys));
}
  where
    either : (p q : Bool) → (p || q) ≡ true → (p ≡ true) ⊎ (q ≡ true)
    either true q h = inl refl
    either false q h = inr h

-- the same variables, written otherwise
pub frees_as : (at : PlaceForm) (K : List ℕ → Bool) (s t : NamingForm) (xs : List (List ℕ)) (vs ws : List ℕ)
    → ((n : ℕ) → is_one_of ws n ≡ is_one_of vs n) → Frees at K s t xs vs → Frees at K s t xs ws
frees_as at K s t xs vs ws alike a = record {
  knows = a.knows;
  later = a.later;
  numbered = a.numbered;
  same = λ u later y n e. alike n ∙ a.same u later y n e;
  named = λ n h. a.named n (sym (alike n) ∙ h);
  further = a.further;
}

-- ---- one name

one_same : (u : NamingForm) (name y : List ℕ) (v n : ℕ) → number_of name u.slots ≡ Some v
    → number_of y u.slots ≡ Some n → (v == n) ≡ bytes_eq y name
one_same u name y v n at e =
    elim (cases_Bool (bytes_eq y name)) [
      | inl is ↦
          let same : y ≡ name = (bytes_eq-Decides y name).0 is in
          let number : v ≡ n = some_is v n (sym at ∙ ap (λ (z : List ℕ). number_of z u.slots) (sym same)
          ∙ e) in
          eq-eqb v n number ∙ sym is
      | inr other ↦
          elim (cases_Bool (v == n)) [
            | inl h ↦
                let number : v ≡ n = eqb-true v n h in
                let same : y ≡ name = same_name u.slots y name n e (at ∙ ap Some number) in
                absurd (true≢false (sym ((bytes_eq-Decides y name).1 same) ∙ other))
            | inr h ↦ h ∙ sym other
          ]
    ]

-- a name that was seen, where it is known, or `further` tells that it isn't
pub frees_seen : (at : PlaceForm) (K : List ℕ → Bool) (name : List ℕ) (s : NamingForm) (x : ℕ × NamingForm)
    (t : NamingForm) → Knows at.known K s → IsSeen name s x → t.slots ≡ x.1.slots
    → (at.others ≡ Once → is_some t.further ≡ (is_some s.further || not (K name)))
    → Frees at K s t (name ∷ []) (x.0 ∷ [])
frees_seen at K name s x t knows seen slots further =
    let known = knows_seen at.known K name s x knows seen in
    let at_name : number_of name t.slots ≡ Some x.0 = ap (number_of name) slots ∙ seen.number in
    record {
      knows = record {
        named = λ y. ap (λ (ss : List SlotForm). is_known_at at.known (number_of y ss)) slots ∙ known.named y;
        vacant = λ n e. known.vacant n (ap (λ (ss : List SlotForm). is_vacant (get_or ss n Vacant))
            (sym slots) ∙ e);
        size = ap length slots ∙ known.size;
      };
      later = λ y n e. ap (number_of y) slots ∙ seen_later name s x seen y n e;
      numbered = λ y h.
          let is : bytes_eq y name ≡ true = or_false (bytes_eq y name) ∙ h in
          ap (λ (z : List ℕ). is_some (number_of z t.slots)) ((bytes_eq-Decides y name).0 is)
          ∙ ap is_some at_name;
      same = λ u later y n e. ap (λ (p : Bool). p || false)
          (one_same u name y x.0 n (later name x.0 at_name) e);
      named = λ n h. (name, at_name ∙ ap Some (eqb-true x.0 n (or_false (x.0 == n) ∙ h)));
      further = λ once. further once ∙ ap (λ (p : Bool). is_some s.further || p) (or_false (not (K name)));
    }

-- ---- under a quantifier

not_among : (name y : List ℕ) (xs : List (List ℕ))
    → is_among (without_names (name ∷ []) xs) y ≡ (not (bytes_eq y name) && is_among xs y)
not_among name y [] = by (bytes_eq y name)
  where
    by : (b : Bool) → false ≡ (not b && false)
    by true = refl
    by false = refl
not_among name y (x ∷ xs) = by (bytes_eq x name) refl (not_among name y xs)
  where
    same : bytes_eq x name ≡ true → (bytes_eq y x) ≡ bytes_eq y name
    same is = ap (bytes_eq y) ((bytes_eq-Decides x name).0 is)

    other : bytes_eq x name ≡ false → bytes_eq y x ≡ true → bytes_eq y name ≡ false
    other is h = ap (λ (z : List ℕ). bytes_eq z name) ((bytes_eq-Decides y x).0 h) ∙ is

    swap : (p q r : Bool) → (p ≡ true → q ≡ false) → (p || (not q && r)) ≡ (not q && (p || r))
    swap true q r h = rw (h refl) refl
    swap false q r h = refl

    gone : (q r : Bool) → (not q && r) ≡ (not q && (q || r))
    gone true r = refl
    gone false r = refl

    by : (b : Bool) → bytes_eq x name ≡ b → is_among (without_names (name ∷ []) xs) y
        ≡ (not (bytes_eq y name) && is_among xs y)
        → is_among (cond (not (b || false)) (x ∷ without_names (name ∷ []) xs) (without_names (name ∷ []) xs))
        y
        ≡ (not (bytes_eq y name) && (bytes_eq y x || is_among xs y))
    by true is rest = rest ∙ gone (bytes_eq y name) (is_among xs y)
        ∙ ap (λ (p : Bool). not (bytes_eq y name) && (p || is_among xs y)) (sym (same is))
    by false is rest = ap (λ (p : Bool). bytes_eq y x || p) rest
        ∙ swap (bytes_eq y x) (bytes_eq y name) (is_among xs y) (other is)

pub not_one_of : (v n : ℕ) (vs : List ℕ) → is_one_of (without v vs) n ≡ (not (v == n) && is_one_of vs n)
not_one_of v n [] = by (v == n)
  where
    by : (b : Bool) → false ≡ (not b && false)
    by true = refl
    by false = refl
not_one_of v n (w ∷ vs) = by (w == v) refl (not_one_of v n vs)
  where
    same : (w == v) ≡ true → (w == n) ≡ (v == n)
    same is = ap (λ (m : ℕ). m == n) (eqb-true w v is)

    other : (w == v) ≡ false → (w == n) ≡ true → (v == n) ≡ false
    other is h =
        elim (cases_Bool (v == n)) [
          | inl k ↦ absurd (true≢false (sym (eq-eqb w v (eqb-true w n h ∙ sym (eqb-true v n k))) ∙ is))
          | inr k ↦ k
        ]

    swap : (p q r : Bool) → (p ≡ true → q ≡ false) → (p || (not q && r)) ≡ (not q && (p || r))
    swap true q r h = rw (h refl) refl
    swap false q r h = refl

    gone : (q r : Bool) → (not q && r) ≡ (not q && (q || r))
    gone true r = refl
    gone false r = refl

    by : (b : Bool) → (w == v) ≡ b → is_one_of (without v vs) n ≡ (not (v == n) && is_one_of vs n)
        → is_one_of (cond (not b) (w ∷ without v vs) (without v vs)) n
        ≡ (not (v == n) && ((w == n) || is_one_of vs n))
    by true is rest = rest ∙ gone (v == n) (is_one_of vs n)
        ∙ ap (λ (p : Bool). not (v == n) && (p || is_one_of vs n)) (sym (same is))
    by false is rest = ap (λ (p : Bool). (w == n) || p) rest
        ∙ swap (w == n) (v == n) (is_one_of vs n) (other is)

others_over : (K : List ℕ → Bool) (name : List ℕ) (xs : List (List ℕ))
    → has_other (λ y. bytes_eq y name || K y) xs ≡ has_other K (without_names (name ∷ []) xs)
others_over K name [] = refl
others_over K name (x ∷ xs) = by (bytes_eq x name) (others_over K name xs)
  where
    by : (b : Bool) → has_other (λ y. bytes_eq y name || K y) xs ≡ has_other K (without_names (name ∷ []) xs)
        → (not (b || K x) || has_other (λ y. bytes_eq y name || K y) xs)
        ≡ has_other K (cond (not (b || false)) (x ∷ without_names (name ∷ []) xs)
        (without_names (name ∷ []) xs))
    by true rest = rest
    by false rest = ap (λ (p : Bool). not (K x) || p) rest

-- what stands free under a quantifier, seen from outside
pub frees_bound : (at : PlaceForm) (K : List ℕ → Bool) (name : List ℕ) (v : ℕ) (s t : NamingForm)
    (xs : List (List ℕ)) (vs : List ℕ) → Knows at.known K s → number_of name s.slots ≡ Some v
    → Frees (under at v) (λ y. bytes_eq y name || K y) s t xs vs
    → Frees at K s t (without_names (name ∷ []) xs) (without v vs)
frees_bound at K name v s t xs vs outer here a = record {
  knows = knows_over at.known K name v s t outer here (a.later name v here) a.knows;
  later = a.later;
  numbered = λ y h. a.numbered y (last (not (bytes_eq y name)) (is_among xs y)
      (sym (not_among name y xs) ∙ h));
  same = λ u later y n e.
      not_one_of v n vs
      ∙ ap (λ (p : Bool). not p && is_one_of vs n)
      (one_same u name y v n (later name v (a.later name v here)) e)
      ∙ ap (λ (p : Bool). not (bytes_eq y name) && p) (a.same u later y n e)
      ∙ sym (not_among name y xs);
  named = λ n h. a.named n (last (not (v == n)) (is_one_of vs n) (sym (not_one_of v n vs) ∙ h));
  further = λ once. a.further once ∙ ap (λ (p : Bool). is_some s.further || p) (others_over K name xs);
}
  where
    last : (p q : Bool) → (p && q) ≡ true → q ≡ true
    last true q h = h
    last false q h = absurd (false≢true h)

-- names that are taken away one after the other
pub without_more : (name : List ℕ) (names xs : List (List ℕ))
    → without_names (name ∷ []) (without_names names xs) ≡ without_names (name ∷ names) xs
without_more name names [] = refl
without_more name names (x ∷ xs) = by (bytes_eq x name) (is_among names x) (without_more name names xs) refl
  where
    by : (p q : Bool) → without_names (name ∷ []) (without_names names xs) ≡ without_names (name ∷ names) xs
        → bytes_eq x name ≡ p
        → without_names (name ∷ []) (cond (not q) (x ∷ without_names names xs) (without_names names xs))
        ≡ cond (not (p || q)) (x ∷ without_names (name ∷ names) xs) (without_names (name ∷ names) xs)
    by true true rest is = rest
    by false true rest is = rest
    by true false rest is = rw is rest
    by false false rest is = rw is (ap (λ (ys : List (List ℕ)). x ∷ ys) rest)

-- what stands free behind a step that gives a name its number
pub frees_behind : (at : PlaceForm) (K : List ℕ → Bool) (name : List ℕ) (s : NamingForm) (x : ℕ × NamingForm)
    (t : NamingForm) → Knows at.known K s → IsSeen name s x → (xs : List (List ℕ)) (vs : List ℕ)
    → Frees at K x.1 t xs vs → Frees at K s t xs vs
frees_behind at K name s x t knows seen xs vs a = record {
  knows = a.knows;
  later = later_then s x.1 t (seen_later name s x seen) a.later;
  numbered = a.numbered;
  same = a.same;
  named = a.named;
  further = λ once. a.further once ∙ ap (λ (o : Option ℕ). is_some o || has_other K xs) seen.further;
}
