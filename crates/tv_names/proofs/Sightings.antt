-- What a step sees, and what it does to the numbers.
use Rattle.std.proofs.Common.{◌≡◌, ℕ, ◌+◌, ◌<◌, ◌≤◌, Bool, true, false, ◌||◌, List, [], ◌∷◌, ◌++◌, length}
use Rattle.std.proofs.Common.{refl, ap, sym, ◌∙◌, arith, length-append, Option, Some, None, Ok, Err, inl, inr}
use Rattle.std.specs.List.{list_any, flat_map, position}
use Rattle.std.specs.Str.{bytes_eq}
use Rattle.std.proofs.lemmas.Bool.{cases_Bool}
use Rattle.std.proofs.lemmas.Grind.{flat_map-append}
use Rattle.std.proofs.lemmas.List.Folds.{list_any-append, list_any_at}
use Rattle.std.proofs.lemmas.List.Quantifiers.{position-Some}
use Rattle.std.proofs.lemmas.Slice.Eq.{bytes_eq-Decides}
use Rattle.tv_names.specs.declared.refusal.ResolveError.TheVariants.{TooManyVariables}
use Rattle.tv_names.specs.Refusal.{◌>>=◌, OrRefused}
use Rattle.tv_names.specs.Naming.{SlotForm, Vacant, Named, NamingForm, is_vacant, is_named, number_of}
use Rattle.tv_names.specs.Naming.{filled_at, filled, sighted_at, sighted}
use Rattle.tv_names.specs.Numbers.{Sight, OfName, OfPair, is_same_sight, is_numbered, first_sights}
use Rattle.tv_names.specs.Numbers.{variables_of, new_variables, vacant_count, filled_with}
use Rattle.tv_names.specs.Resolving.{Numbered}
use Rattle.tv_names.proofs.SlotFills.{fill_append, fill_count, first_vacant, none_passes, no_vacancy}
use Rattle.tv_names.proofs.SlotFills.{filled_name}

-- ---- lists of sights

abbrev pub is_seen : List Sight → Sight → Bool
is_seen xs y = list_any (is_same_sight y) xs

same_is : (y x : Sight) → is_same_sight y x ≡ true → y ≡ x
same_is (OfName v) (OfName w) h = ap OfName ((bytes_eq-Decides v w).0 h)
same_is (OfName v) OfPair h = cc
same_is OfPair (OfName w) h = cc
same_is OfPair OfPair h = refl

pub first_alike : (k l : Sight → Bool) → ((y : Sight) → k y ≡ l y) → (xs : List Sight) → first_sights k xs ≡ first_sights l xs
first_alike k l h [] = refl
first_alike k l h (x ∷ xs) =
    rw (h x)
    (elim (cases_Bool (l x)) [
      | inl e ↦ rw e (first_alike k l h xs)
      | inr e ↦ rw e (ap (λ (ys : List Sight). x ∷ ys) (first_alike (λ y. is_same_sight y x || k y) (λ y. is_same_sight y x || l y) (λ y. ap (λ (b : Bool). is_same_sight y x || b) (h y)) xs))
    ])

or_swap : (a b c : Bool) → (a || (b || c)) ≡ ((b || a) || c)
or_swap true true c = refl
or_swap true false c = refl
or_swap false true c = refl
or_swap false false c = refl

pub known_stays : (k : Sight → Bool) (x y : Sight) (seen : Bool) → k x ≡ true → (seen || k y) ≡ ((is_same_sight y x || seen) || k y)
known_stays k x y seen known =
    elim (cases_Bool (is_same_sight y x)) [
      | inl e ↦
          let here : k y ≡ true = ap k (same_is y x e) ∙ known in
          rw (e, here) (by seen)
      | inr e ↦ rw e refl
    ]
  where
    by : (b : Bool) → (b || true) ≡ true
    by true = refl
    by false = refl

first_append : (k : Sight → Bool) (xs ys : List Sight) → first_sights k (xs ++ ys) ≡ first_sights k xs ++ first_sights (λ y. is_seen xs y || k y) ys
first_append k [] ys = refl
first_append k (x ∷ xs) ys =
    elim (cases_Bool (k x)) [
      | inl e ↦
          let alike = first_alike (λ y. is_seen xs y || k y) (λ y. (is_same_sight y x || is_seen xs y) || k y) (λ y. known_stays k x y (is_seen xs y) e) ys in
          rw e (first_append k xs ys ∙ ap (λ (zs : List Sight). first_sights k xs ++ zs) alike)
      | inr e ↦
          let further : Sight → Bool = λ y. is_same_sight y x || k y in
          let alike = first_alike (λ y. is_seen xs y || (is_same_sight y x || k y)) (λ y. (is_same_sight y x || is_seen xs y) || k y) (λ y. or_swap (is_seen xs y) (is_same_sight y x) (k y)) ys in
          rw e (ap (λ (zs : List Sight). x ∷ zs) (first_append (λ y. is_same_sight y x || k y) xs ys ∙ ap (λ (zs : List Sight). first_sights (λ y. is_same_sight y x || k y) xs ++ zs) alike))
    ]

taken : (xs : List Sight) → list_any is_vacant (flat_map variables_of xs) ≡ false
taken [] = refl
taken (OfName name ∷ xs) = taken xs
taken (OfPair ∷ xs) = taken xs

-- ---- what a step does to the numbers

pub record Follows (s : NamingForm) (xs : List Sight) (t : NamingForm) : Type 0 where
  pub slots : t.slots ≡ filled_with s.slots (new_variables s xs)
  pub room : length (new_variables s xs) ≤ vacant_count s.slots
  pub known : (y : Sight) → is_numbered t y ≡ (is_seen xs y || is_numbered s y)

new_append : (s t : NamingForm) (xs ys : List Sight) → ((y : Sight) → is_numbered t y ≡ (is_seen xs y || is_numbered s y)) → new_variables s (xs ++ ys) ≡ new_variables s xs ++ new_variables t ys
new_append s t xs ys known =
    ap (flat_map variables_of) (first_append (is_numbered s) xs ys ∙ ap (λ (zs : List Sight). first_sights (is_numbered s) xs ++ zs) (first_alike (λ y. is_seen xs y || is_numbered s y) (is_numbered t) (λ y. sym (known y)) ys))
    ∙ flat_map-append variables_of (first_sights (is_numbered s) xs) (first_sights (is_numbered t) ys)

pub left_over : (s t : NamingForm) (xs : List Sight) → Follows s xs t → vacant_count t.slots + length (new_variables s xs) ≡ vacant_count s.slots
left_over s t xs p = rw p.slots (fill_count s.slots (new_variables s xs) (taken (first_sights (is_numbered s) xs)) p.room)

or_turn : (a b c : Bool) → (b || (a || c)) ≡ ((a || b) || c)
or_turn a b c = or_swap b a c

follows_then : (s t u : NamingForm) (xs ys : List Sight) → Follows s xs t → Follows t ys u → Follows s (xs ++ ys) u
follows_then s t u xs ys p q =
    let new = new_append s t xs ys p.known in
    let left = left_over s t xs p in
    let more = q.room in
    record {
      slots = q.slots ∙ ap (λ (slots : List SlotForm). filled_with slots (new_variables t ys)) p.slots ∙ fill_append s.slots (new_variables s xs) (new_variables t ys) (taken (first_sights (is_numbered s) xs)) ∙ ap (filled_with s.slots) (sym new);
      room = rw new (omega (arith, length-append (new_variables s xs) (new_variables t ys), left, more));
      known = λ y. q.known y ∙ ap (λ (b : Bool). is_seen ys y || b) (p.known y) ∙ or_turn (is_seen xs y) (is_seen ys y) (is_numbered s y) ∙ ap (λ (b : Bool). b || is_numbered s y) (sym (list_any-append (is_same_sight y) xs ys));
    }

-- what a step that sees these gives, or that there is no room for them
abbrev pub Sees : {A : Type 0} → NamingForm → List Sight → Numbered A → Type 0
Sees s xs (Ok x) = Follows s xs x.1
Sees s xs (Err e) = e ≡ TooManyVariables → vacant_count s.slots < length (new_variables s xs)

pub sees_then : {A B : Type 0} (s : NamingForm) (xs ys : List Sight) (r : Numbered A) (f : A × NamingForm → Numbered B) → Sees s xs r → ((x : A × NamingForm) → Sees x.1 ys (f x)) → Sees s (xs ++ ys) (r >>= f)
sees_then {A} {B} s xs ys (Ok x) f p q = by (f x) (q x)
  where
    by : (out : Numbered B) → Sees x.1 ys out → Sees s (xs ++ ys) out
    by (Ok y) k = follows_then s x.1 y.1 xs ys p k
    by (Err e) k = λ is.
        let less = k is in
        let left = left_over s x.1 xs p in
        rw (new_append s x.1 xs ys p.known) (omega (arith, length-append (new_variables s xs) (new_variables x.1 ys), left, less))
sees_then s xs ys (Err e) f p q = λ is.
    let less = p is in
    let more = flat_map-append variables_of (first_sights (is_numbered s) xs) (first_sights (λ y. is_seen xs y || is_numbered s y) ys) in
    let long = length-append (new_variables s xs) (flat_map variables_of (first_sights (λ y. is_seen xs y || is_numbered s y) ys)) in
    rw (first_append (is_numbered s) xs ys, more) (omega (arith, long, less))

pub sees_map : {A B : Type 0} (s : NamingForm) (xs : List Sight) (r : Numbered A) (g : A × NamingForm → B) → Sees s xs r → Sees s xs (r >>= λ x. Ok (g x, x.1))
sees_map s xs (Ok x) g p = p
sees_map s xs (Err e) g p = p

pub sees_none : (s : NamingForm) → Follows s [] s
sees_none s = record { slots = refl; room = omega arith; known = λ y. refl }

-- a test that is no matter of numbers
pub sees_guard : {A C : Type 0} (s : NamingForm) (xs : List Sight) (g : OrRefused C) (f : C → Numbered A) → (g ≡ Err TooManyVariables → ⊥) → ((c : C) → Sees s xs (f c)) → Sees s xs (g >>= f)
sees_guard s xs (Ok c) f never p = p c
sees_guard s xs (Err e) f never p = λ is. absurd (never (ap Err is))

-- ---- names

pub some_passes : (name : List ℕ) (slots : List SlotForm) (n : ℕ) → position (is_named name) slots ≡ Some n → list_any (is_named name) slots ≡ true
some_passes name slots n e =
    let p = position-Some (is_named name) slots n Vacant e in
    list_any_at (is_named name) slots n Vacant p.0 p.1

name_known : (s : NamingForm) (name : List ℕ) → is_numbered s (OfName name) ≡ true → Follows s (OfName name ∷ []) s
name_known s name h =
    record {
      slots = rw h refl;
      room = rw h (omega arith);
      known = λ y. known_stays (is_numbered s) (OfName name) y false h;
    }

-- what filling one vacant number does
pub record IsFilled (slot : SlotForm) (s t : NamingForm) : Type 0 where
  pub slots : t.slots ≡ filled_with s.slots (slot ∷ [])
  pub some : 1 ≤ vacant_count s.slots
  pub own : t.own ≡ s.own

abbrev pub Fills : SlotForm → NamingForm → Numbered ℕ → Type 0
Fills slot s (Ok x) = IsFilled slot s x.1
Fills slot s (Err e) = vacant_count s.slots ≡ 0

pub fills : (slot : SlotForm) (s : NamingForm) → Fills slot s (filled slot s)
unfolding filled
fills slot s = by (position is_vacant s.slots) refl
  where
    by : (o : Option ℕ) → position is_vacant s.slots ≡ o → Fills slot s (filled_at o slot s)
    by None e = no_vacancy s.slots (none_passes is_vacant s.slots e)
    by (Some n) e = let first = first_vacant s.slots n slot e in record { slots = first.is; some = first.some; own = refl }

name_filled : (s : NamingForm) (name : List ℕ) (out : Numbered ℕ) → is_numbered s (OfName name) ≡ false → Fills (Named name) s out → Sees s (OfName name ∷ []) out
name_filled s name (Ok x) new p =
    record {
      slots = rw new p.slots;
      room = rw new (p.some);
      known = λ y. known y;
    }
  where
    known : (y : Sight) → is_numbered x.1 y ≡ ((is_same_sight y (OfName name) || false) || is_numbered s y)
    known (OfName v) = rw p.slots (filled_name v s.slots (Named name) p.some ∙ ap (λ (b : Bool). b || list_any (is_named v) s.slots) (or_false (bytes_eq v name)))
      where
        or_false : (b : Bool) → b ≡ (b || false)
        or_false true = refl
        or_false false = refl
    known OfPair = rw p.own refl
name_filled s name (Err e) new p = λ is. rw (new, p) (omega arith)

pub name_sees : (name : List ℕ) (s : NamingForm) → Sees s (OfName name ∷ []) (sighted name s)
unfolding sighted
name_sees name s = by (number_of name s.slots) refl
  where
    by : (o : Option ℕ) → number_of name s.slots ≡ o → Sees s (OfName name ∷ []) (sighted_at o name s)
    by (Some n) e = name_known s name (some_passes name s.slots n e)
    by None e = name_filled s name (filled (Named name) s) (none_passes (is_named name) s.slots e) (fills (Named name) s)
