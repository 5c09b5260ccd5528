-- The numbers of an item: they are below 32, and what has a number keeps it.
use Rattle.std.proofs.Common.{◌≡◌, ◌≢◌, ℕ, zero, suc, ◌<◌, Bool, true, false, get_or, set, List, [], ◌∷◌}
use Rattle.std.proofs.Common.{length, refl, ap, sym, subst, ◌∙◌, arith, inl, inr, ◌⊎◌, Ok, Option, Some, None}
use Rattle.std.proofs.Common.{cond}
use Rattle.std.specs.List.{position}
use Rattle.std.proofs.lemmas.Bool.{cases_eq, true≢false, false≢true}
use Rattle.std.proofs.lemmas.List.{length-set, length-map, get_or-set_same, get_or-set_other}
use Rattle.std.proofs.lemmas.List.Quantifiers.{position-Some}
use Rattle.std.specs.Str.{bytes_eq}
use Rattle.std.proofs.lemmas.Slice.Eq.{bytes_eq-Decides}
use Rattle.tv_names.specs.Refusal.{◌>>=◌}
use Rattle.tv_names.specs.declared.refusal.ResolveError.TheVariants.{TooManyVariables, ArityTooLarge}
use Rattle.tv_names.specs.Naming.{SlotForm, Vacant, Nameless, Named, NamingForm, is_vacant, is_named}
use Rattle.tv_names.specs.Naming.{number_of, filled_at, filled, sighted_at, sighted, hidden_slot, hidden}
use Rattle.tv_names.specs.Naming.{declared, two_declared, declared_all, two_more, own_at, own_pair, no_names}
use Rattle.tv_vocab.proofs.valid.Refusals.{ok_is, some_is, not_none, not_given, went}

-- the number stands for something
pub record IsHeld (slots : List SlotForm) (v : ℕ) : Type 0 where
  pub within : v < 32
  pub taken : is_vacant (get_or slots v Vacant) ≡ false

pub record AreOwn (v w : ℕ) : Type 0 where
  pub left : v < 32
  pub right : w < 32
  pub differ : v ≢ w

pub record IsSound (s : NamingForm) : Type 0 where
  pub size : length s.slots ≡ 32
  pub own : (pair : ℕ × ℕ) → s.own ≡ Some pair → AreOwn pair.0 pair.1
  pub further : (v : ℕ) → s.further ≡ Some v → v < 32

-- numbers were given between s and t
pub record IsAfter (s t : NamingForm) : Type 0 where
  pub sound : IsSound t
  pub held : (v : ℕ) → IsHeld s.slots v → IsHeld t.slots v
  pub further : t.further ≡ s.further

-- a number that stood for nothing
pub record IsNewNumber (s : NamingForm) (x : ℕ × NamingForm) : Type 0 where
  pub after : IsAfter s x.1
  pub held : IsHeld x.1.slots x.0
  pub vacant : is_vacant (get_or s.slots x.0 Vacant) ≡ true

pub not_held : (slots : List SlotForm) (v w : ℕ) → IsHeld slots v → is_vacant (get_or slots w Vacant) ≡ true → v ≢ w
not_held slots v w held vacant same = true≢false (sym vacant ∙ ap (λ (u : ℕ). is_vacant (get_or slots u Vacant)) (sym same) ∙ held.taken)

held_set : (slots : List SlotForm) (n v : ℕ) (slot : SlotForm) → length slots ≡ 32 → n < 32 → is_vacant slot ≡ false → IsHeld slots v → IsHeld (set slots n slot) v
held_set slots n v slot size lt full held =
    elim (cases_eq v n) [
      | inl same ↦ record { within = held.within; taken = ap (λ (u : ℕ). is_vacant (get_or (set slots n slot) u Vacant)) same ∙ ap is_vacant (get_or-set_same slots n slot Vacant (omega arith)) ∙ full }
      | inr other ↦ record { within = held.within; taken = ap is_vacant (get_or-set_other slots n v slot Vacant other) ∙ held.taken }
    ]

filled_by : (o : Option ℕ) (slot : SlotForm) (s : NamingForm) (x : ℕ × NamingForm) → position is_vacant s.slots ≡ o → is_vacant slot ≡ false → IsSound s → filled_at o slot s ≡ Ok x → IsNewNumber s x
filled_by None slot s x at full sound h = absurd (not_given TooManyVariables x h)
filled_by (Some n) slot s x at full sound h =
    let found = position-Some is_vacant s.slots n Vacant at in
    let size = sound.size in
    let within : n < 32 = omega (arith, found.0, size) in
    let long : n < length s.slots = found.0 in
    subst (IsNewNumber s) (ok_is (n, record s { slots = set s.slots n slot }) x h)
    (record {
      after = record {
        sound = record { size = length-set s.slots n slot ∙ size; own = sound.own; further = sound.further };
        held = λ v held. held_set s.slots n v slot size within full held;
        further = refl;
      };
      held = record { within = within; taken = ap is_vacant (get_or-set_same s.slots n slot Vacant long) ∙ full };
      vacant = found.1;
    })

pub filled_new : (slot : SlotForm) (s : NamingForm) (x : ℕ × NamingForm) → is_vacant slot ≡ false → IsSound s → filled slot s ≡ Ok x → IsNewNumber s x
unfolding filled
filled_new slot s x full sound h = filled_by (position is_vacant s.slots) slot s x refl full sound h

slot_by : (o : Option ℕ) (slot : SlotForm) (s : NamingForm) (x : ℕ × NamingForm) → position is_vacant s.slots ≡ o → filled_at o slot s ≡ Ok x → get_or x.1.slots x.0 Vacant ≡ slot
slot_by None slot s x at h = absurd (not_given TooManyVariables x h)
slot_by (Some n) slot s x at h =
    let found = position-Some is_vacant s.slots n Vacant at in
    subst (λ (y : ℕ × NamingForm). get_or y.1.slots y.0 Vacant ≡ slot) (ok_is (n, record s { slots = set s.slots n slot }) x h)
    (get_or-set_same s.slots n slot Vacant found.0)

filled_slot : (slot : SlotForm) (s : NamingForm) (x : ℕ × NamingForm) → filled slot s ≡ Ok x → get_or x.1.slots x.0 Vacant ≡ slot
unfolding filled
filled_slot slot s x h = slot_by (position is_vacant s.slots) slot s x refl h

pub named_full : (name : List ℕ) (slot : SlotForm) → is_named name slot ≡ true → is_vacant slot ≡ false
named_full name Vacant h = absurd (false≢true h)
named_full name Nameless h = refl
named_full name (Named word) h = refl

-- the name had this number, or it got a new one
pub record IsSighted (name : List ℕ) (s : NamingForm) (x : ℕ × NamingForm) : Type 0 where
  pub after : IsAfter s x.1
  pub held : IsHeld x.1.slots x.0
  pub named : is_named name (get_or x.1.slots x.0 Vacant) ≡ true
  pub seen : (number_of name s.slots ≡ Some x.0) ⊎ ((number_of name s.slots ≡ None) × (is_vacant (get_or s.slots x.0 Vacant) ≡ true))

pub after_itself : (s : NamingForm) → IsSound s → IsAfter s s
after_itself s sound = record { sound = sound; held = λ v held. held; further = refl }

sighted_by : (o : Option ℕ) (name : List ℕ) (s : NamingForm) (x : ℕ × NamingForm) → number_of name s.slots ≡ o → IsSound s → sighted_at o name s ≡ Ok x → IsSighted name s x
sighted_by None name s x at sound h =
    let new = filled_new (Named name) s x refl sound h in
    record {
      after = new.after;
      held = new.held;
      named = ap (is_named name) (filled_slot (Named name) s x h) ∙ (bytes_eq-Decides name name).1 refl;
      seen = inr (at, new.vacant);
    }
sighted_by (Some n) name s x at sound h =
    let found = position-Some (is_named name) s.slots n Vacant at in
    let size = sound.size in
    let within : n < 32 = omega (arith, found.0, size) in
    subst (IsSighted name s) (ok_is (n, s) x h)
    (record {
      after = after_itself s sound;
      held = record { within = within; taken = named_full name (get_or s.slots n Vacant) found.1 };
      named = found.1;
      seen = inl at;
    })

pub sighted_is : (name : List ℕ) (s : NamingForm) (x : ℕ × NamingForm) → IsSound s → sighted name s ≡ Ok x → IsSighted name s x
unfolding sighted
sighted_is name s x sound h = sighted_by (number_of name s.slots) name s x refl sound h

hidden_same_by : (name : List ℕ) (slot : SlotForm) (b : Bool) → is_named name slot ≡ b → is_vacant (cond b Nameless slot) ≡ is_vacant slot
hidden_same_by name slot true h = sym (named_full name slot h)
hidden_same_by name slot false h = refl

hidden_same : (name : List ℕ) (slots : List SlotForm) (v : ℕ) → is_vacant (get_or (hidden name slots) v Vacant) ≡ is_vacant (get_or slots v Vacant)
hidden_same name [] v = refl
hidden_same name (slot ∷ slots) zero = hidden_same_by name slot (is_named name slot) refl
hidden_same name (slot ∷ slots) (suc v) = hidden_same name slots v

pub declared_new : (name : List ℕ) (s : NamingForm) (x : ℕ × NamingForm) → IsSound s → declared name s ≡ Ok x → IsNewNumber s x
unfolding declared
declared_new name s x sound h =
    let t : NamingForm = record s { slots = hidden name s.slots } in
    let fine : IsSound t = record { size = length-map s.slots (hidden_slot name) ∙ sound.size; own = sound.own; further = sound.further } in
    let new = filled_new (Named name) t x refl fine h in
    record {
      after = record {
        sound = new.after.sound;
        held = λ v held. new.after.held v (record { within = held.within; taken = hidden_same name s.slots v ∙ held.taken });
        further = new.after.further;
      };
      held = new.held;
      vacant = sym (hidden_same name s.slots x.0) ∙ new.vacant;
    }

pub after_then : (s t u : NamingForm) → IsAfter s t → IsAfter t u → IsAfter s u
after_then s t u a b = record { sound = b.sound; held = λ v held. b.held v (a.held v held); further = b.further ∙ a.further }

-- the slot has at most one name
pub named_same : (left right : List ℕ) (slot : SlotForm) → is_named left slot ≡ true → is_named right slot ≡ true → bytes_eq left right ≡ true
named_same left right Vacant a b = absurd (false≢true a)
named_same left right Nameless a b = absurd (false≢true a)
named_same left right (Named word) a b =
    (bytes_eq-Decides left right).1 ((bytes_eq-Decides left word).0 a ∙ sym ((bytes_eq-Decides right word).0 b))

-- two different numbers, held in the end
pub record AreNew (s : NamingForm) (v w : ℕ) (t : NamingForm) : Type 0 where
  pub after : IsAfter s t
  pub left : IsHeld t.slots v
  pub right : IsHeld t.slots w
  pub differ : v ≢ w

two_new : (s : NamingForm) (x y : ℕ × NamingForm) → IsNewNumber s x → IsNewNumber x.1 y → AreNew s x.0 y.0 y.1
two_new s x y a b = record {
  after = after_then s x.1 y.1 a.after b.after;
  left = b.after.held x.0 a.held;
  right = b.held;
  differ = not_held x.1.slots x.0 y.0 a.held b.vacant;
}

pub record AreDeclared (s : NamingForm) (names : List (List ℕ)) (x : List ℕ × NamingForm) : Type 0 where
  pub after : IsAfter s x.1
  pub count : length x.0 ≡ length names
  pub held : (k d : ℕ) → k < length x.0 → IsHeld x.1.slots (get_or x.0 k d)
  pub differ : (i j d : ℕ) → i < j → j < length x.0 → get_or x.0 i d ≢ get_or x.0 j d

one_held : (slots : List SlotForm) (v : ℕ) → IsHeld slots v → (k d : ℕ) → k < 1 → IsHeld slots (get_or (v ∷ []) k d)
one_held slots v held zero d lt = held
one_held slots v held (suc k) d lt = absurd (omega arith)

two_held : (slots : List SlotForm) (v w : ℕ) → IsHeld slots v → IsHeld slots w → (k d : ℕ) → k < 2 → IsHeld slots (get_or (v ∷ w ∷ []) k d)
two_held slots v w a b zero d lt = a
two_held slots v w a b (suc zero) d lt = b
two_held slots v w a b (suc (suc k)) d lt = absurd (omega arith)

two_differ : (v w : ℕ) → v ≢ w → (i j d : ℕ) → i < j → j < 2 → get_or (v ∷ w ∷ []) i d ≢ get_or (v ∷ w ∷ []) j d
two_differ v w ne i zero d below lt = absurd (omega arith)
two_differ v w ne zero (suc zero) d below lt = ne
two_differ v w ne (suc i) (suc zero) d below lt = absurd (omega arith)
two_differ v w ne i (suc (suc j)) d below lt = absurd (omega arith)

pub declared_are : (names : List (List ℕ)) (s : NamingForm) (x : List ℕ × NamingForm) → IsSound s → declared_all names s ≡ Ok x → AreDeclared s names x
unfolding two_declared
declared_are [] s x sound h =
    subst (AreDeclared s []) (ok_is ([], s) x h)
    (record { after = after_itself s sound; count = refl; held = λ k d lt. absurd (omega arith); differ = λ i j d below lt. absurd (omega arith) })
declared_are (v ∷ []) s x sound h =
    let a = went (declared v s) (λ y. Ok (y.0 ∷ [], y.1)) x h in
    let new = declared_new v s a.x sound a.gave in
    subst (AreDeclared s (v ∷ [])) (ok_is (a.x.0 ∷ [], a.x.1) x a.rest)
    (record { after = new.after; count = refl; held = λ k d lt. one_held a.x.1.slots a.x.0 new.held k d lt; differ = λ i j d below lt. absurd (omega arith) })
declared_are (v ∷ w ∷ []) s x sound h =
    let a = went (declared v s) (λ y. declared w y.1 >>= λ z. Ok (y.0 ∷ z.0 ∷ [], z.1)) x h in
    let b = went (declared w a.x.1) (λ z. Ok (a.x.0 ∷ z.0 ∷ [], z.1)) x a.rest in
    let left = declared_new v s a.x sound a.gave in
    let right = declared_new w a.x.1 b.x left.after.sound b.gave in
    let two = two_new s a.x b.x left right in
    subst (AreDeclared s (v ∷ w ∷ [])) (ok_is (a.x.0 ∷ b.x.0 ∷ [], b.x.1) x b.rest)
    (record {
      after = two.after;
      count = refl;
      held = λ k d lt. two_held b.x.1.slots a.x.0 b.x.0 two.left two.right k d lt;
      differ = λ i j d below lt. two_differ a.x.0 b.x.0 two.differ i j d below lt;
    })
declared_are (v ∷ w ∷ z ∷ more) s x sound h = absurd (not_given ArityTooLarge x h)

-- the own variables of `p*` and `p+`
pub record IsOwnPair (s : NamingForm) (x : (ℕ × ℕ) × NamingForm) : Type 0 where
  pub after : IsAfter s x.1
  pub own : AreOwn x.0.0 x.0.1

two_more_own : (s : NamingForm) (x : (ℕ × ℕ) × NamingForm) → IsSound s → two_more s ≡ Ok x → IsOwnPair s x
unfolding two_more
two_more_own s x sound h =
    let a = went (filled Nameless s) (λ y. filled Nameless y.1 >>= λ z. Ok ((y.0, z.0), record z.1 { own = Some (y.0, z.0) })) x h in
    let b = went (filled Nameless a.x.1) (λ z. Ok ((a.x.0, z.0), record z.1 { own = Some (a.x.0, z.0) })) x a.rest in
    let left = filled_new Nameless s a.x refl sound a.gave in
    let right = filled_new Nameless a.x.1 b.x refl left.after.sound b.gave in
    let two = two_new s a.x b.x left right in
    let fine = two.after.sound in
    let differ : AreOwn a.x.0 b.x.0 = record { left = two.left.within; right = two.right.within; differ = two.differ } in
    subst (IsOwnPair s) (ok_is ((a.x.0, b.x.0), record b.x.1 { own = Some (a.x.0, b.x.0) }) x b.rest)
    (record {
      after = record {
        sound = record {
          size = fine.size;
          own = λ pair e. subst (λ (q : ℕ × ℕ). AreOwn q.0 q.1) (some_is (a.x.0, b.x.0) pair e) differ;
          further = fine.further;
        };
        held = two.after.held;
        further = two.after.further;
      };
      own = differ;
    })

own_by : (o : Option (ℕ × ℕ)) (s : NamingForm) (x : (ℕ × ℕ) × NamingForm) → s.own ≡ o → IsSound s → own_at o s ≡ Ok x → IsOwnPair s x
own_by None s x at sound h = two_more_own s x sound h
own_by (Some pair) s x at sound h =
    subst (IsOwnPair s) (ok_is (pair, s) x h) (record { after = after_itself s sound; own = sound.own pair at })

pub own_pair_is : (s : NamingForm) (x : (ℕ × ℕ) × NamingForm) → IsSound s → own_pair s ≡ Ok x → IsOwnPair s x
unfolding own_pair
own_pair_is s x sound h = own_by s.own s x refl sound h

pub no_names_sound : IsSound no_names
no_names_sound = record { size = refl; own = λ pair e. absurd (not_none pair e); further = λ v e. absurd (not_none v e) }
