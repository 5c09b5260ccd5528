-- Occurrences of variables: each is allowed where it stands.
use Rattle.std.proofs.Common.{◌≡◌, ℕ, ◌<◌, Bool, true, false, get_or, List, refl, ap, sym, subst, ◌∙◌, inl}
use Rattle.std.proofs.Common.{inr, ◌⊎◌, Ok, Err, Option, Some, None, cond}
use Rattle.std.proofs.lemmas.Bool.{cases_Bool, eqb-true, true≢false, false≢true}
use Rattle.tv_model.specs.Program.{ProgramForm}
use Rattle.tv_model.specs.Valid.{IsVariable}
use Rattle.tv_names.specs.declared.place.Others.{Others}
use Rattle.tv_names.specs.declared.place.Others.TheVariants.{Any, Never, Once}
use Rattle.tv_names.specs.declared.refusal.ResolveError.TheVariants.{VariableUnbound}
use Rattle.tv_names.specs.Refusal.{◌>>=◌}
use Rattle.tv_names.specs.Naming.{NamingForm, number_of, sighted}
use Rattle.tv_names.specs.Resolving.{PlaceForm, is_known_at, is_the_further, noted, other_variable}
use Rattle.tv_names.specs.Resolving.{occurrence, two_occurrences}
use Rattle.tv_vocab.proofs.valid.Refusals.{ok_is, some_is, not_none, not_given, went}
use Rattle.tv_vocab.proofs.valid.Numbers.{IsHeld, IsSighted, sighted_is}
use Rattle.tv_vocab.proofs.valid.Parts.{Stands, IsPart, IsAllowed, AsKnown, AsAny, AsFurther, Gives}
use Rattle.tv_vocab.proofs.valid.Parts.{part_after, both, stands_then}

-- a lone variable
abbrev pub GivesOne : PlaceForm → NamingForm → ℕ × NamingForm → Type 0
GivesOne at s x = Gives at s x.1 (IsVariable x.0) ⊥ (λ w. w ≡ x.0)

pub one_given : (at : PlaceForm) (s : NamingForm) (x : ℕ × NamingForm) → IsPart at s x.1 → IsAllowed at x.1 x.0 → IsHeld x.1.slots x.0 → GivesOne at s x
one_given at s x part allowed held = record {
  part = part;
  formed = held.within;
  new = λ h. absurd h;
  free = λ w same. record { allowed = subst (IsAllowed at x.1) (sym same) allowed; held = subst (IsHeld x.1.slots) (sym same) held };
}

-- a number that was seen is the one that is given
known_number : (known : List Bool) (o : Option ℕ) (v : ℕ) → is_known_at known o ≡ true → (o ≡ Some v) ⊎ (o ≡ None) → get_or known v false ≡ true
known_number known None v h seen = absurd (false≢true h)
known_number known (Some n) v h (inl e) = ap (λ (m : ℕ). get_or known m false) (sym (some_is n v e)) ∙ h
known_number known (Some n) v h (inr e) = absurd (not_none n (sym e))

seen_or_not : (name : List ℕ) (s : NamingForm) (x : ℕ × NamingForm) → IsSighted name s x → (number_of name s.slots ≡ Some x.0) ⊎ (number_of name s.slots ≡ None)
seen_or_not name s x sight = elim sight.seen [ inl e ↦ inl e | inr h ↦ inr h.0 ]

not_known_number : (known : List Bool) (o : Option ℕ) (v : ℕ) → is_known_at known o ≡ false → o ≡ Some v → get_or known v false ≡ false
not_known_number known None v h e = absurd (not_none v e)
not_known_number known (Some n) v h e = ap (λ (m : ℕ). get_or known m false) (sym (some_is n v e)) ∙ h

further_number : (m : ℕ) (o : Option ℕ) (v : ℕ) → is_the_further (Some m) o ≡ true → (o ≡ Some v) ⊎ (o ≡ None) → v ≡ m
further_number m None v h seen = absurd (false≢true h)
further_number m (Some n) v h (inl e) = sym (some_is n v e) ∙ sym (eqb-true m n h)
further_number m (Some n) v h (inr e) = absurd (not_none n (sym e))

module _ (p : ProgramForm) (at : PlaceForm) (name : List ℕ) (s : NamingForm) (st : Stands p at s) where
  -- a variable that isn't known has a number that isn't known
  unknown : (x : ℕ × NamingForm) → is_known_at at.known (number_of name s.slots) ≡ false → IsSighted name s x → get_or at.known x.0 false ≡ false
  unknown x no' sight =
      elim sight.seen [
        | inl e ↦ not_known_number at.known (number_of name s.slots) x.0 no' e
        | inr h ↦
            elim (cases_Bool (get_or at.known x.0 false)) [
              | inl yes' ↦ absurd (true≢false (sym h.1 ∙ (st.known x.0 yes').taken))
              | inr fine ↦ fine
            ]
      ]

  noted_given : (y : ℕ × NamingForm) → at.others ≡ Once → is_known_at at.known (number_of name s.slots) ≡ false → is_the_further s.further (number_of name s.slots) ≡ true → IsSighted name s y → GivesOne at s (noted y)
  noted_given y once no' the sight =
      let fine = sight.after.sound in
      one_given at s (noted y)
      (record {
        sound = record { size = fine.size; own = fine.own; further = λ v e. subst (λ (u : ℕ). u < 32) (some_is y.0 v e) sight.held.within };
        held = sight.after.held;
        further = λ v e. ap Some (further_number v (number_of name s.slots) y.0 (ap (λ (o : Option ℕ). is_the_further o (number_of name s.slots)) (sym e) ∙ the) (seen_or_not name s y sight));
        new_further = λ v e. inr (subst (λ (u : ℕ). get_or at.known u false ≡ false) (some_is y.0 v e) (unknown y no' sight));
      })
      (AsFurther once refl)
      sight.held

  once_given : (b : Bool) (x : ℕ × NamingForm) → at.others ≡ Once → is_known_at at.known (number_of name s.slots) ≡ false → is_the_further s.further (number_of name s.slots) ≡ b → cond b (sighted name s >>= λ y. Ok (noted y)) (Err VariableUnbound) ≡ Ok x → GivesOne at s x
  once_given true x once no' the h =
      let a = went (sighted name s) (λ y. Ok (noted y)) x h in
      subst (GivesOne at s) (ok_is (noted a.x) x a.rest) (noted_given a.x once no' the (sighted_is name s a.x st.sound a.gave))
  once_given false x once no' the h = absurd (not_given VariableUnbound x h)

  other_given : (o : Others) (x : ℕ × NamingForm) → at.others ≡ o → is_known_at at.known (number_of name s.slots) ≡ false → other_variable o name s ≡ Ok x → GivesOne at s x
  other_given Any x is no' h =
      let sight = sighted_is name s x st.sound h in
      one_given at s x (part_after at s x.1 sight.after) (AsAny is) sight.held
  other_given Never x is no' h = absurd (not_given VariableUnbound x h)
  other_given Once x is no' h = once_given (is_the_further s.further (number_of name s.slots)) x is no' refl h

  occurs_by : (b : Bool) (x : ℕ × NamingForm) → is_known_at at.known (number_of name s.slots) ≡ b → cond b (sighted name s) (other_variable at.others name s) ≡ Ok x → GivesOne at s x
  occurs_by true x yes' h =
      let sight = sighted_is name s x st.sound h in
      one_given at s x (part_after at s x.1 sight.after)
      (AsKnown (known_number at.known (number_of name s.slots) x.0 yes' (seen_or_not name s x sight)))
      sight.held
  occurs_by false x no' h = other_given at.others x refl no' h

  pub occurrence_given : (x : ℕ × NamingForm) → occurrence at name s ≡ Ok x → GivesOne at s x
  unfolding occurrence
  occurrence_given x h = occurs_by (is_known_at at.known (number_of name s.slots)) x refl h

-- two variables, one behind the other
abbrev pub GivesTwo : PlaceForm → NamingForm → (ℕ × ℕ) × NamingForm → Type 0
GivesTwo at s x = Gives at s x.1 (IsVariable x.0.0 × IsVariable x.0.1) (⊥ ⊎ ⊥) (λ w. (w ≡ x.0.0) ⊎ (w ≡ x.0.1))

pub two_given : (p : ProgramForm) (at : PlaceForm) (v w : List ℕ) (s : NamingForm) (x : (ℕ × ℕ) × NamingForm) → Stands p at s → two_occurrences at v w s ≡ Ok x → GivesTwo at s x
unfolding two_occurrences
two_given p at v w s x st h =
    let a = went (occurrence at v s) (λ y. occurrence at w y.1 >>= λ z. Ok ((y.0, z.0), z.1)) x h in
    let b = went (occurrence at w a.x.1) (λ z. Ok ((a.x.0, z.0), z.1)) x a.rest in
    let left = occurrence_given p at v s st a.x a.gave in
    let right = occurrence_given p at w a.x.1 (stands_then p at s a.x.1 st left.part) b.x b.gave in
    subst (GivesTwo at s) (ok_is ((a.x.0, b.x.0), b.x.1) x b.rest) (both at s a.x.1 b.x.1 left right)
