-- What noting members does.
use Rattle.std.proofs.Common.{ℕ, zero, suc, ◌≡◌, ◌≢◌, ◌⊎◌, ◌∙◌, ◌++◌, List, [], ◌∷◌, length, Bool, true}
use Rattle.std.proofs.Common.{false}
use Rattle.std.proofs.Common.{Option, Some, slice_get, slice_set, slice_index_or, refl, sym, ap, subst, inl}
use Rattle.std.proofs.Common.{inr, ⊎_elim, arith}
use Rattle.std.proofs.Common.{◌↔◌, ◌≤◌}
use Rattle.std.proofs.lemmas.Bool.{cases_eq}
use Rattle.std.proofs.lemmas.List.{length-set}
pub use Rattle.std.proofs.lemmas.Result.{on_ok_weaker as on-ok}
use Rattle.tv_lemmas.proofs.Lists.{still_at, pushed_there}
use Rattle.tv_model.specs.Form.{Form, FAnd, FOr, FIff, FCond}
use Rattle.tv_model.specs.Program.{HeadForm, HNever, HAtom, HSame}
use Rattle.tv_coerce_moves.specs.declared.list.Member.{Member}
use Rattle.tv_coerce_moves.specs.declared.list.Occurrence.{Occurrence}
use Rattle.tv_coerce_moves.specs.Moves.{IsEquality, IsHeadOf, MayMove, MayTell, Shows, Turns}
use Rattle.tv_coerce_moves.specs.Occurrences.{AreNoted, HasMember, IsAmong, IsListed, IsNoted, KeepsMembers}
use Rattle.tv_coerce_moves.specs.Occurrences.{OccurrenceLists, list_for, lists_of}

-- ---- one list

set-here : {X : Type 0} (xs : List X) (k : ℕ) (x y : X) → slice_get xs k ≡ Some x → slice_get (slice_set xs k y) k ≡ Some y
set-here [] k x y at = absurd (cc at)
set-here (z ∷ xs) zero x y at = refl
set-here (z ∷ xs) (suc k) x y at = set-here xs k x y at

set-there : {X : Type 0} (xs : List X) (k j : ℕ) (y : X) → j ≢ k → slice_get (slice_set xs k y) j ≡ slice_get xs j
set-there [] k j y ne = refl
set-there (z ∷ xs) zero zero y ne = absurd (ne refl)
set-there (z ∷ xs) zero (suc j) y ne = refl
set-there (z ∷ xs) (suc k) zero y ne = refl
set-there (z ∷ xs) (suc k) (suc j) y ne = set-there xs k j y (λ e. ne (ap suc e))

-- a occurrence gets one place more
pub noted-widened : (member : Member) (old : List Occurrence) (k : ℕ) (m new : Occurrence) → slice_get old k ≡ Some m
    → m.rule ≡ member.rule → new.rule ≡ m.rule → ((place : Option ℕ) → IsAmong place m.moving → IsAmong place new.moving)
    → IsAmong member.place new.moving → IsNoted member old (slice_set old k new)
noted-widened member old k m new at rule same wider there = record {
  kept = λ other has. kept other has (cases_eq has.at k);
  there = record {
    at = k;
    occurrence = new;
    there = set-here old k m new at;
    rule = same ∙ rule;
    among = there;
  };
}
  where
    kept : (other : Member) (has : HasMember other old) → (has.at ≡ k) ⊎ (has.at ≢ k) → HasMember other (slice_set old k new)
    kept other has (inl e) =
        let found : slice_get old k ≡ Some has.occurrence = subst (λ j. slice_get old j ≡ Some has.occurrence) e has.there
        in let is : has.occurrence ≡ m = cc (found, at)
        in record {
          at = k;
          occurrence = new;
          there = set-here old k m new at;
          rule = same ∙ ap (λ (x : Occurrence). x.rule) (sym is) ∙ has.rule;
          among = wider other.place (subst (λ (x : Occurrence). IsAmong other.place x.moving) is has.among);
        }
    kept other has (inr ne) = record {
      at = has.at;
      occurrence = has.occurrence;
      there = set-there old k has.at new ne ∙ has.there;
      rule = has.rule;
      among = has.among;
    }

pub noted-pushed : (member : Member) (old : List Occurrence) (new : Occurrence) → new.rule ≡ member.rule → IsAmong member.place new.moving
    → IsNoted member old (old ++ new ∷ [])
noted-pushed member old new rule among = record {
  kept = λ other has. record {
    at = has.at;
    occurrence = has.occurrence;
    there = still_at old (new ∷ []) has.at has.occurrence has.there;
    rule = has.rule;
    among = has.among;
  };
  there = record { at = length old; occurrence = new; there = pushed_there old new; rule = rule; among = among };
}

-- ---- a list for each predicate

set-list : (lists : List (List Occurrence)) (p : ℕ) (old new : List Occurrence) → slice_get lists p ≡ Some old
    → ((m : Member) → HasMember m old → HasMember m new) → (q : ℕ) (m : Member) → HasMember m (slice_index_or lists q [])
    → HasMember m (slice_index_or (slice_set lists p new) q [])
set-list [] p old new at more q m has = absurd (cc at)
set-list (l ∷ lists) zero old new at more zero m has =
    let is : l ≡ old = cc at in more m (subst (HasMember m) is has)
set-list (l ∷ lists) zero old new at more (suc q) m has = has
set-list (l ∷ lists) (suc p) old new at more zero m has = has
set-list (l ∷ lists) (suc p) old new at more (suc q) m has = set-list lists p old new at more q m has

set-own : (lists : List (List Occurrence)) (p : ℕ) (old new : List Occurrence) → slice_get lists p ≡ Some old
    → slice_index_or (slice_set lists p new) p [] ≡ new
set-own [] p old new at = absurd (cc at)
set-own (l ∷ lists) zero old new at = refl
set-own (l ∷ lists) (suc p) old new at = set-own lists p old new at

pub noted-yes : (p : ℕ) (member : Member) (to_yes to_no : List (List Occurrence)) (ordinary old new : List Occurrence)
    → slice_get to_yes p ≡ Some old → IsNoted member old new
    → AreNoted (λ head. Turns head true p) member (lists_of to_yes to_no ordinary) (lists_of (slice_set to_yes p new) to_no ordinary)
noted-yes p member to_yes to_no ordinary old new at noted = record {
  kept = record { members = kept; listed = listed };
  there = there;
}
  where
    kept : (head : HeadForm) (m : Member) → HasMember m (list_for (lists_of to_yes to_no ordinary) head)
        → HasMember m (list_for (lists_of (slice_set to_yes p new) to_no ordinary) head)
    kept HNever m has = has
    kept (HAtom true q vars) m has = set-list to_yes p old new at noted.kept q m has
    kept (HAtom false q vars) m has = has
    kept (HSame flag v w) m has = has

    listed : (head : HeadForm) → IsListed head (lists_of to_yes to_no ordinary)
        ↔ IsListed head (lists_of (slice_set to_yes p new) to_no ordinary)
    listed HNever = (λ is. is, λ is. is)
    listed (HAtom true q vars) = (λ is. omega (arith, is, length-set to_yes p new), λ is. omega (arith, is, length-set to_yes p new))
    listed (HAtom false q vars) = (λ is. is, λ is. is)
    listed (HSame flag v w) = (λ is. is, λ is. is)

    there : (head : HeadForm) → IsListed head (lists_of to_yes to_no ordinary) → Turns head true p
        → HasMember member (list_for (lists_of (slice_set to_yes p new) to_no ordinary) head)
    there HNever is turns = absurd turns
    there (HAtom true q vars) is turns =
        subst (λ k. HasMember member (slice_index_or (slice_set to_yes p new) k [])) turns.0
        (subst (HasMember member) (sym (set-own to_yes p old new at)) noted.there)
    there (HAtom false q vars) is turns = absurd (cc turns.1)
    there (HSame flag v w) is turns = absurd turns

-- a predicate without a list isn't one whose changes have one
pub unlisted-yes : (p : ℕ) (member : Member) (to_yes to_no : List (List Occurrence)) (ordinary : List Occurrence) → length to_yes ≤ p
    → AreNoted (λ head. Turns head true p) member (lists_of to_yes to_no ordinary) (lists_of to_yes to_no ordinary)
unlisted-yes p member to_yes to_no ordinary past = record {
  kept = record { members = λ head m has. has; listed = λ head. (λ is. is, λ is. is) };
  there = there;
}
  where
    there : (head : HeadForm) → IsListed head (lists_of to_yes to_no ordinary) → Turns head true p
        → HasMember member (list_for (lists_of to_yes to_no ordinary) head)
    there HNever is turns = absurd turns
    there (HAtom true q vars) is turns = absurd (omega (arith, is, past, turns.0))
    there (HAtom false q vars) is turns = absurd (cc turns.1)
    there (HSame flag v w) is turns = absurd turns

pub noted-no : (p : ℕ) (member : Member) (to_yes to_no : List (List Occurrence)) (ordinary old new : List Occurrence)
    → slice_get to_no p ≡ Some old → IsNoted member old new
    → AreNoted (λ head. Turns head false p) member (lists_of to_yes to_no ordinary) (lists_of to_yes (slice_set to_no p new) ordinary)
noted-no p member to_yes to_no ordinary old new at noted = record {
  kept = record { members = kept; listed = listed };
  there = there;
}
  where
    kept : (head : HeadForm) (m : Member) → HasMember m (list_for (lists_of to_yes to_no ordinary) head)
        → HasMember m (list_for (lists_of to_yes (slice_set to_no p new) ordinary) head)
    kept HNever m has = has
    kept (HAtom true q vars) m has = has
    kept (HAtom false q vars) m has = set-list to_no p old new at noted.kept q m has
    kept (HSame flag v w) m has = has

    listed : (head : HeadForm) → IsListed head (lists_of to_yes to_no ordinary)
        ↔ IsListed head (lists_of to_yes (slice_set to_no p new) ordinary)
    listed HNever = (λ is. is, λ is. is)
    listed (HAtom true q vars) = (λ is. is, λ is. is)
    listed (HAtom false q vars) = (λ is. omega (arith, is, length-set to_no p new), λ is. omega (arith, is, length-set to_no p new))
    listed (HSame flag v w) = (λ is. is, λ is. is)

    there : (head : HeadForm) → IsListed head (lists_of to_yes to_no ordinary) → Turns head false p
        → HasMember member (list_for (lists_of to_yes (slice_set to_no p new) ordinary) head)
    there HNever is turns = absurd turns
    there (HAtom true q vars) is turns = absurd (cc turns.1)
    there (HAtom false q vars) is turns =
        subst (λ k. HasMember member (slice_index_or (slice_set to_no p new) k [])) turns.0
        (subst (HasMember member) (sym (set-own to_no p old new at)) noted.there)
    there (HSame flag v w) is turns = absurd turns

pub unlisted-no : (p : ℕ) (member : Member) (to_yes to_no : List (List Occurrence)) (ordinary : List Occurrence) → length to_no ≤ p
    → AreNoted (λ head. Turns head false p) member (lists_of to_yes to_no ordinary) (lists_of to_yes to_no ordinary)
unlisted-no p member to_yes to_no ordinary past = record {
  kept = record { members = λ head m has. has; listed = λ head. (λ is. is, λ is. is) };
  there = there;
}
  where
    there : (head : HeadForm) → IsListed head (lists_of to_yes to_no ordinary) → Turns head false p
        → HasMember member (list_for (lists_of to_yes to_no ordinary) head)
    there HNever is turns = absurd turns
    there (HAtom true q vars) is turns = absurd (cc turns.1)
    there (HAtom false q vars) is turns = absurd (omega (arith, is, past, turns.0))
    there (HSame flag v w) is turns = absurd turns

pub noted-ordinary : (member : Member) (to_yes to_no : List (List Occurrence)) (old new : List Occurrence) → IsNoted member old new
    → AreNoted IsEquality member (lists_of to_yes to_no old) (lists_of to_yes to_no new)
noted-ordinary member to_yes to_no old new noted = record {
  kept = record { members = kept; listed = listed };
  there = there;
}
  where
    kept : (head : HeadForm) (m : Member) → HasMember m (list_for (lists_of to_yes to_no old) head)
        → HasMember m (list_for (lists_of to_yes to_no new) head)
    kept HNever m has = has
    kept (HAtom true q vars) m has = has
    kept (HAtom false q vars) m has = has
    kept (HSame flag v w) m has = noted.kept m has

    listed : (head : HeadForm) → IsListed head (lists_of to_yes to_no old) ↔ IsListed head (lists_of to_yes to_no new)
    listed HNever = (λ is. is, λ is. is)
    listed (HAtom true q vars) = (λ is. is, λ is. is)
    listed (HAtom false q vars) = (λ is. is, λ is. is)
    listed (HSame flag v w) = (λ is. is, λ is. is)

    there : (head : HeadForm) → IsListed head (lists_of to_yes to_no old) → IsEquality head
        → HasMember member (list_for (lists_of to_yes to_no new) head)
    there HNever is same = absurd same
    there (HAtom flag q vars) is same = absurd same
    there (HSame flag v w) is same = noted.there

-- ---- several notes

pub keeps-all : (lists : OccurrenceLists) → KeepsMembers lists lists
keeps-all lists = record { members = λ head m has. has; listed = λ head. (λ is. is, λ is. is) }

pub keeps-both : (old mid new : OccurrenceLists) → KeepsMembers old mid → KeepsMembers mid new → KeepsMembers old new
keeps-both old mid new first second = record {
  members = λ head m has. second.members head m (first.members head m has);
  listed = λ head. (
    λ is. (second.listed head).0 ((first.listed head).0 is),
    λ is. (first.listed head).1 ((second.listed head).1 is),
  );
}

pub noted-both : (A B C : HeadForm → Type 0) (member : Member) (old mid new : OccurrenceLists) → ((head : HeadForm) → C head → A head ⊎ B head)
    → AreNoted A member old mid → AreNoted B member mid new → AreNoted C member old new
noted-both A B C member old mid new either first second = record {
  kept = keeps-both old mid new first.kept second.kept;
  there = λ head is such. ⊎_elim
      (λ a. second.kept.members head member (first.there head is a))
      (λ b. second.there head ((first.kept.listed head).0 is) b)
      (either head such);
}

pub noted-fewer : (A B : HeadForm → Type 0) (member : Member) (old new : OccurrenceLists) → ((head : HeadForm) → B head → A head)
    → AreNoted A member old new → AreNoted B member old new
noted-fewer A B member old new fewer noted = record {
  kept = noted.kept;
  there = λ head is such. noted.there head is (fewer head such);
}

-- ---- formulas

shown-and : (head : HeadForm) (f g : Form) → Shows head (FAnd f g) → Shows head f ⊎ Shows head g
shown-and HNever f g k = absurd k
shown-and (HAtom flag pred vars) f g k = k
shown-and (HSame flag v w) f g k = k

shown-or : (head : HeadForm) (f g : Form) → Shows head (FOr f g) → Shows head f ⊎ Shows head g
shown-or HNever f g k = absurd k
shown-or (HAtom flag pred vars) f g k = k
shown-or (HSame flag v w) f g k = k

shown-iff : (head : HeadForm) (f g : Form) → Shows head (FIff f g) → Shows head f ⊎ Shows head g
shown-iff HNever f g k = absurd k
shown-iff (HAtom flag pred vars) f g k = k
shown-iff (HSame flag v w) f g k = k

shown-cond : (head : HeadForm) (c f g : Form) → Shows head (FCond c f g) → (Shows head c ⊎ Shows head f) ⊎ Shows head g
shown-cond HNever c f g k = absurd k
shown-cond (HAtom flag pred vars) c f g k = ⊎_elim (λ l. inl (inl l)) (⊎_elim (λ l. inl (inr l)) (λ r. inr r)) k
shown-cond (HSame flag v w) c f g k = ⊎_elim (λ l. inl (inl l)) (⊎_elim (λ l. inl (inr l)) (λ r. inr r)) k

pub shown-two : (f g h : Form) → (f ≡ FAnd g h) ⊎ ((f ≡ FOr g h) ⊎ (f ≡ FIff g h)) → (head : HeadForm) → Shows head f
    → Shows head g ⊎ Shows head h
shown-two f g h is head k =
    ⊎_elim (λ e. shown-and head g h (subst (Shows head) e k))
    (⊎_elim (λ e. shown-or head g h (subst (Shows head) e k)) (λ e. shown-iff head g h (subst (Shows head) e k))) is

pub shown-three : (f c g h : Form) → f ≡ FCond c g h → (head : HeadForm) → Shows head f → (Shows head c ⊎ Shows head g) ⊎ Shows head h
shown-three f c g h is head k = shown-cond head c g h (subst (Shows head) is k)

pub moved-two : (up : Bool) (f g h : Form) → (f ≡ FAnd g h) ⊎ (f ≡ FOr g h) → (head : HeadForm) → MayMove head up f
    → MayMove head up g ⊎ MayMove head up h
moved-two up f g h is head k = ⊎_elim (λ e. subst (MayMove head up) e k) (λ e. subst (MayMove head up) e k) is

pub moved-alike : (up : Bool) (f g h : Form) → f ≡ FIff g h → (head : HeadForm) → MayMove head up f → Shows head g ⊎ Shows head h
moved-alike up f g h is head k = subst (MayMove head up) is k

pub moved-three : (up : Bool) (f c g h : Form) → f ≡ FCond c g h → (head : HeadForm) → MayMove head up f
    → (Shows head c ⊎ MayMove head up g) ⊎ MayMove head up h
moved-three up f c g h is head k =
    ⊎_elim (λ l. inl (inl l)) (⊎_elim (λ l. inl (inr l)) (λ r. inr r)) (subst (MayMove head up) is k)

-- what may make a head known
pub told-atom : (head : HeadForm) (flag : Bool) (p : ℕ) (vars : List ℕ) → head ≡ HAtom flag p vars → (change : HeadForm)
    → MayTell head change → (IsEquality change ⊎ Turns change true p) ⊎ Turns change false p
told-atom head flag p vars is HNever k = absurd k
told-atom head flag p vars is (HAtom true q us) k = inl (inr (sym (subst (IsHeadOf q) is k), refl))
told-atom head flag p vars is (HAtom false q us) k = inr (sym (subst (IsHeadOf q) is k), refl)
told-atom head flag p vars is (HSame other v w) k = inl (inl tt)

-- the parts of a formula, read through their boxes
pub same-parts : (F : Form → Form → Form) (f g h g' h' : Form) → f ≡ F g h → g' ≡ g → h' ≡ h → f ≡ F g' h'
same-parts F f g h g' h' is same other = is ∙ ap (λ x. F x h) (sym same) ∙ ap (F g') (sym other)
