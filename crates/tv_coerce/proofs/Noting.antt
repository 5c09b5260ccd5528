-- What is told where all variables have individuals.
use Rattle.std.proofs.Common.{ℕ, ◌≡◌, ◌≢◌, ◌⊎◌, ◌∙◌, inl, inr, true, false, List, [], Option, Some}
use Rattle.std.proofs.Common.{slice_get, refl, sym, ap, subst}
use Rattle.std.proofs.lemmas.Bool.{cases_eq}
use Rattle.tv_kleene.specs.declared.K3.TheVariants.{Yes}
use Rattle.tv_model.specs.Program.{HeadForm, HNever, HAtom, HSame}
use Rattle.tv_model.proofs.Lists.{Contains-none}
use Rattle.tv_coerce_members.specs.Members.{MemberForm}
use Rattle.tv_eval.specs.AssignmentForm.{assignment_of}
use Rattle.tv_eval.specs.ScratchForm.{ScratchForm}
use Rattle.tv_eval_laws.specs.Value.{value}
use Rattle.tv_rules.specs.Closing.{negated_head}
use Rattle.tv_rules.specs.EntryForms.{rules_of}
use Rattle.tv_rules.specs.Kin.{IsKin, skip_of}
use Rattle.tv_stable_laws.specs.Stable.{IsHeadMet}
use Rattle.tv_structure_form.specs.StructureForm.{StructureForm, structure_of}
use Rattle.tv_coerce.specs.Counting.{IsSome, LacksTwo, members_in}
use Rattle.tv_coerce.specs.Lacking.{CanValue, CanValueOne, IsLacking, IsOnly}
use Rattle.tv_coerce.specs.Ready.{CanCoerce}
use Rattle.tv_coerce.specs.Trying.{ArePlaced, CanTry, IsNotedOf, IsTold, IsTrial, rule_at, trial_rule}
use Rattle.tv_coerce.specs.Walks.{AreMet}
use Rattle.tv_coerce.specs.declared.counting.Missing.TheVariants.{Nothing}
use Rattle.tv_coerce.specs.declared.noted.Queue.{Queue}
use Rattle.tv_coerce.specs.declared.trial.Outcome.{Outcome}
use Rattle.tv_coerce.specs.declared.trial.Trial.{Trial}
use Rattle.tv_coerce.proofs.Placing.{denied-unmet, form-back, idle-met, kin-back, member-fits, member-free}
use Rattle.tv_coerce.proofs.Placing.{member-over, other-yes}
use Rattle.tv_coerce.proofs.Placing.{others-yes, own-kin}
use Rattle.tv_coerce.proofs.Walking.{can-try-kin, noted-told}

-- a member can be valued in the structure that an evaluator is bound to
pub valued-bound : (s t : StructureForm) (room new : ScratchForm) (places : List (Option ℕ)) (m : MemberForm) → t ≡ s → new ≡ room
    → CanValueOne s room places m → CanValueOne t new places m
valued-bound s t room new places m same kept can =
    subst (λ x. CanValueOne x new places m) (sym same) (subst (λ r. CanValueOne s r places m) (sym kept) can)

module _ (trial : Trial) (is : IsTrial trial) where
  pub kin-placed : (places : List (Option ℕ)) (n : ℕ) → IsKin trial.closed.now trial.number n
      → ArePlaced trial.structure.now.size (trial_rule trial) [] places
      → ArePlaced trial.structure.now.size (rule_at trial.closed.now n) [] places
  kin-placed places n kin placed x free none = placed x (kin-back trial is n kin x free) none

  pub can-value : (room : ScratchForm) (places : List (Option ℕ)) → CanCoerce (rules_of trial.closed.now) trial.structure.now room
      → ArePlaced trial.structure.now.size (trial_rule trial) [] places → CanValue trial room places
  can-value room places ready placed k m there =
      let can : CanTry (trial_rule trial) trial.structure.now room = can-try-kin trial room trial.number (own-kin trial is) ready
      in record {
        formula = member-over trial is k m there room can;
        assigned = λ x free. placed x (member-free trial is k m there x free) (Contains-none x);
        fits = member-fits trial is k m there room can;
      }

-- heads that deny the same are the same
same-head : (h g : HeadForm) → negated_head h ≡ negated_head g → h ≡ g
same-head HNever HNever e = refl
same-head HNever (HAtom true q ws) e = absurd (cc e)
same-head HNever (HAtom false q ws) e = absurd (cc e)
same-head HNever (HSame true x y) e = absurd (cc e)
same-head HNever (HSame false x y) e = absurd (cc e)
same-head (HAtom true p vs) HNever e = absurd (cc e)
same-head (HAtom true p vs) (HAtom true q ws) e = cc e
same-head (HAtom true p vs) (HAtom false q ws) e = absurd (cc e)
same-head (HAtom true p vs) (HSame true x y) e = absurd (cc e)
same-head (HAtom true p vs) (HSame false x y) e = absurd (cc e)
same-head (HAtom false p vs) HNever e = absurd (cc e)
same-head (HAtom false p vs) (HAtom true q ws) e = absurd (cc e)
same-head (HAtom false p vs) (HAtom false q ws) e = cc e
same-head (HAtom false p vs) (HSame true x y) e = absurd (cc e)
same-head (HAtom false p vs) (HSame false x y) e = absurd (cc e)
same-head (HSame true v w) HNever e = absurd (cc e)
same-head (HSame true v w) (HAtom true q ws) e = absurd (cc e)
same-head (HSame true v w) (HAtom false q ws) e = absurd (cc e)
same-head (HSame true v w) (HSame true x y) e = cc e
same-head (HSame true v w) (HSame false x y) e = absurd (cc e)
same-head (HSame false v w) HNever e = absurd (cc e)
same-head (HSame false v w) (HAtom true q ws) e = absurd (cc e)
same-head (HSame false v w) (HAtom false q ws) e = absurd (cc e)
same-head (HSame false v w) (HSame true x y) e = absurd (cc e)
same-head (HSame false v w) (HSame false x y) e = cc e

module _ (trial : Trial) (is : IsTrial trial) (places : List (Option ℕ)) (room : ScratchForm)
    (ready : CanCoerce (rules_of trial.closed.now) trial.structure.now room)
    (placed : ArePlaced trial.structure.now.size (trial_rule trial) [] places) where
  -- all members are Yes: the head of no rule can be met
  pub told-all : IsLacking trial.structure.now (assignment_of places) (members_in trial) Nothing
      → (old new : Queue) (outcome : Outcome)
      → IsNotedOf trial.structure.now (assignment_of places) trial.number (trial_rule trial).head old new outcome
      → IsTold trial (AreMet trial (assignment_of places)) old new outcome
  told-all all old new outcome noted =
      noted-told trial trial.number (own-kin trial is) places (can-try-kin trial room trial.number (own-kin trial is) ready).plain placed
      (others-yes trial is trial.number (own-kin trial is) (assignment_of places) (λ j m there ne. all j m there))
      (AreMet trial (assignment_of places)) old new outcome
      (λ met. absurd (denied-unmet (structure_of trial.structure.now) (assignment_of places) (trial_rule trial).head denied met)) noted
    where
      denied : value (structure_of trial.structure.now) (assignment_of places) (negated_head (trial_rule trial).head) ≡ Yes
      denied =
          let found : (m : MemberForm) × (slice_get (members_in trial) (skip_of trial.closed.now trial.number) ≡ Some m)
          × (m.form ≡ negated_head (trial_rule trial).head)
          = form-back (members_in trial) (skip_of trial.closed.now trial.number) (negated_head (trial_rule trial).head)
          (is.kin trial.number (own-kin trial is)).but.denied
          in subst (λ f. value (structure_of trial.structure.now) (assignment_of places) f ≡ Yes) found.2
          (all (skip_of trial.closed.now trial.number) found.0 found.1)

  module _ (k : ℕ) (only : IsOnly trial.structure.now (assignment_of places) (members_in trial) k) where
    -- a rule whose head denies another member doesn't have its body Yes
    other-never : (n : ℕ) → IsKin trial.closed.now trial.number n → skip_of trial.closed.now n ≢ k
        → value (structure_of trial.structure.now) (assignment_of places) (rule_at trial.closed.now n).body ≢ Yes
    other-never n kin ne body =
        only.lacks (other-yes trial is n kin (assignment_of places) body k only.member only.there (λ e. ne (sym e)))

    pub none-denies : ((n : ℕ) → IsKin trial.closed.now trial.number n → skip_of trial.closed.now n ≢ k)
        → AreMet trial (assignment_of places)
    none-denies none n kin body = absurd (other-never n kin (none n kin) body)

    pub told-one : (n : ℕ) → IsKin trial.closed.now trial.number n → skip_of trial.closed.now n ≡ k
        → (old new : Queue) (outcome : Outcome)
        → IsNotedOf trial.structure.now (assignment_of places) n (rule_at trial.closed.now n).head old new outcome
        → IsTold trial (AreMet trial (assignment_of places)) old new outcome
    told-one n kin denies old new outcome noted =
        noted-told trial n kin places (can-try-kin trial room n kin ready).plain (kin-placed trial is places n kin placed)
        (others-yes trial is n kin (assignment_of places) (λ j m there ne. only.others j m there (λ e. ne (e ∙ sym denies))))
        (AreMet trial (assignment_of places)) old new outcome
        (λ met m other body. same m other body met (cases_eq (skip_of trial.closed.now m) k)) noted
      where
        form-of : (m : ℕ) → IsKin trial.closed.now trial.number m → skip_of trial.closed.now m ≡ k
            → negated_head (rule_at trial.closed.now m).head ≡ only.member.form
        form-of m other e =
            let found : (x : MemberForm) × (slice_get (members_in trial) (skip_of trial.closed.now m) ≡ Some x)
            × (x.form ≡ negated_head (rule_at trial.closed.now m).head)
            = form-back (members_in trial) (skip_of trial.closed.now m) (negated_head (rule_at trial.closed.now m).head)
            (is.kin m other).but.denied
            in let one : found.0 ≡ only.member
            = cc (found.1, ap (slice_get (members_in trial)) e, only.there)
            in sym found.2 ∙ ap (λ x. x.form) one

        same : (m : ℕ) → IsKin trial.closed.now trial.number m
            → value (structure_of trial.structure.now) (assignment_of places) (rule_at trial.closed.now m).body ≡ Yes
            → IsHeadMet (structure_of trial.structure.now) (assignment_of places) (rule_at trial.closed.now n).head
            → (skip_of trial.closed.now m ≡ k) ⊎ (skip_of trial.closed.now m ≢ k)
            → IsHeadMet (structure_of trial.structure.now) (assignment_of places) (rule_at trial.closed.now m).head
        same m other body met (inl e) =
            subst (IsHeadMet (structure_of trial.structure.now) (assignment_of places))
            (same-head (rule_at trial.closed.now n).head (rule_at trial.closed.now m).head (form-of n kin denies ∙ sym (form-of m other e))) met
        same m other body met (inr ne) = absurd (other-never m other ne body)

  pub several-met : LacksTwo IsSome trial.structure.now (assignment_of places) (members_in trial) → AreMet trial (assignment_of places)
  several-met two n kin body = idle-met trial is n kin (assignment_of places) body IsSome (inr two)
