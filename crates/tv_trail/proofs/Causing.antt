-- A message that isn't No has its value at a structure at hand.
use Rattle.std.proofs.Common.{ℕ, ◌≡◌, ◌≢◌, ◌⊎◌, inl, inr, List, [], ◌∷◌, None, Some, refl, sym, ap, ◌∙◌, map}
use Rattle.std.proofs.Common.{Bool, true, false, true≢false, Option}
use Rattle.std.specs.Prelude.{All, Contains, IfNone, IfSome, MatchBool, option_map, slice_get, unwrap_or}
use Rattle.std.proofs.lemmas.List.Elements.{All-contains, All-head, All-tail}
use Rattle.std.proofs.lemmas.Option.{same_Some, slice_get-map}
use Rattle.tv_eval.specs.AssignmentForm.{assignment_of, individual_for}
use Rattle.tv_eval.specs.Formulas.{AreAssigned}
use Rattle.tv_eval.proofs.Programs.{within_height}
use Rattle.tv_eval_laws.specs.Value.{value}
use Rattle.tv_kleene.specs.declared.K3.{K3}
use Rattle.tv_kleene.specs.declared.K3.TheVariants.{No, Half, Yes}
use Rattle.tv_kleene.specs.Kleene.{larger_of}
use Rattle.tv_model.specs.declared.program.Program.{Program}
use Rattle.tv_model.specs.Program.{ActionForm, MessageForm, ProgramForm, program_of}
use Rattle.tv_model.specs.Rules.{blank}
use Rattle.tv_model.specs.Valid.{IsAction, IsMessage, IsValid}
use Rattle.tv_model.proofs.Lists.{Contains-none, slice_get-contains}
use Rattle.tv_step.specs.AtHand.{IsFocusFault}
use Rattle.tv_step.specs.Steps.{HasRoomFor}
use Rattle.tv_step_laws.specs.Budgets.{IsStepCause}
use Rattle.tv_step_laws.specs.Transfer.{AreAtHand, AreMessageValues, IsActionOf, IsMessageValue, focus_places}
use Rattle.tv_step_laws.specs.Transfer.{message_value}
use Rattle.tv_step_laws.specs.Shaped.{IsShaped}
use Rattle.tv_step_laws.proofs.Exact.{values-once}
use Rattle.tv_step_laws.proofs.Shapes.{shaped-over}
use Rattle.tv_struct.specs.declared.analysis.StageError.{StageError}
use Rattle.tv_struct.specs.declared.analysis.StageError.TheVariants.{Splits, Individuals, Memory}
use Rattle.tv_structure_form.specs.StructureForm.{StructureForm, IsOver, structure_of}
use Rattle.tv_trail.specs.Causes.{IsCauseAt, IsConditionValue}

-- a greater one of two values is one of them
larger-one : (a b : K3) → (larger_of a b ≡ a) ⊎ (larger_of a b ≡ b)
larger-one No b = inr refl
larger-one Half No = inl refl
larger-one Half Half = inl refl
larger-one Half Yes = inr refl
larger-one Yes b = inl refl

pub told-unequal : (x y : K3) (b : Bool) → MatchBool b (x ≡ y) (x ≢ y) → b ≡ false → x ≢ y
told-unequal x y true same e = absurd (true≢false e)
told-unequal x y false same e = same

-- where it has the value at none, it isn't the value
none-has : (m : MessageForm) (k : K3) → k ≢ No → (ts : List StructureForm)
    → All (λ t. ¬ IsConditionValue m t k) ts → message_value ts m ≢ k
none-has m k some [] all e = some (sym e)
none-has m k some (t ∷ ts) all e =
    by (none-has m k some ts (All-tail (λ u. ¬ IsConditionValue m u k) t ts all))
    (larger-one (value (structure_of t) blank m.cond) (message_value ts m))
  where
    by : message_value ts m ≢ k → (message_value (t ∷ ts) m ≡ value (structure_of t) blank m.cond)
        ⊎ (message_value (t ∷ ts) m ≡ message_value ts m) → ⊥
    by behind (inl is) = All-head (λ u. ¬ IsConditionValue m u k) t ts all (sym is ∙ e)
    by behind (inr is) = behind (sym is ∙ e)

-- why focus fails is why the step does
pub focus-cause : (p : ProgramForm) (edge : ℕ) (action : ActionForm) → IsActionOf p edge action
    → (s : StructureForm) (fault : StageError) → IsFocusFault p action s fault → IsStepCause p edge s fault
focus-cause p edge action its s Splits many = record { action = action; its_action = its; many = inl many }
focus-cause p edge action its s Individuals large =
    record { action = action; its_action = its; large = inl large }
focus-cause p edge action its s Memory fault = tt

module _ (p : ProgramForm) (valid : IsValid p) (edge number : ℕ) (action : ActionForm)
    (its : IsActionOf p edge action) where
  module _ (m : MessageForm) (there : slice_get action.messages number ≡ Some m) where
    -- the message is one, and there is room for it
    pub is-message : IsMessage p m
    is-message =
        All-contains (IsMessage p) action.messages m
        (All-contains (IsAction p) p.actions action valid.actions
        (slice_get-contains p.actions its.taken.action action its.its_action)).messages
        (slice_get-contains action.messages number m there)

    pub message-low : HasRoomFor p m.cond
    message-low =
        (within_height p).messages action m
        (slice_get-contains p.actions its.taken.action action its.its_action)
        (slice_get-contains action.messages number m there)

  module _ (k : K3) (s : StructureForm) (told : IsMessageValue p edge s number k) (at_hand : List StructureForm)
      (are : AreAtHand p (focus_places action.focus) s at_hand) where
    own : AreMessageValues p edge s (map (message_value at_hand) action.messages)
    own = record { action = action; its_action = its; at_hand = at_hand; are_at_hand = are; are = refl }

    said : option_map (message_value at_hand) (slice_get action.messages number) ≡ Some k
    said =
        sym (slice_get-map (message_value at_hand) action.messages number)
        ∙ ap (λ ks. slice_get ks number)
        (values-once p edge s (map (message_value at_hand) action.messages) told.0 own told.1)
        ∙ told.2

    -- there is such a message
    pub message-there : None ≡ slice_get action.messages number → ⊥
    message-there e = by (ap (option_map (message_value at_hand)) e ∙ said)
      where
        by : None ≡ Some k → ⊥
        by h = cc

    module _ (m : MessageForm) (there : slice_get action.messages number ≡ Some m) where
      -- its condition has the value somewhere
      pub value-somewhere : k ≢ No → All (λ t. ¬ IsConditionValue m t k) at_hand → ⊥
      value-somewhere some none =
          none-has m k some at_hand none
          (same_Some (message_value at_hand m) k (ap (option_map (message_value at_hand)) (sym there) ∙ said))

      pub cause-there : (t : StructureForm) → Contains at_hand t → IsConditionValue m t k
          → IsCauseAt p edge number k s t
      cause-there t among has = record {
        action = action;
        its_action = its;
        message = m;
        its_message = there;
        at_hand = at_hand;
        are_at_hand = are;
        there = among;
        is_value = has;
      }

      -- so for what is found of them
      pub cause-some : (found : Option StructureForm)
          → IfSome found (λ t. Contains at_hand t × IsConditionValue m t k)
          → IfSome found (IsCauseAt p edge number k s)
      cause-some None is = tt
      cause-some (Some t) (among, has) = cause-there t among has

      pub cause-none : k ≢ No → (found : Option StructureForm)
          → IfNone found (All (λ t. ¬ IsConditionValue m t k) at_hand) → IfNone found ⊥
      cause-none some None none = value-somewhere some none
      cause-none some (Some t) none = tt

pub among-over : (program : Program) (P : StructureForm → Type 0) (ts : List StructureForm)
    → All (IsShaped (program_of program)) ts → (found : Option StructureForm)
    → IfSome found (λ t. Contains ts t × P t) → IfSome found (IsOver program.vocab)
among-over program P ts shaped None is = tt
among-over program P ts shaped (Some t) (among, holds) =
    shaped-over program t (All-contains (IsShaped (program_of program)) ts t shaped among)

-- ---- an assignment of nobody

pub nobody-blank : (places : List (Option ℕ)) → ((v : ℕ) → individual_for places v ≡ None)
    → assignment_of places ≡ blank
nobody-blank places none = λ i v. unwrap_or (none v i) 0

-- a message's condition has no free variables
pub nobody-assigned : (p : ProgramForm) (m : MessageForm) (size : ℕ) (places : List (Option ℕ))
    → IsMessage p m → AreAssigned size places m.cond
nobody-assigned p m size places is v free = absurd (Contains-none v (is.1 v free))

pub condition-is : (m : MessageForm) (s : StructureForm) (places : List (Option ℕ)) (k : K3)
    → ((v : ℕ) → individual_for places v ≡ None)
    → k ≡ value (structure_of s) (assignment_of places) m.cond → IsConditionValue m s k
condition-is m s places k none is =
    sym (is ∙ ap (λ a. value (structure_of s) a m.cond) (nobody-blank places none))
