-- Preconditions that are sure, as the code looks for them.
use Rattle.std.proofs.Common.{ℕ, ◌≡◌, ◌∙◌, ◌<◌, ◌≤◌, ◌+◌, ◌↔◌, List, [], ◌∷◌, length, map, take}
use Rattle.std.proofs.Common.{Bool, true, false, true≢false, IsTrue}
use Rattle.std.specs.Prelude.{unwrap_or}
use Rattle.std.proofs.Common.{Option, None, Some, ⊎_elim, refl, sym, subst, arith}
use Rattle.std.proofs.Common.{get_or, add-one, All, Contains}
use Rattle.std.specs.Prelude.{Any}
use Rattle.std.proofs.lemmas.Bool.{cases_eq}
use Rattle.std.proofs.lemmas.List.Elements.{All-append, All-cons, All-contains, All-nil}
use Rattle.std.proofs.Math.Seq.{take-suc}
use Rattle.tv_model.proofs.Parts.{first-occurs}
use Rattle.tv_eval.specs.AssignmentForm.{IsAssigned, individual_for, assignment_of}
use Rattle.tv_eval.specs.Formulas.{AreAssigned}
use Rattle.tv_eval.specs.ScratchForm.{program_height}
use Rattle.tv_eval.proofs.Programs.{within_height}
use Rattle.tv_kleene.specs.declared.K3.TheVariants.{Yes}
use Rattle.tv_model.specs.Form.{Form, height}
use Rattle.tv_model.specs.Program.{ProgramForm, ActionForm}
use Rattle.tv_model.specs.Rules.{blank}
use Rattle.tv_model.specs.Truth.{Assignment, put, put_all}
use Rattle.tv_model.specs.Valid.{IsValid, IsAction, IsFormulaOver, IsPrecondition, IsPlainFormula, IsVariable}
use Rattle.tv_model.specs.Valid.{first_occurrences, free_occurrences}
use Rattle.tv_model.proofs.Lists.{Contains-cases, Contains-flat_map}
use Rattle.tv_model.proofs.Lists.{Contains-flat_map_back}
use Rattle.tv_model.proofs.Lists.{Contains-map, Contains-map_back, Contains-none}
use Rattle.tv_step_laws.specs.Shaped.{IsShaped}
use Rattle.tv_step_laws.specs.Transfer.{AreAtHand, focus_places}
use Rattle.tv_step_laws.proofs.Exact.{at_hand-once}
use Rattle.tv_structure_form.proofs.Library.{Contains-range, below-range}
use Rattle.tv_structure_form.specs.StructureForm.{StructureForm, arities_of, structure_of}
use Rattle.tv_update.proofs.Variables.{picks-in_range}
use Rattle.tv_update_laws.specs.Picks.{lists_of, precondition_value}
use Rattle.tv_update_laws.proofs.Preconditions.{free-occurs}
use Rattle.tv_losses.specs.Cases.{ArePicked}
use Rattle.tv_losses.specs.Enabled.{IsEnabled, IsEnabledAtHand, IsEnabledWith}

-- ---- the precondition of an action of a valid program

module _ (p : ProgramForm) (valid : IsValid p) (action : ActionForm) (has : Contains p.actions action) where
  is-action : IsAction p action
  is-action = All-contains (IsAction p) p.actions action valid.actions has

  pub picked-in_range : All IsVariable action.picks
  picked-in_range = picks-in_range p action.pre action.picks is-action.precondition

  module _ (f : Form) (is : action.pre ≡ Some f) where
    precondition-is : IsPlainFormula p f × (action.picks ≡ first_occurrences (free_occurrences f))
    precondition-is = subst (λ pre. IsPrecondition p pre action.picks) is is-action.precondition

    pub precondition-over : (s : StructureForm) → IsShaped p s → IsFormulaOver (arities_of s) f
    precondition-over s shaped = subst (λ ns. IsFormulaOver ns f) (sym shaped.over) precondition-is.0.0

    pub precondition-assigned : (s : StructureForm) (places : List (Option ℕ)) → ArePicked action s places
        → AreAssigned s.size places f
    precondition-assigned s places picked v free =
        All-contains (IsAssigned s.size places) action.picks v picked
        (subst (λ vars. Contains vars v) (sym precondition-is.1)
        (first-occurs (free_occurrences f) v (free-occurs f v free)))

    pub precondition-low : height f ≤ program_height p
    precondition-low = (within_height p).preconditions action f has is

-- ---- individuals that are put for variables

any-of : {X : Type 0} (P : X → Type 0) (xs : List X) (x : X) → Contains xs x → P x → Any P xs
any-of P xs x at holds = (at.0, x, at.1, at.2, holds)

module _ (action : ActionForm) (t : StructureForm) where
  pub with-none : (a : Assignment)
      → IsEnabledWith action t [] a ↔ (precondition_value (structure_of t) a action.pre ≡ Yes)
  with-none a = (to, λ sure. (0, [], omega arith, refl, sure))
    where
      to : IsEnabledWith action t [] a → precondition_value (structure_of t) a action.pre ≡ Yes
      to (k, us, lt, is, sure) =
          ⊎_elim
          (λ e. subst (λ ws. precondition_value (structure_of t) (put_all a [] ws) action.pre ≡ Yes) (sym e) sure)
          (λ none. absurd (Contains-none us none))
          (Contains-cases [] us [] (k, lt, is))

  pub with-first : (v : ℕ) (vars : List ℕ) (a : Assignment) (u : ℕ) → u < t.size
      → IsEnabledWith action t vars (put a v u) → IsEnabledWith action t (v ∷ vars) a
  with-first v vars a u lt (k, us, within, at, sure) =
      let all : List ℕ = (structure_of t).individuals
      in any-of (λ ws. precondition_value (structure_of t) (put_all a (v ∷ vars) ws) action.pre ≡ Yes)
      (lists_of all (length (v ∷ vars))) (u ∷ us)
      (Contains-flat_map (λ w. map (λ ws. w ∷ ws) (lists_of all (length vars))) all u (u ∷ us)
      (Contains-range t.size u lt)
      (Contains-map (λ ws. u ∷ ws) us (lists_of all (length vars)) (k, within, at)))
      sure

  -- where nobody can be put for the variable, it isn't so
  pub with-nobody : (v : ℕ) (vars : List ℕ) (a : Assignment)
      → ((u : ℕ) → u < t.size → ¬ IsEnabledWith action t vars (put a v u))
      → ¬ IsEnabledWith action t (v ∷ vars) a
  with-nobody v vars a nobody (k, us, within, at, sure) =
      let all : List ℕ = (structure_of t).individuals
      in let first = Contains-flat_map_back (λ w. map (λ ws. w ∷ ws) (lists_of all (length vars))) all us
      (k, within, at)
      in let rest = Contains-map_back (λ ws. first.0 ∷ ws) (lists_of all (length vars)) us first.2
      in nobody first.0 (below-range t.size first.0 first.1)
      (any-of (λ ws. precondition_value (structure_of t) (put_all (put a v first.0) vars ws) action.pre ≡ Yes)
      (lists_of all (length vars)) rest.0 rest.1
      (subst (λ ws. precondition_value (structure_of t) (put_all a (v ∷ vars) ws) action.pre ≡ Yes)
      (sym rest.2) sure))

-- an assignment of nobody is blank
pub nobody-blank : (places : List (Option ℕ)) → ((v : ℕ) → individual_for places v ≡ None)
    → assignment_of places ≡ blank
nobody-blank places none = λ i v. unwrap_or (none v i) 0

-- ---- answers

pub is-so : (P : Type 0) → P → IsTrue true ↔ P
is-so P holds = (λ e. holds, λ h. refl)

pub denied : (P : Type 0) (r : Bool) → IsTrue r ↔ P → r ≡ false → ¬ P
denied P r tells isnt holds = true≢false (sym (tells.1 holds) ∙ isnt)

pub same-answer : (P Q : Type 0) (r : Bool) → IsTrue r ↔ P → Q ↔ P → IsTrue r ↔ Q
same-answer P Q r tells same = (λ e. same.1 (tells.0 e), λ h. tells.1 (same.0 h))

-- what isn't so of the next number, as of none below it
pub nobody-next : (Q : ℕ → Type 0) (n : ℕ) → ((k : ℕ) → k < n → ¬ Q k) → ¬ Q n → (k : ℕ) → k < n + 1 → ¬ Q k
nobody-next Q n none own k lt =
    ⊎_elim (λ same. subst (λ j. ¬ Q j) (sym same) own) (λ other. none k (omega (arith, lt, other))) (cases_eq k n)

-- ---- lists of structures

pub all-next : {X : Type 0} (P : X → Type 0) (xs : List X) (i : ℕ) (x : X) → i < length xs → x ≡ get_or xs i x
    → All P (take i xs) → P x → All P (take (i + 1) xs)
all-next P xs i x lt is before own =
    rw (add-one, take-suc xs i x lt, ← is)
    (All-append P (take i xs) (x ∷ []) before (All-cons P x [] own (All-nil P)))

pub none-any : {X : Type 0} (P : X → Type 0) (xs : List X) → All (λ x. ¬ P x) xs → ¬ Any P xs
none-any P xs none (k, x, lt, is, holds) = All-contains (λ y. ¬ P y) xs x none (k, lt, is) holds

-- ---- what is at hand

pub enabled-at_hand : (p : ProgramForm) (action : ActionForm) (s : StructureForm) (at_hand : List StructureForm)
    → AreAtHand p (focus_places action.focus) s at_hand
    → Any (IsEnabled action) at_hand ↔ IsEnabledAtHand p action s
enabled-at_hand p action s at_hand are = (
  λ any. (at_hand, are, any),
  λ (others, too, any). subst (Any (IsEnabled action))
      (at_hand-once p (focus_places action.focus) s others at_hand too are) any,
)
