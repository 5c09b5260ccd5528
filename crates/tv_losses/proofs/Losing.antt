-- What a step tells of a loss.
use Rattle.std.proofs.Common.{ℕ, ◌≡◌, ◌∙◌, ◌<◌, ◌≤◌, ◌↔◌, ◌⊎◌, inl, inr, List, [], ◌∷◌, length, refl}
use Rattle.std.proofs.Common.{sym}
use Rattle.std.proofs.Common.{ap, subst, arith, All, Contains, slice_get, Option, None, Some, Bool, true}
use Rattle.std.proofs.Common.{false}
use Rattle.std.proofs.Common.{true≢false, IsTrue, eqb-true, eq-eqb}
use Rattle.std.specs.Prelude.{IfSome, IfNone, is_some, not, ◌==◌}
use Rattle.std.proofs.lemmas.Option.{get_or_from_slice_get, slice_get_within, slice_get-get_or}
use Rattle.std.proofs.lemmas.Bool.{cases_lt}
use Rattle.std.proofs.lemmas.List.{get_or_past}
use Rattle.std.proofs.lemmas.List.Elements.{All-contains}
use Rattle.tv_listing.specs.ListingForm.{at_node}
use Rattle.tv_model.specs.declared.program.Edge.{Edge}
use Rattle.tv_model.specs.declared.program.Mode.{Mode}
use Rattle.tv_model.specs.Program.{ProgramForm, ActionForm, program_of}
use Rattle.tv_model.specs.Valid.{IsEdge, IsValid}
use Rattle.tv_model.proofs.Lists.{Contains-none, slice_get-contains}
use Rattle.tv_structure_form.specs.StructureForm.{StructureForm, IsOver, IsStructure, structure_of}
use Rattle.tv_struct.specs.declared.analysis.StageError.{StageError}
use Rattle.tv_struct.specs.declared.analysis.StageError.TheVariants.{Splits, Individuals, Memory}
use Rattle.tv_step_laws.specs.Budgets.{IsStepCause}
use Rattle.tv_step_laws.specs.Transfer.{AreResults, HasNoOpening, IsActionOf, IsOpening}
use Rattle.tv_step_laws.proofs.Exact.{results-once}
use Rattle.tv_step_laws.proofs.Heaps.{action-once}
use Rattle.tv_step.specs.EngineForm.{EngineForm}
use Rattle.tv_step.specs.AtHand.{IsFocusFault}
use Rattle.tv_losses.specs.Enabled.{IsEnabledAtHand}
use Rattle.tv_work.specs.Analyzed.{IsAtSource}
use Rattle.tv_losses.specs.Losses.{HasNoOpeningAt, IsLost, IsLostAt, ListsNothing}
use Rattle.tv_losses.specs.Tasks.{IsReady, reached_in}
use Rattle.tv_losses.specs.declared.task.Task.{Task}

-- a structure that gives something isn't lost
pub not-lost : (p : ProgramForm) → IsValid p → (mode : Mode) (edge : ℕ) (s : StructureForm)
    (results : List StructureForm) → AreResults p mode edge s results → ¬ (results ≡ []) → ¬ IsLost p mode edge s
not-lost p valid mode edge s results are some lost =
    some (results-once p valid mode edge s results [] are lost.none)

-- one that gives nothing is where the action is enabled
pub lost-enabled : (p : ProgramForm) (mode : Mode) (edge : ℕ) (s : StructureForm) (action : ActionForm)
    (results : List StructureForm) → AreResults p mode edge s results → results ≡ [] → IsActionOf p edge action
    → IsEnabledAtHand p action s ↔ IsLost p mode edge s
lost-enabled p mode edge s action results are none its = (
  λ enabled. record {
    none = subst (AreResults p mode edge s) none are;
    action = action;
    its_action = its;
    enabled = enabled;
  },
  λ lost. subst (λ a. IsEnabledAtHand p a s) (action-once p edge lost.action action lost.its_action its)
      lost.enabled,
)

-- a budget that focus meets is one of the step
pub focus-step : (p : ProgramForm) (edge : ℕ) (action : ActionForm) (s : StructureForm) (e : StageError)
    → IsActionOf p edge action → IsFocusFault p action s e → IsStepCause p edge s e
focus-step p edge action s Splits its many = record { action = action; its_action = its; many = inl many }
focus-step p edge action s Individuals its large
    = record { action = action; its_action = its; large = inl large }
focus-step p edge action s Memory its cause = tt

-- ---- openings

pub unopened-is : (p : ProgramForm) (s : StructureForm) (found : Option StructureForm) (r : Bool)
    → IfSome found (IsOpening p s) → IfNone found (HasNoOpening p s) → is_some found ≡ not r
    → IsTrue r ↔ HasNoOpening p s
unopened-is p s None true some none is = (λ e. none, λ h. refl)
unopened-is p s None false some none is = absurd (true≢false (sym is))
unopened-is p s (Some t) true some none is = absurd (true≢false is)
unopened-is p s (Some t) false (c, coerced, blur) none is = (
  λ e. absurd (true≢false (sym e)),
  λ h. absurd (h (structure_of c) coerced.greatest.below coerced.greatest.stable),
)

pub opening-at : (p : ProgramForm) (initial : List StructureForm) (k : ℕ) (s : StructureForm)
    → slice_get initial k ≡ Some s → HasNoOpening p s ↔ HasNoOpeningAt p initial k
opening-at p initial k s at = (
  λ none. (s, at, none),
  λ (t, there, none). let e : Some t ≡ Some s = sym there ∙ at
      in let same : t ≡ s = cc in subst (HasNoOpening p) same none,
)

-- ---- places

pub lost-at : (p : ProgramForm) (mode : Mode) (edge : ℕ) (source : List StructureForm) (k : ℕ)
    (s : StructureForm) → slice_get source k ≡ Some s
    → IsLost p mode edge s ↔ IsLostAt p mode edge source k
lost-at p mode edge source k s at = (
  λ lost. (s, at, lost),
  λ (t, there, lost). let e : Some t ≡ Some s = sym there ∙ at
      in let same : t ≡ s = cc in subst (IsLost p mode edge) same lost,
)

pub lost-within : (p : ProgramForm) (mode : Mode) (edge : ℕ) (source : List StructureForm) (k : ℕ)
    → IsLostAt p mode edge source k → k < length source
lost-within p mode edge source k (s, at, lost) = slice_get_within source k s at

pub unopened-within : (p : ProgramForm) (initial : List StructureForm) (k : ℕ) → HasNoOpeningAt p initial k
    → k < length initial
unopened-within p initial k (s, at, none) = slice_get_within initial k s at

-- ---- nodes

pub nothing-within : (listing : List (List StructureForm)) (node : ℕ) → ListsNothing listing node
    → node < length listing
nothing-within listing node at = slice_get_within listing node [] at

pub lists-nothing : (listing : List (List StructureForm)) (node : ℕ) → node < length listing
    → length (at_node listing node) ≡ 0 → ListsNothing listing node
lists-nothing listing node lt none =
    slice_get-get_or listing node [] lt ∙ ap Some (empty (at_node listing node) none)
  where
    empty : (ss : List StructureForm) → length ss ≡ 0 → ss ≡ []
    empty [] none = refl
    empty (s ∷ ss) none = absurd (omega (arith, none))

pub lists-nothing-is : (listing : List (List StructureForm)) (node count : ℕ) → node < length listing
    → count ≡ length (at_node listing node) → IsTrue (count == 0) ↔ ListsNothing listing node
lists-nothing-is listing node count lt is = (
  λ e. lists-nothing listing node lt (sym is ∙ eqb-true count 0 e),
  λ at. eq-eqb count 0 (is ∙ ap length (get_or_from_slice_get listing node [] [] at)),
)

-- ---- answers

pub same-answer : (P Q : Type 0) (r : Bool) → IsTrue r ↔ P → P ↔ Q → IsTrue r ↔ Q
same-answer P Q r tells same = (λ e. same.0 (tells.0 e), λ h. tells.1 (same.1 h))

-- ---- what is listed

pub listed-all : (P : StructureForm → Type 0) (listing : List (List StructureForm)) → All (All P) listing
    → (node : ℕ) (s : StructureForm) → Contains (at_node listing node) s → P s
listed-all P listing all node s has = by (cases_lt node (length listing))
  where
    by : (node < length listing) ⊎ (length listing ≤ node) → P s
    by (inl lt) = All-contains P (at_node listing node) s (all node [] lt) has
    by (inr past) = absurd (Contains-none s (subst (λ ss. Contains ss s) (get_or_past listing node [] past) has))

module _ (x : Task) (stepper : EngineForm) (ready : IsReady x stepper) (number : ℕ) (edge : Edge)
    (is : slice_get x.program.now.edges number ≡ Some edge) (s : StructureForm)
    (has : Contains (at_node x.listing.now edge.from) s) where
  pub listed-over : IsOver x.program.now.vocab s
  listed-over =
      (listed-all (λ t. IsStructure t × IsOver x.program.now.vocab t) x.listing.now ready.over edge.from s has).1

  pub at-source : IsAtSource (program_of x.program.now) number (reached_in x) (record { node = edge.from; structure = s })
  at-source = record {
    taken = edge;
    is_edge = is;
    leaves = refl;
    has = ready.reached (record { node = edge.from; structure = s }) has;
  }

-- ---- edges of a valid program

module _ (p : ProgramForm) (valid : IsValid p) (number : ℕ) (edge : Edge)
    (is : slice_get p.edges number ≡ Some edge) where
  is-edge : IsEdge p edge
  is-edge = All-contains (IsEdge p) p.edges edge valid.edges (slice_get-contains p.edges number edge is)

  pub from-within : edge.from < length p.nodes
  from-within = is-edge.0

  pub action-within : edge.action < length p.actions
  action-within = is-edge.2

pub ready-again : (x : Task) (old new : EngineForm) → new ≡ old → IsReady x old → IsReady x new
ready-again x old new same ready = subst (IsReady x) (sym same) ready

-- ---- results

pub are-some : (results slice : List StructureForm) (r : Bool) → slice ≡ results → r ≡ (length slice == 0)
    → r ≡ false → ¬ (results ≡ [])
are-some results slice r same is isnt none =
    true≢false (sym (is ∙ ap (λ ss. length ss == 0) (same ∙ none)) ∙ isnt)

pub are-none : (results slice : List StructureForm) (r : Bool) → slice ≡ results → r ≡ (length slice == 0)
    → r ≡ true → results ≡ []
are-none results [] r same is holds = sym same
are-none results (s ∷ slice) r same is holds =
    absurd (omega (arith, eqb-true (length (s ∷ slice)) 0 (sym is ∙ holds)))
