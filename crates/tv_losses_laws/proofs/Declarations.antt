-- The new heap of a step from a heap of a case that one declaration loses doesn't meet that declaration.
use Rattle.std.proofs.Common.{ℕ, ◌≡◌, List, [], map, Option, None, Some, sym, subst, All, Contains, slice_get}
use Rattle.std.specs.Option.{option_map}
use Rattle.std.proofs.lemmas.List.Elements.{All-nil, All-append, All-contains, All-weaker}
use Rattle.std.proofs.lemmas.Option.{slice_get-map}
use Rattle.tv_model.specs.declared.program.Mode.{Mode}
use Rattle.tv_model.specs.Heap.{Heap}
use Rattle.tv_model.specs.Program.{ProgramForm, PredForm, RuleForm, ActionForm}
use Rattle.tv_model.specs.Rules.{IsConcrete, MeetsRule, property_rules}
use Rattle.tv_model.specs.Step.{AgreesWithGiven, StepsThrough}
use Rattle.tv_model.specs.Truth.{Assignment}
use Rattle.tv_model.specs.Valid.{IsValid}
use Rattle.tv_model.proofs.Lists.{Contains-map_back, slice_get-contains}
use Rattle.tv_embedding_laws.specs.LogicalStructure.{LogicalStructure}
use Rattle.tv_embedding_laws.specs.Embedding.{IsHeapOf}
use Rattle.tv_stable_laws.specs.Laws.{IsPlainRule}
use Rattle.tv_stable_laws.specs.Stable.{IsStableUnder}
use Rattle.tv_stable_laws.proofs.InHeaps.{sharpening_loses_no_heap}
use Rattle.tv_rules.specs.Closing.{definition_rules}
use Rattle.tv_rules.proofs.MetByHeaps.{base_rules_are_met, closing_keeps_meaning}
use Rattle.tv_rules.proofs.Ranges.{rules_are_plain}
use Rattle.tv_structure_form.specs.StructureForm.{StructureForm, structure_of}
use Rattle.tv_update_laws.specs.Laws.{StepsFrom}
use Rattle.tv_update_laws.specs.Picks.{picks_of}
use Rattle.tv_update_laws.proofs.Choices.{update_loses_no_heap}
use Rattle.tv_step_laws.specs.Transfer.{HasNoOpening}
use Rattle.tv_step_laws.proofs.Heaps.{action-once}
use Rattle.tv_losses_unmet.specs.Unmet.{IsUnmet, closed_alone, rules_of_claim, rules_of_pred}
use Rattle.tv_losses_unmet.specs.declared.claim.Claim.{Claim}
use Rattle.tv_losses_unmet.specs.declared.claim.Claim.TheVariants.{Predicate, Rule}
use Rattle.tv_losses_laws.specs.Cases.{CaseForm, IsHeapOfCase}
use Rattle.tv_losses_laws.specs.Declared.{IsDroppedBy, properties_of, rules_declared}
use Rattle.tv_losses_laws.specs.Laws.{LostCasesBreakDeclarations}
use Rattle.tv_losses_laws.proofs.Bare.{bare, bare_pred, bare-valid}
use Rattle.tv_losses_laws.proofs.BareSteps.{agrees-bare, concrete-bare, given-bare, meets-bare, step-bare}
use Rattle.tv_losses_unmet.proofs.Closing.{also-alone, of-claim}

-- ---- the rules of the declaration

-- of a predicate those of its properties are declared, and those of its definition stay where nothing is
pred-met : (P : RuleForm → Type 0) (q : ℕ) (o : Option PredForm) → All P (properties_of q o)
    → All P (rules_of_pred q (option_map bare_pred o)) → All P (rules_of_pred q o)
pred-met P q None declared defined = All-nil P
pred-met P q (Some d) declared defined =
    All-append P (property_rules q d.props) (definition_rules q d.kind) declared defined

claim-met : (p : ProgramForm) → IsValid p → (h : Heap) → IsConcrete p h → (claim : Claim)
    → All (MeetsRule h) (rules_declared p claim) → All (MeetsRule h) (rules_of_claim p claim)
claim-met p valid h concrete (Rule number) declared = declared
claim-met p valid h concrete (Predicate q) declared =
    pred-met (MeetsRule h) q.0 (slice_get p.preds q.0) declared
    (subst (λ o. All (MeetsRule h) (rules_of_pred q.0 o)) (slice_get-map bare_pred p.preds q.0)
    (of-claim (MeetsRule h) (bare p) (Predicate q)
    (base_rules_are_met (bare p) h (bare-valid p valid) (concrete-bare p h concrete) (meets-bare p h))))

-- nothing but these rules
only : ProgramForm → List RuleForm → ProgramForm
only p rules = record { preds = []; rules = rules; actions = p.actions; edges = p.edges; nodes = p.nodes }

closed-met : (p : ProgramForm) (h : Heap) (claim : Claim) → All (MeetsRule h) (rules_of_claim p claim)
    → All (MeetsRule h) (closed_alone p claim)
unfolding only
closed-met p h claim all = (closing_keeps_meaning (only p (rules_of_claim p claim)) h).0 all

-- ---- the step

broken-by : (p : ProgramForm) → IsValid p → (mode : Mode) (action : ActionForm) → Contains p.actions action
    → (c : CaseForm) (claim : Claim) → IsDroppedBy p mode action c claim
    → (picked : Assignment) (h : Heap) → IsHeapOfCase p action c picked h
    → (middle new : Heap) → StepsThrough p action picked h middle new
    → AgreesWithGiven p mode action picked middle new
    → ¬ All (MeetsRule new) (rules_declared p claim)
broken-by p valid mode action has c claim lost picked h of middle new step agrees declared =
    let from : StepsFrom (bare p) mode action (structure_of c.at_hand) (picks_of action c.picked) new
    = record {
      m = of.place;
      old = h;
      picked = picked;
      embeds = of.embeds;
      concrete = concrete-bare p h of.start.concrete;
      takes = of.takes;
      steps = (
        middle,
        record {
          step = step-bare p action picked h middle new step;
          given = agrees-bare p mode action picked middle new agrees;
          old_meets = meets-bare p h;
          new_meets = meets-bare p new;
        },
      );
    }
    in let found : (l : LogicalStructure) × Contains (map structure_of lost.given) l × IsHeapOf new l
    = update_loses_no_heap (bare p) (bare-valid p valid) mode action has (structure_of c.at_hand)
    (picks_of action c.picked) new from (map structure_of lost.given)
    (given-bare p mode action (structure_of c.at_hand) (picks_of action c.picked) (map structure_of lost.given)
    lost.are_given.0)
    in let table : (u : StructureForm) × Contains lost.given u × (structure_of u ≡ found.0)
    = Contains-map_back structure_of lost.given found.0 found.1
    in let heap : IsHeapOf new (structure_of table.0) = subst (IsHeapOf new) (sym table.2) found.2
    in (sharpening_loses_no_heap heap.0 new (structure_of table.0) (closed_alone p claim) heap.1
    (also-alone IsPlainRule p claim (rules_are_plain p valid))
    (closed-met p new claim (claim-met p valid new step.concrete claim declared))).some
    (All-contains (λ t. IsUnmet p t claim) lost.given table.0 lost.unmet table.1)

unmet-none : (p : ProgramForm) (claim : Claim) (s : StructureForm) → IsUnmet p s claim → HasNoOpening p s
unmet-none p claim s unmet = λ u below stable. unmet u below (also-alone (IsStableUnder u) p claim stable)

pub lost-breaks_declaration : LostCasesBreakDeclarations
lost-breaks_declaration p valid mode edge s c claim lost = record {
  lost = record {
    action = lost.action;
    its_action = lost.its_action;
    is_case = lost.is_case;
    dropped = record {
      given = lost.dropped.given;
      are_given = lost.dropped.are_given;
      none = All-weaker (λ t. IsUnmet p t claim) (HasNoOpening p) (unmet-none p claim) lost.dropped.given
          lost.dropped.unmet;
    };
  };
  broken = λ action its picked h of.
      broken-by p valid mode action (slice_get-contains p.actions its.taken.action action its.its_action) c claim
      (subst (λ a. IsDroppedBy p mode a c claim) (action-once p edge lost.action action lost.its_action its)
      lost.dropped)
      picked h of;
}
