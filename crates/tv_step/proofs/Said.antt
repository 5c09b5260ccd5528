-- What is said of a step along an edge.
use Rattle.std.proofs.Common.{ℕ, List, subst}
use Rattle.std.specs.Prelude.{Result, Ok, Err, IfOk, IfErr}
use Rattle.std.proofs.lemmas.List.Elements.{All-contains}
use Rattle.tv_kleene.specs.declared.K3.{K3}
use Rattle.tv_model.specs.declared.program.Mode.{Mode}
use Rattle.tv_model.specs.Program.{ProgramForm, ActionForm}
use Rattle.tv_model.specs.Valid.{IsValid}
use Rattle.tv_model.proofs.Lists.{All-from_contains}
use Rattle.tv_structure_form.specs.StructureForm.{StructureForm, IsStructure}
use Rattle.tv_struct.specs.declared.analysis.StageError.{StageError}
use Rattle.tv_step_laws.specs.Settled.{IsSettled}
use Rattle.tv_step_laws.specs.Transfer.{Coerces, AreAtHand, AreResults, AreMessageValues, IsActionOf}
use Rattle.tv_step_laws.specs.Transfer.{focus_places}
use Rattle.tv_step_laws.proofs.Heaps.{action-once, any_heap, message-heap, result-heap}
use Rattle.tv_step_laws.proofs.Settled.{result-settled}
use Rattle.tv_step.specs.declared.step.StepOut.{StepOut}
use Rattle.tv_step.specs.StepAnswer.{AnswersStep}
use Rattle.tv_step.specs.AtHand.{FindsAtHand, IsFocusFault}
use Rattle.tv_step.specs.Steps.{AreFocusedWithin, AreResultsOf, AreValuesOf, IsCauseOfFocus, IsCauseOfStep}
use Rattle.tv_step.proofs.Budgeted.{budgets-kept, focus-fault, step-cause}
use Rattle.tv_step.proofs.Stepping.{within-shaped}
use Rattle.tv_step.proofs.Turns.{coerces-shaped, focused-are}

results-are : (p : ProgramForm) (mode : Mode) (edge : ℕ) (s : StructureForm) (action : ActionForm)
    (start results : List StructureForm)
    → IsActionOf p edge action → Coerces p s start → AreResultsOf p mode action start results
    → AreResults p mode edge s results
results-are p mode edge s action start results is coerces are = record {
  action = action;
  its_action = is;
  at_hand = are.at_hand;
  are_at_hand = (start, coerces, are.are_focused);
  given = are.given;
  are_given = are.are_given;
  same = are.same;
  sorted = are.sorted;
}

values-are : (p : ProgramForm) (edge : ℕ) (s : StructureForm) (action : ActionForm)
    (start : List StructureForm) (values : List K3)
    → IsActionOf p edge action → Coerces p s start → AreValuesOf p action start values
    → AreMessageValues p edge s values
values-are p edge s action start values is coerces are = record {
  action = action;
  its_action = is;
  at_hand = are.at_hand;
  are_at_hand = (start, coerces, are.are_focused);
  are = are.are;
}

pub step-said : (p : ProgramForm) → IsValid p → (mode : Mode) (edge : ℕ) (s : StructureForm)
    (action : ActionForm) (start : List StructureForm)
    → IsActionOf p edge action → Coerces p s start → (answer : Result StepOut StageError)
    → IfOk answer (λ out. AreResultsOf p mode action start out.results)
    → IfOk answer (λ out. AreValuesOf p action start out.messages)
    → IfErr answer (IsCauseOfStep p action start) → AnswersStep p mode edge s answer
step-said p valid mode edge s action start is coerces (Ok out) results values cause =
    let are : AreResults p mode edge s out.results
    = results-are p mode edge s action start out.results is coerces results
    in let told : AreMessageValues p edge s out.messages
    = values-are p edge s action start out.messages is coerces values
    in record {
      results = are;
      values = told;
      settled = All-from_contains (IsSettled p) out.results
          (λ t here. result-settled p valid mode edge s out.results are t here
          (All-contains IsStructure out.results t results.kept here));
      heaps = λ taken there old new start_is step. any_heap p new out.results
          (result-heap p valid mode edge taken there s out.results are old new start_is.start step
          start_is.embeds);
      truths = λ number m of h start_is true_there.
          message-heap p valid edge s out.messages told of.0 of.1 number m of.2 h start_is.start
          start_is.embeds true_there;
      budgets = budgets-kept p edge s action start results.at_hand is coerces results.within_focus
          results.within_updates;
      cause = tt;
    }
step-said p valid mode edge s action start is coerces (Err e) results values cause = record {
  results = tt;
  values = tt;
  settled = tt;
  heaps = tt;
  truths = tt;
  budgets = tt;
  cause = step-cause p edge s action start e is coerces cause;
}

-- what focus finds of what coerce leaves is what is at hand
pub at-hand-found : (p : ProgramForm) (edge : ℕ) (s : StructureForm) (action : ActionForm)
    (start : List StructureForm) → IsActionOf p edge action → Coerces p s start
    → (answer : Result (List StructureForm) StageError)
    → IfOk answer (AreFocusedWithin p (focus_places action.focus) start)
    → IfErr answer (IsCauseOfFocus p (focus_places action.focus) start) → FindsAtHand p edge s answer
at-hand-found p edge s action start is coerces (Ok ts) within cause = record {
  are = λ other its. subst (λ (a : ActionForm). AreAtHand p (focus_places a.focus) s ts)
      (action-once p edge action other is its)
      (start, coerces, focused-are p (focus_places action.focus) start ts within);
  shaped = within-shaped p (focus_places action.focus) start ts within (coerces-shaped p s start coerces);
  cause = λ other its. tt;
}
at-hand-found p edge s action start is coerces (Err e) within cause = record {
  are = λ other its. tt;
  shaped = tt;
  cause = λ other its. subst (λ a. IsFocusFault p a s e) (action-once p edge action other is its)
      (focus-fault p action s start e coerces cause);
}
