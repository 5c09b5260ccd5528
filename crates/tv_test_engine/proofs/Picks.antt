-- The individuals that a program's first action picks.
use Rattle.std.proofs.Common.{ℕ, ◌≡◌, ◌<◌, ◌∙◌, List, length, map, get_or, Option, All, ap, subst, sym}
use Rattle.std.proofs.lemmas.List.{get_or-map}
use Rattle.tv_model.specs.declared.formula.Var.{Var}
use Rattle.tv_model.specs.declared.program.Action.{Action}
use Rattle.tv_model.specs.declared.program.Program.{Program}
use Rattle.tv_model.specs.Program.{ActionForm, action_of, picks_of, program_of}
use Rattle.tv_eval.specs.AssignmentForm.{IsAssigned}
use Rattle.tv_update.specs.Update.{no_action, action_at}

-- what is assigned of the first action's picks is assigned of those of the action with number 0
pub picks_assigned : (program : Program) (actions : List Action) (a : Action) (vars : List Var) (size n : ℕ)
    (places : List (Option ℕ)) → actions ≡ program.actions → 0 < length actions → a ≡ get_or actions 0 a
    → vars ≡ (get_or actions 0 a).picks → n ≡ size → All (IsAssigned n places) (picks_of vars)
    → All (IsAssigned size places) (action_at program 0).picks
picks_assigned program actions a vars size n places same some at of same_size assigned =
    subst (λ (x : ActionForm). All (IsAssigned size places) x.picks)
    (ap action_of at ∙ ap (λ xs. action_of (get_or xs 0 a)) same
    ∙ sym (get_or-map action_of program.actions 0 a no_action (subst (λ xs. 0 < length xs) same some)))
    (subst (λ m. All (IsAssigned m places) (picks_of a.picks)) same_size
    (subst (λ vs. All (IsAssigned n places) (picks_of vs))
    (of ∙ sym (ap (λ (x : Action). x.picks) at)) assigned))
