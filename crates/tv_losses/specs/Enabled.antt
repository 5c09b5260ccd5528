-- Whether an action is surely enabled.
use Rattle.std.specs.Prelude.{ℕ, ◌≡◌, List, length, Any}
use Rattle.tv_kleene.specs.declared.K3.TheVariants.{Yes}
use Rattle.tv_model.specs.Program.{ProgramForm, ActionForm}
use Rattle.tv_model.specs.Rules.{blank}
use Rattle.tv_model.specs.Truth.{Assignment, put_all}
use Rattle.tv_structure_form.specs.StructureForm.{StructureForm, structure_of}
use Rattle.tv_update_laws.specs.Picks.{lists_of, precondition_value}
use Rattle.tv_step_laws.specs.Transfer.{AreAtHand, focus_places}

-- for some individuals that are put for the variables the precondition is Yes, or there is none
abbrev pub IsEnabledWith : ActionForm → StructureForm → (vars : List ℕ) → Assignment → Type 0
IsEnabledWith action t vars a =
    Any (λ us. precondition_value (structure_of t) (put_all a vars us) action.pre ≡ Yes)
    (lists_of (structure_of t).individuals (length vars))

-- the action is surely enabled in the structure: under some individuals that it may pick
abbrev pub IsEnabled : ActionForm → StructureForm → Type 0
IsEnabled action t = IsEnabledWith action t action.picks blank

-- it is in some structure that coerce and the action's focus leave at hand of s
abbrev pub IsEnabledAtHand : ProgramForm → ActionForm → StructureForm → Type 0
IsEnabledAtHand p action s =
    (at_hand : List StructureForm) × AreAtHand p (focus_places action.focus) s at_hand
    × Any (IsEnabled action) at_hand
