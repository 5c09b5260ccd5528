-- The picked variables of a valid program are in range.
use Rattle.std.proofs.Common.{ℕ, ◌≡◌, Some, slice_get, All}
use Rattle.tv_model.specs.Program.{ProgramForm, ActionForm}
use Rattle.tv_model.specs.Valid.{IsValid, IsVariable}
use Rattle.tv_update.proofs.Variables.{picks-in_range}
use Rattle.tv_step.proofs.Picking.{action-of}

pub picked-in_range : (p : ProgramForm) → IsValid p → (n : ℕ) (action : ActionForm)
    → slice_get p.actions n ≡ Some action
    → All IsVariable action.picks
picked-in_range p valid n action there = picks-in_range p action.pre action.picks
    (action-of p valid n action there).precondition
