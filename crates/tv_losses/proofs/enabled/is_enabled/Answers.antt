use Rattle.std.proofs.Common.{◌↔◌, All, IsTrue, subst, sym}
use Rattle.tv_eval.specs.AssignmentForm.{assignment_of}
use Rattle.tv_model.specs.Program.{picks_of, program_of}
use Rattle.tv_model.specs.Valid.{IsVariable}
use Rattle.tv_losses.specs.Cases.{action_in}
use Rattle.tv_losses.specs.Enabled.{IsEnabledWith}
use Rattle.tv_losses.proofs.Searching.{nobody-blank, picked-in_range}
use Rattle.tv_losses.proofs.enabled.is_enabled.Goals as goal

pub is_enabled_with-requires-clause-case : goal.is_enabled_with-requires-clause-case
is_enabled_with-requires-clause-case c = record {
  valid = c.requires.valid;
  action = c.requires.action;
  shaped = c.requires.shaped;
}

pub is_enabled_with-requires-clause-left : goal.is_enabled_with-requires-clause-left
is_enabled_with-requires-clause-left c =
    subst (λ vars. All IsVariable (picks_of vars)) (sym c.as_slice-picks.ensures)
    (picked-in_range (program_of c.args.stepper.now.program) c.requires.valid (action_in c.args.c.now)
    c.requires.action)

pub returns-clause-value : goal.returns-clause-value
returns-clause-value c =
    let action = action_in c.args.c.now
    in let t = c.args.c.now.from.now
    in subst (λ a. IsTrue c.is_enabled_with.result ↔ IsEnabledWith action t action.picks a)
    (nobody-blank c.new.result c.new.ensures)
    (subst (λ vars. IsTrue c.is_enabled_with.result
    ↔ IsEnabledWith action t (picks_of vars) (assignment_of c.new.result))
    c.as_slice-picks.ensures c.is_enabled_with.ensures.value)
