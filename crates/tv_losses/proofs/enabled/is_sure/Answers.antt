use Rattle.std.proofs.Common.{ap}
use Rattle.tv_model.specs.Form.{form_of}
use Rattle.tv_model.specs.Program.{pre_of, program_of}
use Rattle.tv_losses.specs.Cases.{action_in}
use Rattle.tv_losses.proofs.Searching.{precondition-assigned, precondition-low, precondition-over}
use Rattle.tv_losses.proofs.enabled.is_sure.Goals as goal

pub value-requires-clause-formula : goal.value-requires-clause-formula
value-requires-clause-formula c =
    precondition-over (program_of c.args.stepper.now.program) c.requires.case.valid (action_in c.args.c.now)
    c.requires.case.action (form_of c.in-Some.pre) (ap pre_of c.in-Some.is) c.args.c.now.from.now
    c.requires.case.shaped

pub value-requires-clause-assigned : goal.value-requires-clause-assigned
value-requires-clause-assigned c =
    precondition-assigned (program_of c.args.stepper.now.program) c.requires.case.valid (action_in c.args.c.now)
    c.requires.case.action (form_of c.in-Some.pre) (ap pre_of c.in-Some.is) c.args.c.now.from.now
    c.args.picks.now c.requires.picks

pub value-requires-clause-room : goal.value-requires-clause-room
value-requires-clause-room c =
    precondition-low (program_of c.args.stepper.now.program) c.requires.case.valid (action_in c.args.c.now)
    c.requires.case.action (form_of c.in-Some.pre) (ap pre_of c.in-Some.is)

pub value-requires-clause-few : goal.value-requires-clause-few
value-requires-clause-few c = c.size.ensures.kept.table.size
