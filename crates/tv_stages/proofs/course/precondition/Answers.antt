use Rattle.std.proofs.Common.{ap}
use Rattle.tv_model.specs.Form.{form_of}
use Rattle.tv_model.specs.Program.{pre_of, program_of}
use Rattle.tv_stages.specs.Tasks.{course_action}
use Rattle.tv_stages.proofs.Updating.{precondition-assigned, precondition-low, precondition-over}
use Rattle.tv_stages.proofs.course.precondition.Goals as goal

pub value-requires-clause-formula : goal.value-requires-clause-formula
value-requires-clause-formula c =
    precondition-over (program_of c.args.stepper.now.program) c.requires.valid
    (course_action c.args.case.now.course.now) c.requires.action (form_of c.in-Some.pre) (ap pre_of c.in-Some.is)
    c.args.case.now.from.now c.requires.shaped

pub value-requires-clause-assigned : goal.value-requires-clause-assigned
value-requires-clause-assigned c =
    precondition-assigned (program_of c.args.stepper.now.program) c.requires.valid
    (course_action c.args.case.now.course.now) c.requires.action (form_of c.in-Some.pre) (ap pre_of c.in-Some.is)
    c.args.case.now.from.now c.args.picks.now c.requires.picks

pub value-requires-clause-room : goal.value-requires-clause-room
value-requires-clause-room c =
    precondition-low (program_of c.args.stepper.now.program) c.requires.valid
    (course_action c.args.case.now.course.now) c.requires.action (form_of c.in-Some.pre) (ap pre_of c.in-Some.is)

pub value-requires-clause-few : goal.value-requires-clause-few
value-requires-clause-few c = c.size.ensures.kept.table.size
