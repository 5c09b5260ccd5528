use Rattle.std.proofs.Common.{ap}
use Rattle.tv_model.specs.Form.{form_of}
use Rattle.tv_model.specs.Program.{pre_of}
use Rattle.tv_step.specs.Job.{case_program, case_action}
use Rattle.tv_step.proofs.Evaluating.{room-fits}
use Rattle.tv_step.proofs.Picking.{precondition-assigned, precondition-room}
use Rattle.tv_step.proofs.picks.is_passed.Goals as goal

pub eval-requires-clause-assigned : goal.eval-requires-clause-assigned
eval-requires-clause-assigned c =
    precondition-assigned (case_program c.args.c.now) c.requires.case.ready.valid c.args.c.now.job.now.number
    (case_action c.args.c.now) c.requires.case.job.action (form_of c.in-Some.pre)
    (ap pre_of c.in-Some.is) c.args.c.now.from.now.size c.args.picks.now
    c.requires.picks

pub eval-requires-clause-fits : goal.eval-requires-clause-fits
eval-requires-clause-fits c =
    room-fits c.args.c.now.setting.now c.args.scratch.now
    (form_of c.in-Some.pre) c.args.c.now.from.now.size c.requires.case.ready
    (precondition-room (case_program c.args.c.now) c.args.c.now.job.now.number
    (case_action c.args.c.now) c.requires.case.job.action
    (form_of c.in-Some.pre) (ap pre_of c.in-Some.is)) c.requires.case.is.table.size
