use Rattle.std.proofs.Common.{◌∙◌, ap, replicate, subst, sym}
use Rattle.tv_kleene.specs.declared.K3.TheVariants.{Yes}
use Rattle.tv_model.specs.Form.{FExists, form_of}
use Rattle.tv_model.specs.Program.{pre_of}
use Rattle.tv_eval.specs.AssignmentForm.{assignment_of}
use Rattle.tv_eval.specs.Bound.{bound_room}
use Rattle.tv_eval.specs.Formulas.{AreAssigned}
use Rattle.tv_eval.specs.ScratchForm.{HasScratchFor}
use Rattle.tv_step.specs.Job.{case_program, case_action, case_structure}
use Rattle.tv_step.proofs.Allowing.{precondition-assigned-but, row-of-none}
use Rattle.tv_step.proofs.Evaluating.{room-fits}
use Rattle.tv_step.proofs.Picking.{precondition-room}
use Rattle.tv_step.proofs.picks.precondition_row.Goals as goal

pub row-row-requires-clause-assigned : goal.row-row-requires-clause-assigned
row-row-requires-clause-assigned c =
    subst (λ s. AreAssigned s.size c.args.picks.now (FExists c.args.v.0 (form_of c.in-Some.pre)))
    (sym c.new-evaluator.ensures.structure)
    (precondition-assigned-but (case_program c.args.c.now) c.requires.case.ready.valid c.args.c.now.job.now.number
    (case_action c.args.c.now) c.requires.case.job.action (form_of c.in-Some.pre) (ap pre_of c.in-Some.is)
    c.args.c.now.from.now.size c.args.picks.now c.args.v.0 c.requires.picks)

pub row-row-requires-clause-fits : goal.row-row-requires-clause-fits
row-row-requires-clause-fits c =
    subst (λ s. HasScratchFor (bound_room c.new-evaluator.result) (form_of c.in-Some.pre) s.size)
    (sym c.new-evaluator.ensures.structure)
    (subst (λ room. HasScratchFor room (form_of c.in-Some.pre) c.args.c.now.from.now.size)
    (sym c.new-evaluator.ensures.room)
    (room-fits c.args.c.now.setting.now c.args.scratch.now (form_of c.in-Some.pre) c.args.c.now.from.now.size
    c.requires.case.ready
    (precondition-room (case_program c.args.c.now) c.args.c.now.job.now.number (case_action c.args.c.now)
    c.requires.case.job.action (form_of c.in-Some.pre) (ap pre_of c.in-Some.is)) c.requires.case.is.table.size))

pub returns-in-None-clause-row : goal.returns-in-None-clause-row
returns-in-None-clause-row c =
    row-of-none (case_action c.args.c.now) (case_structure c.args.c.now) (assignment_of c.args.picks.now)
    c.args.v.0 c.of.result (ap pre_of c.in-None.is)
    (c.of.ensures ∙ ap (λ n. replicate n Yes) c.size.ensures.size)
