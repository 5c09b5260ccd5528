use Rattle.std.proofs.Common.{◌∙◌, ◌≤◌, length, ap, sym, subst, All}
use Rattle.std.specs.List.{range_with_len}
use Rattle.std.proofs.lemmas.List.{length-map}
use Rattle.tv_lemmas.proofs.Options.{IfErr-weaker, OnOk-weaker}
use Rattle.tv_update_laws.specs.Picks.{lists_of}
use Rattle.tv_eval.specs.AssignmentForm.{assignment_of}
use Rattle.tv_model.specs.Program.{picks_of}
use Rattle.tv_model.specs.Valid.{IsVariable}
use Rattle.tv_step.specs.Job.{case_program, case_action, case_mode, case_structure}
use Rattle.tv_step.specs.Steps.{Adds, PicksGive, PicksKeepLimits, StepsIn, KeepsUpdateLimits, IsCauseOfPicks}
use Rattle.tv_step.specs.Steps.{IsCauseOfUpdate}
use Rattle.tv_step.proofs.Evaluating.{nobody-blank}
use Rattle.tv_step.proofs.Picking.{steps-add, steps-cause, steps-within}
use Rattle.tv_step.proofs.Variables.{picked-in_range}
use Rattle.tv_step.proofs.picks.apply_action.Goals as goal

pub pick_left-requires-clause-left : goal.pick_left-requires-clause-left
pick_left-requires-clause-left c =
    subst (λ vars. All IsVariable (picks_of vars)) (sym c.as_slice-picked.ensures)
    (picked-in_range (case_program c.args.c.now) c.requires.case.ready.valid c.args.c.now.job.now.number
    (case_action c.args.c.now) c.requires.case.job.action)

pub returns-clause-out : goal.returns-clause-out
returns-clause-out c =
    let p = case_program c.args.c.now
    in let mode = case_mode c.args.c.now
    in let action = case_action c.args.c.now
    in let s = case_structure c.args.c.now
    in let a = assignment_of c.new.result
    in OnOk-weaker c.pick_left.result
    (Adds (PicksGive p mode action s (picks_of c.as_slice-picked.result.now)) a c.args.out.now
    c.pick_left.new.out)
    (Adds (StepsIn p mode action) s c.args.out.now c.pick_left.new.out)
    (λ added. steps-add p mode action s a c.args.out.now c.pick_left.new.out
    (nobody-blank c.new.result c.new.ensures)
    (subst (λ vars. Adds (PicksGive p mode action s (picks_of vars)) a c.args.out.now c.pick_left.new.out)
    c.as_slice-picked.ensures added)) c.pick_left.ensures.out

pub returns-clause-within : goal.returns-clause-within
returns-clause-within c =
    let action = case_action c.args.c.now
    in let s = case_structure c.args.c.now
    in let a = assignment_of c.new.result
    in OnOk-weaker c.pick_left.result (PicksKeepLimits action s (picks_of c.as_slice-picked.result.now) a)
    (KeepsUpdateLimits action s)
    (λ limits. steps-within action s a (nobody-blank c.new.result c.new.ensures)
    (subst (λ n. length (lists_of (range_with_len 0 n) (length action.picks)) ≤ 4096) c.size.ensures.size
    (subst (λ n. length (lists_of (range_with_len 0 c.size.result) n) ≤ 4096)
    (ap length c.as_slice-picked.ensures ∙ sym (length-map c.args.c.now.job.now.action.now.picks (λ v. v.0)))
    (c.are_few.ensures.0 c.if-not-are_few.false)))
    (subst (λ vars. PicksKeepLimits action s (picks_of vars) a) c.as_slice-picked.ensures limits))
    c.pick_left.ensures.within

pub returns-clause-cause : goal.returns-clause-cause
returns-clause-cause c =
    let action = case_action c.args.c.now
    in let s = case_structure c.args.c.now
    in let a = assignment_of c.new.result
    in IfErr-weaker c.pick_left.result (IsCauseOfPicks action s (picks_of c.as_slice-picked.result.now) a)
    (IsCauseOfUpdate action s)
    (λ e cause. steps-cause action s a e (nobody-blank c.new.result c.new.ensures)
    (subst (λ vars. IsCauseOfPicks action s (picks_of vars) a e) c.as_slice-picked.ensures cause))
    c.pick_left.ensures.cause
