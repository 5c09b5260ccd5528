-- One member more.
use Rattle.std.proofs.Common.{◌∙◌}
use Rattle.std.proofs.Common.{subst, sym}
use Rattle.std.proofs.lemmas.Option.{slice_get-get_or}
use Rattle.tv_eval.specs.AssignmentForm.{assignment_of}
use Rattle.tv_coerce.specs.Counting.{members_in}
use Rattle.tv_coerce.proofs.Counts.{TellsBy, tells-more, tells-whole}
use Rattle.tv_coerce.proofs.counting.count.Goals as goal

pub loop-step-preserved : goal.loop-step-preserved
loop-step-preserved c =
    let s = c.args.trial.now.structure.now
    in let can = c.requires.can c.loop-step.step-index _ c.loop-step-test.true
    in (
      c.count_step.ensures.same ∙ c.loop-step.invariant.0,
      c.if-is_no.ensures,
      subst (TellsBy s (assignment_of c.args.a.now) (members_in c.args.trial.now) c.args.steps.now _) (sym c.counted-found.ensures)
          (tells-more s (assignment_of c.args.a.now) (members_in c.args.trial.now) c.args.steps.now c.loop-step.step-index _ can.member
          c.loop-step.found c.count_step.result
          (slice_get-get_or c.args.steps.now c.loop-step.step-index _ c.loop-step-test.true) can.there c.loop-step.invariant.1
          c.loop-step.invariant.2 (c.count_step.ensures.tells can.member can.there)),
    )

pub returns-then-is_no-clause-tells : goal.returns-then-is_no-clause-tells
returns-then-is_no-clause-tells c = λ left last are.
    let s = c.args.trial.now.structure.now
    in let can = c.requires.can c.loop-step.step-index _ c.loop-step-test.true
    in tells-whole s (assignment_of c.args.a.now) (members_in c.args.trial.now) c.args.steps.now left last are _ c.counted-found.result
    (subst (TellsBy s (assignment_of c.args.a.now) (members_in c.args.trial.now) c.args.steps.now _) (sym c.counted-found.ensures)
    (tells-more s (assignment_of c.args.a.now) (members_in c.args.trial.now) c.args.steps.now c.loop-step.step-index _ can.member
    c.loop-step.found c.count_step.result
    (slice_get-get_or c.args.steps.now c.loop-step.step-index _ c.loop-step-test.true) can.there c.loop-step.invariant.1
    c.loop-step.invariant.2 (c.count_step.ensures.tells can.member can.there)))

pub returns-clause-tells : goal.returns-clause-tells
returns-clause-tells c = λ left last are.
    tells-whole c.args.trial.now.structure.now (assignment_of c.args.a.now) (members_in c.args.trial.now) c.args.steps.now left last are
    c.loop-step.step-index c.loop-step.found c.loop-step.invariant.2
