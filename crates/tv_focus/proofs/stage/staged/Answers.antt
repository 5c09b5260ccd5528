use Rattle.tv_model.specs.Form.{form_of}
use Rattle.tv_focus.specs.Seen.{split_form}
use Rattle.tv_focus.proofs.Limits.{stage-over, stage-within, split-cause, tables-are-stage}
use Rattle.tv_focus.proofs.Sharp.{IsSharpStage, sharp-stage}
use Rattle.tv_focus.proofs.stage.staged.Goals as goal

pub is_sharp-requires : goal.is_sharp-requires
is_sharp-requires c =
    rw (c.in_ok-plan.ensures.pred, c.in_ok-plan.ensures.split)
    (stage-over c.args.s.now (form_of c.args.f.now) c.args.atom c.requires.formula c.requires.atom)

pub split_structures-requires : goal.split_structures-requires
split_structures-requires c = record {
  split = rw (c.in_ok-plan.ensures.pred, c.in_ok-plan.ensures.split)
      (stage-over c.args.s.now (form_of c.args.f.now) c.args.atom c.requires.formula c.requires.atom);
}

pub returns-then-is_sharp : goal.returns-then-is_sharp
returns-then-is_sharp c =
    let sharp : IsSharpStage c.args.s.now (form_of c.args.f.now) c.args.atom
    = sharp-stage c.args.s.now (form_of c.args.f.now) c.args.atom c.in_ok-plan.plan.pred.0 (split_form c.in_ok-plan.plan.split)
    c.size.ensures.kept c.requires.formula c.requires.atom c.in_ok-plan.ensures.pred c.in_ok-plan.ensures.split
    (c.is_sharp.ensures c.if-is_sharp.true)
    in record { same = sharp.same; choices = tt; stage = sharp.are; within = sharp.within; cause = tt }

pub returns-in-Ok-clause-choices : goal.returns-in-Ok-clause-choices
returns-in-Ok-clause-choices c =
    rw (c.in-Ok.ensures.exact, c.in_ok-plan.ensures.pred, c.in_ok-plan.ensures.split)

pub returns-in-Ok-clause-stage : goal.returns-in-Ok-clause-stage
returns-in-Ok-clause-stage c =
    tables-are-stage c.args.s.now (form_of c.args.f.now) c.args.atom c.in_ok-plan.plan.pred.0 (split_form c.in_ok-plan.plan.split)
    c.size.ensures.kept c.requires.formula c.requires.atom c.in_ok-plan.ensures.pred c.in_ok-plan.ensures.split
    c.in-Ok.ensures.within

pub returns-in-Ok-clause-within : goal.returns-in-Ok-clause-within
returns-in-Ok-clause-within c =
    stage-within c.args.s.now (form_of c.args.f.now) c.args.atom c.in_ok-plan.plan.pred.0 (split_form c.in_ok-plan.plan.split)
    c.size.ensures.kept c.in_ok-plan.ensures.pred c.in_ok-plan.ensures.split c.in-Ok.ensures.within

pub returns-clause-cause : goal.returns-clause-cause
returns-clause-cause c =
    split-cause c.args.s.now (form_of c.args.f.now) c.args.atom c.in_ok-plan.plan.pred.0 (split_form c.in_ok-plan.plan.split)
    c.in-Err.error c.in_ok-plan.ensures.pred c.in_ok-plan.ensures.split c.in-Err.ensures.cause
