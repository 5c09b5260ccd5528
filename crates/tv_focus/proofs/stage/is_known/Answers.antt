use Rattle.std.proofs.Common.{◌≡◌, subst}
use Rattle.tv_model.specs.Form.{form_of}
use Rattle.tv_focus_laws.specs.Tables.{AreStage}
use Rattle.tv_focus.specs.Seen.{split_form}
use Rattle.tv_focus.proofs.Limits.{stage-over}
use Rattle.tv_focus.proofs.Sharp.{IsSharpStage, sharp-stage}
use Rattle.tv_focus.proofs.stage.is_known.Goals as goal

pub is_sharp-requires : goal.is_sharp-requires
is_sharp-requires c =
    rw (c.in_ok-plan.ensures.pred, c.in_ok-plan.ensures.split)
    (stage-over c.args.s.now (form_of c.args.f.now) c.args.atom c.requires.formula c.requires.atom)

pub returns-clause-stage : goal.returns-clause-stage
returns-clause-stage c known =
    let sharp : IsSharpStage c.args.s.now (form_of c.args.f.now) c.args.atom
    = sharp-stage c.args.s.now (form_of c.args.f.now) c.args.atom c.in_ok-plan.plan.pred.0 (split_form c.in_ok-plan.plan.split)
    c.size.ensures.kept c.requires.formula c.requires.atom c.in_ok-plan.ensures.pred c.in_ok-plan.ensures.split
    (c.is_sharp.ensures known)
    in subst (AreStage c.args.s.now (form_of c.args.f.now) c.args.atom) sharp.same sharp.are

pub returns-clause-within : goal.returns-clause-within
returns-clause-within c known =
    let sharp : IsSharpStage c.args.s.now (form_of c.args.f.now) c.args.atom
    = sharp-stage c.args.s.now (form_of c.args.f.now) c.args.atom c.in_ok-plan.plan.pred.0 (split_form c.in_ok-plan.plan.split)
    c.size.ensures.kept c.requires.formula c.requires.atom c.in_ok-plan.ensures.pred c.in_ok-plan.ensures.split
    (c.is_sharp.ensures known)
    in sharp.within
