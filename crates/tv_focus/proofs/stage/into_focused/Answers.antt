use Rattle.std.proofs.Common.{◌≡◌, ◌∙◌, ap, sym, subst}
use Rattle.std.specs.Prelude.{IfOk, OnOk, Result, Ok, Err}
use Rattle.tv_lemmas.proofs.Options.{IfErr-weaker, OnOk-weaker}
use Rattle.tv_model.specs.Form.{form_of}
use Rattle.tv_focus_laws.specs.Stages.{atom_at}
use Rattle.tv_focus_laws.specs.Tables.{AreStage}
use Rattle.tv_focus_laws.specs.Written.{split_tables, stage_tables}
use Rattle.tv_focus.specs.Focused.{structures_in}
use Rattle.tv_focus.specs.Seen.{split_form}
use Rattle.tv_focus.specs.Stage.{AreSplitLimitsKept, IsSplitCause, IsStageCause, IsWithinLimits, KeepsHeaps}
use Rattle.tv_focus.proofs.Limits.{split-cause, stage-aim, stage-over, stage-within, tables-are-stage}
use Rattle.tv_focus.proofs.Limits.{tables-keep-heaps}
use Rattle.tv_focus.proofs.Sharp.{IsSharpStage, sharp-stage}
use Rattle.tv_focus.proofs.stage.into_focused.Goals as goal

-- what is known of an answer is carried on
ok-weaker : {T E : Type 0} (r : Result T E) (P Q : T → Type 0) (R : Type 0)
    → ((t : T) → P t → R → Q t) → IfOk r P → OnOk r R → IfOk r Q
ok-weaker (Ok t) P Q R each holds also = each t holds also
ok-weaker (Err e) P Q R each holds also = tt

pub is_sharp-requires : goal.is_sharp-requires
is_sharp-requires c =
    rw (c.in_ok-plan.ensures.pred, c.in_ok-plan.ensures.split)
    (stage-over c.args.s (form_of c.args.f.now) c.args.atom c.requires.formula c.requires.atom)

pub split_focused-requires-clause-over : goal.split_focused-requires-clause-over
split_focused-requires-clause-over c =
    rw (c.in_ok-plan.ensures.pred, c.in_ok-plan.ensures.split)
    (stage-over c.args.s (form_of c.args.f.now) c.args.atom c.requires.formula c.requires.atom)

pub split_focused-requires-clause-aim : goal.split_focused-requires-clause-aim
split_focused-requires-clause-aim c =
    rw (c.in_ok-plan.ensures.pred, c.in_ok-plan.ensures.split)
    (stage-aim c.args.s (form_of c.args.f.now) c.args.atom c.size.ensures.kept c.requires.formula c.requires.atom)

pub returns-then-is_sharp-clause-exact : goal.returns-then-is_sharp-clause-exact
returns-then-is_sharp-clause-exact c =
    let sharp : IsSharpStage c.args.s (form_of c.args.f.now) c.args.atom
    = sharp-stage c.args.s (form_of c.args.f.now) c.args.atom c.in_ok-plan.plan.pred.0 (split_form c.in_ok-plan.plan.split)
    c.size.ensures.kept c.requires.formula c.requires.atom c.in_ok-plan.ensures.pred c.in_ok-plan.ensures.split
    (c.is_sharp.ensures c.if-is_sharp.true)
    in sym sharp.same

pub returns-then-is_sharp-clause-stage : goal.returns-then-is_sharp-clause-stage
returns-then-is_sharp-clause-stage c =
    let sharp : IsSharpStage c.args.s (form_of c.args.f.now) c.args.atom
    = sharp-stage c.args.s (form_of c.args.f.now) c.args.atom c.in_ok-plan.plan.pred.0 (split_form c.in_ok-plan.plan.split)
    c.size.ensures.kept c.requires.formula c.requires.atom c.in_ok-plan.ensures.pred c.in_ok-plan.ensures.split
    (c.is_sharp.ensures c.if-is_sharp.true)
    in subst (AreStage c.args.s (form_of c.args.f.now) c.args.atom) sharp.same sharp.are

pub returns-then-is_sharp-clause-within : goal.returns-then-is_sharp-clause-within
returns-then-is_sharp-clause-within c =
    let sharp : IsSharpStage c.args.s (form_of c.args.f.now) c.args.atom
    = sharp-stage c.args.s (form_of c.args.f.now) c.args.atom c.in_ok-plan.plan.pred.0 (split_form c.in_ok-plan.plan.split)
    c.size.ensures.kept c.requires.formula c.requires.atom c.in_ok-plan.ensures.pred c.in_ok-plan.ensures.split
    (c.is_sharp.ensures c.if-is_sharp.true)
    in sharp.within

pub returns-clause-stage : goal.returns-clause-stage
returns-clause-stage c =
    let s = c.args.s
    in let f = form_of c.args.f.now
    in let plan = c.in_ok-plan.plan
    in let same : split_tables s plan.pred.0 (split_form plan.split) ≡ stage_tables s f c.args.atom
    = ap (λ pred. split_tables s pred (split_form plan.split)) c.in_ok-plan.ensures.pred
    ∙ ap (split_tables s (atom_at f c.args.atom).pred) c.in_ok-plan.ensures.split
    in ok-weaker c.split_focused.result (λ focused. structures_in focused ≡ split_tables s plan.pred.0 (split_form plan.split))
    (λ focused. AreStage s f c.args.atom (structures_in focused))
    (AreSplitLimitsKept s plan.pred.0 (split_form plan.split))
    (λ focused exact kept. subst (AreStage s f c.args.atom) (sym (exact ∙ same))
    (tables-are-stage s f c.args.atom plan.pred.0 (split_form plan.split) c.size.ensures.kept c.requires.formula
    c.requires.atom c.in_ok-plan.ensures.pred c.in_ok-plan.ensures.split kept))
    c.split_focused.ensures.exact c.split_focused.ensures.within

pub returns-clause-within : goal.returns-clause-within
returns-clause-within c =
    let plan = c.in_ok-plan.plan
    in OnOk-weaker c.split_focused.result (AreSplitLimitsKept c.args.s plan.pred.0 (split_form plan.split))
    (IsWithinLimits c.args.s (form_of c.args.f.now) c.args.atom)
    (stage-within c.args.s (form_of c.args.f.now) c.args.atom plan.pred.0 (split_form plan.split) c.size.ensures.kept
    c.in_ok-plan.ensures.pred c.in_ok-plan.ensures.split)
    c.split_focused.ensures.within

pub returns-clause-cause : goal.returns-clause-cause
returns-clause-cause c =
    let plan = c.in_ok-plan.plan
    in IfErr-weaker c.split_focused.result (IsSplitCause c.args.s plan.pred.0 (split_form plan.split))
    (IsStageCause c.args.s (form_of c.args.f.now) c.args.atom)
    (λ e cause. split-cause c.args.s (form_of c.args.f.now) c.args.atom plan.pred.0 (split_form plan.split) e
    c.in_ok-plan.ensures.pred c.in_ok-plan.ensures.split cause)
    c.split_focused.ensures.cause

pub returns-clause-heaps : goal.returns-clause-heaps
returns-clause-heaps c =
    let s = c.args.s
    in let f = form_of c.args.f.now
    in let plan = c.in_ok-plan.plan
    in let same : split_tables s plan.pred.0 (split_form plan.split) ≡ stage_tables s f c.args.atom
    = ap (λ pred. split_tables s pred (split_form plan.split)) c.in_ok-plan.ensures.pred
    ∙ ap (split_tables s (atom_at f c.args.atom).pred) c.in_ok-plan.ensures.split
    in ok-weaker c.split_focused.result (λ focused. structures_in focused ≡ split_tables s plan.pred.0 (split_form plan.split))
    (λ focused. KeepsHeaps s (structures_in focused))
    (AreSplitLimitsKept s plan.pred.0 (split_form plan.split))
    (λ focused exact kept. subst (KeepsHeaps s) (sym (exact ∙ same))
    (tables-keep-heaps s f c.args.atom
    (tables-are-stage s f c.args.atom plan.pred.0 (split_form plan.split) c.size.ensures.kept c.requires.formula
    c.requires.atom c.in_ok-plan.ensures.pred c.in_ok-plan.ensures.split kept)))
    c.split_focused.ensures.exact c.split_focused.ensures.within
