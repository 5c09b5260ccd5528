use Rattle.std.proofs.Common.{◌≡◌, ◌∙◌, [], ◌∷◌, ap, subst, sym}
use Rattle.std.specs.Prelude.{IfNone, IfSome}
use Rattle.tv_lemmas.proofs.Options.{IfErr-same}
use Rattle.tv_model.specs.Form.{form_of}
use Rattle.tv_focus_laws.specs.Tables.{AreStage}
use Rattle.tv_focus_laws.specs.Written.{stage_tables}
use Rattle.tv_focus.specs.Stage.{IsStageCause, KeepsHeaps}
use Rattle.tv_focus.proofs.Limits.{tables-keep-heaps}
use Rattle.tv_focus.proofs.stage.focus_stage.Goals as goal

pub returns-in_err-staged-clause-cause : goal.returns-in_err-staged-clause-cause
returns-in_err-staged-clause-cause c =
    IfErr-same (IsStageCause c.args.s.now (form_of c.args.f.now) c.args.atom) c.from_residual-in_err-staged.result
    c.in_err-staged.field-0.0 c.from_residual-in_err-staged.ensures.1
    (subst (λ f. IsStageCause c.args.s.now (form_of f) c.args.atom c.in_err-staged.field-0.0) c.in_ok-atoms.ensures
    c.in_err-staged.ensures.cause)

pub returns-in-None-clause-stage : goal.returns-in-None-clause-stage
returns-in-None-clause-stage c =
    let s = c.args.s.now
    in let same : stage_tables s (form_of c.in_ok-atoms.atoms) c.args.atom ≡ s ∷ []
    = subst (λ found. IfNone found (stage_tables s (form_of c.in_ok-atoms.atoms) c.args.atom ≡ s ∷ [])) c.in-None.is
    c.in_ok-staged.ensures.same
    in let own : c.in_ok-one-in-None.field-0 ≡ s ∷ [] = c.in_ok-one-in-None.ensures
    in subst (λ f. AreStage s (form_of f) c.args.atom c.in_ok-one-in-None.field-0) c.in_ok-atoms.ensures
    (subst (AreStage s (form_of c.in_ok-atoms.atoms) c.args.atom) (same ∙ sym own) c.in_ok-staged.ensures.stage)

pub returns-clause-heaps : goal.returns-clause-heaps
returns-clause-heaps c =
    let s = c.args.s.now
    in let same : c.in-Some.structures ≡ stage_tables s (form_of c.args.f.now) c.args.atom
    = subst (λ found. IfSome found (λ ts. ts ≡ stage_tables s (form_of c.in_ok-atoms.atoms) c.args.atom)) c.in-Some.is
    c.in_ok-staged.ensures.choices
    ∙ ap (λ f. stage_tables s (form_of f) c.args.atom) c.in_ok-atoms.ensures
    in subst (KeepsHeaps s) (sym same)
    (tables-keep-heaps s (form_of c.args.f.now) c.args.atom
    (subst (λ f. AreStage s (form_of f) c.args.atom (stage_tables s (form_of f) c.args.atom)) c.in_ok-atoms.ensures
    c.in_ok-staged.ensures.stage))
