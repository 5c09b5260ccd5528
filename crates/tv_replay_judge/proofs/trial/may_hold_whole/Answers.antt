use Rattle.std.proofs.Common.{◌∙◌, sym, subst}
use Rattle.std.proofs.lemmas.Bool.{false≢true}
use Rattle.tv_eval.specs.AssignmentForm.{assignment_of}
use Rattle.tv_eval.specs.Formulas.{AreAssigned}
use Rattle.tv_model.specs.Form.{form_of}
use Rattle.tv_model.specs.Truth.{Truth}
use Rattle.tv_two_valued.specs.TwoValued.{heap_of}
use Rattle.tv_coerce_members.specs.Members.{numbers_of}
use Rattle.tv_replay_judge.proofs.Tried.{settled-out}
use Rattle.tv_replay_judge.proofs.Walked.{settled-assigned}
use Rattle.tv_replay_judge.proofs.trial.may_hold_whole.Goals as goal

pub holds-requires-clause-assigned : goal.holds-requires-clause-assigned
holds-requires-clause-assigned c =
    subst (λ t. AreAssigned t.size c.args.a.now (form_of c.args.f.now)) (sym c.requires.can.0)
    (settled-assigned c.args.s.now.size (numbers_of c.args.rest.now) c.args.a.now (form_of c.args.f.now)
    c.requires.can.2
    (c.is_settled.ensures c.if-not-is_settled.false))

pub returns-else-not-is_settled-clause-out : goal.returns-else-not-is_settled-clause-out
returns-else-not-is_settled-clause-out c no_ =
    settled-out (heap_of c.args.s.now) (numbers_of c.args.rest.now) (assignment_of c.args.a.now) (form_of c.args.f.now)
    (c.is_settled.ensures c.if-not-is_settled.false)
    (λ truth. false≢true (sym no_ ∙ c.holds.ensures.truth.1
    (subst (λ t. Truth (heap_of t) (assignment_of c.args.a.now) (form_of c.args.f.now)) (sym c.requires.can.0) truth)))
