use Rattle.std.proofs.Common.{sym, subst}
use Rattle.tv_eval.specs.AssignmentForm.{assignment_of}
use Rattle.tv_eval.specs.Formulas.{AreAssigned}
use Rattle.tv_model.specs.Form.{form_of}
use Rattle.tv_model.specs.Truth.{Truth}
use Rattle.tv_two_valued.specs.TwoValued.{heap_of}
use Rattle.tv_coerce_members.specs.Members.{numbers_of}
use Rattle.tv_replay_judge.proofs.Tried.{settled-granted}
use Rattle.tv_replay_judge.proofs.Walked.{settled-assigned}
use Rattle.tv_replay_judge.proofs.trial.is_granted.Goals as goal

pub holds-requires-clause-assigned : goal.holds-requires-clause-assigned
holds-requires-clause-assigned c =
    subst (λ t. AreAssigned t.size c.args.a.now (form_of c.args.f.now)) (sym c.requires.can.0)
    (settled-assigned c.args.s.now.size (numbers_of c.args.rest.now) c.args.a.now (form_of c.args.f.now)
    c.requires.can.2
    (c.is_settled.ensures c.if-is_settled.true))

pub returns-then-is_settled-clause-granted : goal.returns-then-is_settled-clause-granted
returns-then-is_settled-clause-granted c yes_ =
    settled-granted (heap_of c.args.s.now) (numbers_of c.args.rest.now) (assignment_of c.args.a.now) (form_of c.args.f.now)
    (c.is_settled.ensures c.if-is_settled.true)
    (subst (λ t. Truth (heap_of t) (assignment_of c.args.a.now) (form_of c.args.f.now)) c.requires.can.0 (c.holds.ensures.truth.0 yes_))
