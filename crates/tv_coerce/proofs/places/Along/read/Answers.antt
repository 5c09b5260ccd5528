-- The member is what the reading says.
use Rattle.std.proofs.Common.{[], ◌∷◌, subst}
use Rattle.tv_model.specs.Form.{FAtom}
use Rattle.tv_coerce_members.specs.Members.{IsReadAs}
use Rattle.tv_eval.specs.Along.{IsWordAlong}
use Rattle.tv_eval.specs.AssignmentForm.{assignment_of}
use Rattle.tv_eval.specs.Bound.{bound_structure}
use Rattle.tv_coerce.specs.Counting.{IsReadOf, members_in}
use Rattle.tv_coerce.proofs.Reading.{alone-along, first-along, indexed-member, same-along, same-member}
use Rattle.tv_coerce.proofs.Reading.{read-of, second-along, signed-along}
use Rattle.tv_coerce.proofs.places.Along.read.Goals as goal

pub returns-in-Alone-clause-word : goal.returns-in-Alone-clause-word
returns-in-Alone-clause-word c = λ m at.
    let s = c.args.self.now.trial.now.structure.now
    in let a = assignment_of c.args.self.now.a.now
    in let v = c.args.self.now.span.v.0
    in let f = c.requires.can.member.form
    in same-member (members_in c.args.self.now.trial.now) c.args.step.now.member c.requires.can.member m
    c.requires.can.there at
    (λ n. IsReadOf s a v c.args.self.now.span.chunk n.form c.args.word c.signed.result)
    (read-of s a v c.args.self.now.span.chunk f c.args.word c.signed.result
    (signed-along s a v c.args.self.now.span.chunk c.in-Alone.flag f (FAtom c.in-Alone.p.0 (v ∷ []))
    c.unary_word.result c.signed.result
    (subst (λ r. IsReadAs v r f) c.in-Alone.is c.requires.can.read)
    (alone-along s a v c.args.self.now.span.chunk c.in-Alone.p.0 c.unary_word.result c.unary_word.ensures.long
    c.unary_word.ensures.values)
    c.signed.ensures))

pub returns-in-Second-clause-word : goal.returns-in-Second-clause-word
returns-in-Second-clause-word c = λ m at.
    let s = c.args.self.now.trial.now.structure.now
    in let a = assignment_of c.args.self.now.a.now
    in let v = c.args.self.now.span.v.0
    in let f = c.requires.can.member.form
    in let read = subst (λ r. IsReadAs v r f) c.in-Second.is c.requires.can.read
    in same-member (members_in c.args.self.now.trial.now) c.args.step.now.member c.requires.can.member m
    c.requires.can.there at
    (λ n. IsReadOf s a v c.args.self.now.span.chunk n.form c.args.word c.signed-in-Second.result)
    (read-of s a v c.args.self.now.span.chunk f c.args.word c.signed-in-Second.result
    (signed-along s a v c.args.self.now.span.chunk c.in-Second.flag f (FAtom c.in-Second.p.0 (c.in-Second.x.0 ∷ v ∷
    [])) c.word.result
    c.signed-in-Second.result read.0
    (second-along s a v c.args.self.now.span.chunk c.in-Second.p.0 c.in-Second.x.0 c.at.result c.word.result read.1
    c.at.ensures
    c.word.ensures.long c.word.ensures.values) c.signed-in-Second.ensures))

pub returns-in-First-clause-word : goal.returns-in-First-clause-word
returns-in-First-clause-word c = λ m at.
    let s = c.args.self.now.trial.now.structure.now
    in let a = assignment_of c.args.self.now.a.now
    in let v = c.args.self.now.span.v.0
    in let f = c.requires.can.member.form
    in let read = subst (λ r. IsReadAs v r f) c.in-First.is c.requires.can.read
    in same-member (members_in c.args.self.now.trial.now) c.args.step.now.member c.requires.can.member m
    c.requires.can.there at
    (λ n. IsReadOf s a v c.args.self.now.span.chunk n.form c.args.word c.signed-in-First.result)
    (read-of s a v c.args.self.now.span.chunk f c.args.word c.signed-in-First.result
    (signed-along s a v c.args.self.now.span.chunk c.in-First.flag f (FAtom c.in-First.p.0 (v ∷ c.in-First.x.0 ∷
    [])) c.column_word.result
    c.signed-in-First.result read.0
    (first-along s a v c.args.self.now.span.chunk c.in-First.p.0 c.in-First.x.0 c.at-in-First.result
    c.column_word.result read.1
    c.at-in-First.ensures c.column_word.ensures.long c.column_word.ensures.values) c.signed-in-First.ensures))

pub returns-in-Same-clause-word : goal.returns-in-Same-clause-word
returns-in-Same-clause-word c = λ m at.
    let s = c.args.self.now.trial.now.structure.now
    in let a = assignment_of c.args.self.now.a.now
    in let v = c.args.self.now.span.v.0
    in let f = c.requires.can.member.form
    in let read = subst (λ r. IsReadAs v r f) c.in-Same.is c.requires.can.read
    in same-member (members_in c.args.self.now.trial.now) c.args.step.now.member c.requires.can.member m
    c.requires.can.there at
    (λ n. IsReadOf s a v c.args.self.now.span.chunk n.form c.args.word c.signed-in-Same.result)
    (read-of s a v c.args.self.now.span.chunk f c.args.word c.signed-in-Same.result
    (same-along s a v c.args.self.now.span.chunk c.in-Same.flag f c.in-Same.x.0 c.at-in-Same.result c.same_as.result
    c.signed-in-Same.result read.1 c.at-in-Same.ensures read.0 c.same_as.ensures c.signed-in-Same.ensures))

pub returns-then-not-has_few-clause-word : goal.returns-then-not-has_few-clause-word
returns-then-not-has_few-clause-word c = λ m at.
    let a = assignment_of c.args.self.now.a.now
    in let x = c.index-members-step.result
    in let is = indexed-member c.as_slice-members.result.now c.args.self.now.trial.now.shape.now.members
    c.args.step.now.member x m
    c.as_slice-members.ensures c.index-members-step.is at
    in read-of c.args.self.now.trial.now.structure.now a c.args.self.now.span.v.0 c.args.self.now.span.chunk m.form
    c.args.word c.word-then-not-has_few.result
    (subst (λ t. IsWordAlong t a c.args.self.now.span.v.0 c.args.self.now.span.chunk m.form
    c.word-then-not-has_few.result) c.requires.along.structure
    (subst (λ n. IsWordAlong (bound_structure c.args.evaluator.now) a c.args.self.now.span.v.0
    c.args.self.now.span.chunk n.form c.word-then-not-has_few.result) is
    c.word-then-not-has_few.ensures.exact))
