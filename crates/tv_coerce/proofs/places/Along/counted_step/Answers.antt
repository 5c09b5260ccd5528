-- One member.
use Rattle.std.proofs.Common.{◌≢◌, subst, sym, ap, ◌∙◌}
use Rattle.tv_kleene.specs.declared.K3.TheVariants.{Yes}
use Rattle.tv_kleene.specs.Kleene.{smaller_of}
use Rattle.tv_row.specs.Bits.{paired}
use Rattle.tv_eval.specs.AssignmentForm.{assignment_of}
use Rattle.tv_eval_laws.specs.Value.{value}
use Rattle.tv_structure_form.specs.StructureForm.{structure_of}
use Rattle.tv_coerce.specs.Counting.{IsBarring, IsCounted, members_in}
use Rattle.tv_coerce.proofs.Counts.{literal-counted, other-counted}
use Rattle.tv_coerce.proofs.Reading.{same-member}
use Rattle.tv_coerce.proofs.places.Along.counted_step.Goals as goal

pub returns-then-step-clause-counted : goal.returns-then-step-clause-counted
returns-then-step-clause-counted c = λ m at.
    let s = c.args.self.now.trial.now.structure.now
    in let a = assignment_of c.args.self.now.a.now
    in let can = c.requires.can
    in same-member (members_in c.args.self.now.trial.now) c.args.step.now.member can.member m can.there at
    (λ n. IsCounted s.size a c.args.self.now.span.v.0 c.args.self.now.span.chunk (λ b. value (structure_of s) b
    n.form ≢ Yes) (λ b. IsBarring s b n) c.args.word
    c.counted.result)
    (subst (IsCounted s.size a c.args.self.now.span.v.0 c.args.self.now.span.chunk (λ b. value (structure_of s) b
    can.member.form ≢ Yes)
    (λ b. IsBarring s b can.member) c.args.word) (sym c.counted.ensures)
    (literal-counted s a c.args.self.now.span.v.0 c.args.self.now.span.chunk can.member c.args.word
    c.read-values.result c.requires.along.long
    (c.read-values.ensures.word can.member can.there) (can.literal ∙ c.if-step.true)))

pub returns-else-step-clause-counted : goal.returns-else-step-clause-counted
returns-else-step-clause-counted c = λ m at.
    let s = c.args.self.now.trial.now.structure.now
    in let a = assignment_of c.args.self.now.a.now
    in let can = c.requires.can
    in same-member (members_in c.args.self.now.trial.now) c.args.step.now.member can.member m can.there at
    (λ n. IsCounted s.size a c.args.self.now.span.v.0 c.args.self.now.span.chunk (λ b. value (structure_of s) b
    n.form ≢ Yes) (λ b. IsBarring s b n) c.args.word
    c.and.result)
    (subst (IsCounted s.size a c.args.self.now.span.v.0 c.args.self.now.span.chunk (λ b. value (structure_of s) b
    can.member.form ≢ Yes)
    (λ b. IsBarring s b can.member) c.args.word) (sym (c.and.ensures ∙ ap (λ w. paired smaller_of c.args.word w) c.unless_no.ensures))
    (other-counted s a c.args.self.now.span.v.0 c.args.self.now.span.chunk can.member c.args.word
    c.read-values.result c.requires.along.long
    (c.read-values.ensures.word can.member can.there) (can.literal ∙ c.if-step.false)))
