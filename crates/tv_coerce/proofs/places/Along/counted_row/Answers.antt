-- A row of the structure is a literal's.
use Rattle.std.proofs.Common.{[], ◌∷◌, ◌≢◌, subst, sym}
use Rattle.tv_kleene.specs.declared.K3.TheVariants.{Yes}
use Rattle.tv_model.specs.Form.{FAtom}
use Rattle.tv_coerce_members.specs.Members.{IsReadAs}
use Rattle.tv_eval.specs.AssignmentForm.{assignment_of}
use Rattle.tv_eval_laws.specs.Value.{value}
use Rattle.tv_structure_form.specs.StructureForm.{structure_of}
use Rattle.tv_coerce.specs.Counting.{IsBarring, IsCounted, members_in}
use Rattle.tv_coerce.proofs.Counts.{literal-counted}
use Rattle.tv_coerce.proofs.Reading.{literal-atom, read-of, same-member, second-along, signed-along}
use Rattle.tv_coerce.proofs.places.Along.counted_row.Goals as goal

pub returns-in-Second : goal.returns-in-Second
returns-in-Second c = λ m at.
    let s = c.args.self.now.trial.now.structure.now
    in let a = assignment_of c.args.self.now.a.now
    in let v = c.args.self.now.span.v.0
    in let can = c.requires.can.1
    in let f = can.member.form
    in let atom = FAtom c.in-Second.p.0 (c.in-Second.x.0 ∷ v ∷ [])
    in let read = subst (λ r. IsReadAs v r f) c.in-Second.is can.read
    in same-member (members_in c.args.self.now.trial.now) c.args.step.now.member can.member m can.there at
    (λ n. IsCounted s.size a v c.args.self.now.span.chunk (λ b. value (structure_of s) b n.form ≢ Yes) (λ b.
    IsBarring s b n) c.args.word
    c.counted.result)
    (subst (IsCounted s.size a v c.args.self.now.span.chunk (λ b. value (structure_of s) b f ≢ Yes) (λ b. IsBarring
    s b can.member) c.args.word)
    (sym c.counted.ensures)
    (literal-counted s a v c.args.self.now.span.chunk can.member c.args.word c.signed-values.result c.requires.long
    (read-of s a v c.args.self.now.span.chunk f c.args.word c.signed-values.result
    (signed-along s a v c.args.self.now.span.chunk c.in-Second.flag f atom c.word.result c.signed-values.result read.0
    (second-along s a v c.args.self.now.span.chunk c.in-Second.p.0 c.in-Second.x.0 c.at.result c.word.result read.1
    c.at.ensures
    c.word.ensures.long c.word.ensures.values) c.signed-values.ensures))
    (literal-atom c.in-Second.flag f c.in-Second.p.0 (c.in-Second.x.0 ∷ v ∷ []) read.0)))
