-- By the reading.
use Rattle.std.proofs.Common.{[], ◌∷◌, ◌∙◌, ap, subst, sym}
use Rattle.tv_kleene.specs.declared.K3.TheVariants.{Yes}
use Rattle.tv_model.specs.Form.{FAtom}
use Rattle.tv_coerce_members.specs.Members.{IsReadAs}
use Rattle.tv_structure_form.specs.StructureForm.{structure_of, value_at}
use Rattle.tv_eval_laws.specs.Value.{same_value}
use Rattle.tv_coerce.specs.Counting.{RestsOn}
use Rattle.tv_coerce.proofs.Narrowing.{all-places, along-tells, atom-read, same-read}
use Rattle.tv_coerce.proofs.Reading.{alone-along, first-along, same-along, second-along, signed-along}
use Rattle.tv_coerce.proofs.narrow.read_with.Goals as goal

pub returns-in-Alone-clause-long : goal.returns-in-Alone-clause-long
returns-in-Alone-clause-long c =
    (c.signed.ensures (λ x. value_at c.args.s.now c.in-Alone.p.0 (x ∷ []))
    (record { long = c.unary_word.ensures.long; each = c.unary_word.ensures.values })).long

pub returns-in-Alone-clause-tells : goal.returns-in-Alone-clause-tells
returns-in-Alone-clause-tells c = λ w v b m is rests e within.
    let s = c.args.s.now
    in let read = subst (λ r. IsReadAs w r m.form) c.in-Alone.is is
    in along-tells s b w m c.signed.result (atom-read c.in-Alone.flag m.form c.in-Alone.p.0 (w ∷ []) read)
    (signed-along s b w 0 c.in-Alone.flag m.form (FAtom c.in-Alone.p.0 (w ∷ [])) c.unary_word.result c.signed.result read
    (alone-along s b w 0 c.in-Alone.p.0 c.unary_word.result c.unary_word.ensures.long c.unary_word.ensures.values) c.signed.ensures)
    within c.requires.few.1

pub returns-in-Second-clause-long : goal.returns-in-Second-clause-long
returns-in-Second-clause-long c =
    (c.signed-in-Second.ensures (λ x. value_at c.args.s.now c.in-Second.p.0 (c.args.u ∷ x ∷ []))
    (record { long = c.word.ensures.long; each = c.word.ensures.values })).long

pub returns-in-Second-clause-tells : goal.returns-in-Second-clause-tells
returns-in-Second-clause-tells c = λ w v b m is rests e within.
    let s = c.args.s.now
    in let read = subst (λ r. IsReadAs w r m.form) c.in-Second.is is
    in let at = subst (RestsOn v) c.in-Second.is rests
    in along-tells s b w m c.signed-in-Second.result (atom-read c.in-Second.flag m.form c.in-Second.p.0 (_ ∷ w ∷ []) read.0)
    (signed-along s b w 0 c.in-Second.flag m.form (FAtom c.in-Second.p.0 (_ ∷ w ∷ [])) c.word.result c.signed-in-Second.result read.0
    (second-along s b w 0 c.in-Second.p.0 _ c.args.u c.word.result read.1 (sym e ∙ ap b (sym at)) c.word.ensures.long c.word.ensures.values)
    c.signed-in-Second.ensures)
    within c.requires.few.1

pub returns-in-First-clause-long : goal.returns-in-First-clause-long
returns-in-First-clause-long c =
    (c.signed-in-First.ensures (λ x. value_at c.args.s.now c.in-First.p.0 (x ∷ c.args.u ∷ []))
    (record { long = c.column_word.ensures.long; each = c.column_word.ensures.values })).long

pub returns-in-First-clause-tells : goal.returns-in-First-clause-tells
returns-in-First-clause-tells c = λ w v b m is rests e within.
    let s = c.args.s.now
    in let read = subst (λ r. IsReadAs w r m.form) c.in-First.is is
    in let at = subst (RestsOn v) c.in-First.is rests
    in along-tells s b w m c.signed-in-First.result (atom-read c.in-First.flag m.form c.in-First.p.0 (w ∷ _ ∷ []) read.0)
    (signed-along s b w 0 c.in-First.flag m.form (FAtom c.in-First.p.0 (w ∷ _ ∷ [])) c.column_word.result c.signed-in-First.result read.0
    (first-along s b w 0 c.in-First.p.0 _ c.args.u c.column_word.result read.1 (sym e ∙ ap b (sym at)) c.column_word.ensures.long
    c.column_word.ensures.values)
    c.signed-in-First.ensures)
    within c.requires.few.1

pub returns-in-Same-clause-long : goal.returns-in-Same-clause-long
returns-in-Same-clause-long c =
    (c.signed-in-Same.ensures (λ x. same_value (structure_of c.args.s.now) x c.args.u) c.same_as.ensures).long

pub returns-in-Same-clause-tells : goal.returns-in-Same-clause-tells
returns-in-Same-clause-tells c = λ w v b m is rests e within.
    let s = c.args.s.now
    in let read = subst (λ r. IsReadAs w r m.form) c.in-Same.is is
    in let at = subst (RestsOn v) c.in-Same.is rests
    in along-tells s b w m c.signed-in-Same.result (same-read c.in-Same.flag m.form w _ read.0)
    (same-along s b w 0 c.in-Same.flag m.form _ c.args.u c.same_as.result c.signed-in-Same.result read.1 (sym e ∙ ap b (sym at)) read.0
    c.same_as.ensures c.signed-in-Same.ensures)
    within c.requires.few.1

pub returns-in-Other-clause-long : goal.returns-in-Other-clause-long
returns-in-Other-clause-long c = (all-places Yes c.of.result c.of.ensures).0

pub returns-in-Other-clause-tells : goal.returns-in-Other-clause-tells
returns-in-Other-clause-tells c = λ w v b m is rests e within. absurd (subst (RestsOn v) c.in-Other.is rests)
