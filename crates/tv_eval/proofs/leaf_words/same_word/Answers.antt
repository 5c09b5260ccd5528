use Rattle.std.proofs.Common.{ℕ, ◌∙◌, if◌then◌else◌, refl, sym, arith}
use Rattle.tv_kleene.specs.declared.K3.{K3}
use Rattle.tv_kleene.specs.declared.K3.TheVariants.{No, Half}
use Rattle.tv_kleene.specs.Kleene.{negation_of}
use Rattle.tv_model.specs.Truth.{put}
use Rattle.tv_structure_form.specs.StructureForm.{structure_of, summary_at}
use Rattle.tv_eval_laws.specs.Value.{same_value}
use Rattle.tv_eval.specs.Along.{IsWordOf}
use Rattle.tv_eval.specs.AssignmentForm.{assignment_of}
use Rattle.tv_eval.proofs.AlongLaws.{same_two, same_turned, same_itself, put_same, put_other}
use Rattle.tv_eval.proofs.AlongWords.{same-word, of-mapped, row-word}
use Rattle.tv_eval.proofs.leaf_words.same_word.Goals as goal

pub returns-then-y-v : goal.returns-then-y-v
returns-then-y-v c =
    let flag : ℕ → K3 = λ u. if summary_at c.args.s.now u then Half else No
    in let flags : IsWordOf c.args.s.now.size c.args.chunk flag c.word-summaries.result =
    row-word c.args.s.now.size c.args.chunk flag c.summary_row.result c.word-summaries.result
    c.summary_row.ensures c.word-summaries.ensures.long c.word-summaries.ensures.values
    in same-word c.args.s.now.size c.args.chunk (λ u. negation_of (flag u))
    (λ u. same_value (structure_of c.args.s.now) (put (assignment_of c.args.a.now) c.args.v.0 u c.args.x.0)
    (put (assignment_of c.args.a.now) c.args.v.0 u c.args.y.0)) c.not.result
    (of-mapped c.args.s.now.size c.args.chunk c.places-count.result negation_of flag c.word-summaries.result c.not.result flags
    (c.places-count.ensures.value ∙ (rw c.size.ensures.size refl)) c.not.ensures)
    (λ u lt. same_itself (structure_of c.args.s.now) u
    ∙ same_two (structure_of c.args.s.now) u (put (assignment_of c.args.a.now) c.args.v.0 u c.args.x.0) u
    (put (assignment_of c.args.a.now) c.args.v.0 u c.args.y.0)
    (sym (put_same (assignment_of c.args.a.now) c.args.v.0 u c.args.x.0 c.if-x-v.true))
    (sym (put_same (assignment_of c.args.a.now) c.args.v.0 u c.args.y.0 c.if-y-v.true)))

pub returns-then-x-v : goal.returns-then-x-v
returns-then-x-v c =
    same-word c.args.s.now.size c.args.chunk (λ u. same_value (structure_of c.args.s.now) u c.at.result)
    (λ u. same_value (structure_of c.args.s.now) (put (assignment_of c.args.a.now) c.args.v.0 u c.args.x.0)
    (put (assignment_of c.args.a.now) c.args.v.0 u c.args.y.0)) c.same_as.result c.same_as.ensures
    (λ u lt. same_two (structure_of c.args.s.now) u (put (assignment_of c.args.a.now) c.args.v.0 u c.args.x.0)
    c.at.result (put (assignment_of c.args.a.now) c.args.v.0 u c.args.y.0)
    (sym (put_same (assignment_of c.args.a.now) c.args.v.0 u c.args.x.0 c.if-x-v.true))
    (c.at.ensures ∙ sym (put_other (assignment_of c.args.a.now) c.args.v.0 u c.args.y.0 c.if-y-v.false)))

pub returns-then-y-v-2 : goal.returns-then-y-v-2
returns-then-y-v-2 c =
    same-word c.args.s.now.size c.args.chunk
    (λ u. same_value (structure_of c.args.s.now) u c.at-then-y-v-2.result)
    (λ u. same_value (structure_of c.args.s.now) (put (assignment_of c.args.a.now) c.args.v.0 u c.args.x.0)
    (put (assignment_of c.args.a.now) c.args.v.0 u c.args.y.0)) c.same_as-then-y-v-2.result
    c.same_as-then-y-v-2.ensures
    (λ u lt. same_turned (structure_of c.args.s.now) u c.at-then-y-v-2.result
    ∙ same_two (structure_of c.args.s.now) c.at-then-y-v-2.result
    (put (assignment_of c.args.a.now) c.args.v.0 u c.args.x.0) u
    (put (assignment_of c.args.a.now) c.args.v.0 u c.args.y.0)
    (c.at-then-y-v-2.ensures
    ∙ sym (put_other (assignment_of c.args.a.now) c.args.v.0 u c.args.x.0 c.if-x-v.false))
    (sym (put_same (assignment_of c.args.a.now) c.args.v.0 u c.args.y.0 c.if-y-v-2.true)))

pub returns : goal.returns
returns c =
    same-word c.args.s.now.size c.args.chunk (λ u. c.same.result)
    (λ u. same_value (structure_of c.args.s.now) (put (assignment_of c.args.a.now) c.args.v.0 u c.args.x.0)
    (put (assignment_of c.args.a.now) c.args.v.0 u c.args.y.0)) c.constant_word.result
    (c.constant_word.ensures c.args.s.now.size c.args.chunk)
    (λ u lt. c.same.ensures
    ∙ same_two (structure_of c.args.s.now) c.at-2.result
    (put (assignment_of c.args.a.now) c.args.v.0 u c.args.x.0) c.at-3.result
    (put (assignment_of c.args.a.now) c.args.v.0 u c.args.y.0)
    (c.at-2.ensures ∙ sym (put_other (assignment_of c.args.a.now) c.args.v.0 u c.args.x.0 c.if-x-v.false))
    (c.at-3.ensures ∙ sym (put_other (assignment_of c.args.a.now) c.args.v.0 u c.args.y.0 c.if-y-v-2.false)))

pub word-summaries-requires : goal.word-summaries-requires
word-summaries-requires c = omega (arith, c.size.ensures.size, c.size.ensures.kept.table.size, c.requires.chunk)
