use Rattle.std.proofs.Common.{ℕ, ◌+◌, ◌*◌, ◌∙◌, [], ◌∷◌, sym}
use Rattle.tv_model.specs.Truth.{put}
use Rattle.tv_structure_form.specs.StructureForm.{value_at}
use Rattle.tv_eval.specs.AssignmentForm.{assignment_of}
use Rattle.tv_eval.proofs.AlongLaws.{atom_two, put_same, put_other}
use Rattle.tv_eval.proofs.AlongWords.{same-word}
use Rattle.tv_eval.proofs.leaf_words.two_word.Goals as goal

pub returns-then-y-v : goal.returns-then-y-v
returns-then-y-v c =
    same-word c.args.s.now.size c.args.chunk (λ u. value_at c.args.s.now c.args.pred.0 (u ∷ u ∷ []))
    (λ u. value_at c.args.s.now c.args.pred.0 (put (assignment_of c.args.a.now) c.args.v.0 u c.args.x.0
    ∷ put (assignment_of c.args.a.now) c.args.v.0 u c.args.y.0 ∷ []))
    c.diagonal.result c.diagonal.ensures
    (λ u lt. atom_two c.args.s.now (assignment_of c.args.a.now) c.args.pred.0 c.args.x.0 c.args.y.0 c.args.v.0 u u u
    (sym (put_same (assignment_of c.args.a.now) c.args.v.0 u c.args.x.0 c.if-x-v.true))
    (sym (put_same (assignment_of c.args.a.now) c.args.v.0 u c.args.y.0 c.if-y-v.true)))

pub returns-then-x-v : goal.returns-then-x-v
returns-then-x-v c =
    same-word c.args.s.now.size c.args.chunk (λ u. value_at c.args.s.now c.args.pred.0 (u ∷ c.at.result ∷ []))
    (λ u. value_at c.args.s.now c.args.pred.0 (put (assignment_of c.args.a.now) c.args.v.0 u c.args.x.0
    ∷ put (assignment_of c.args.a.now) c.args.v.0 u c.args.y.0 ∷ []))
    c.column.result c.column.ensures
    (λ u lt. atom_two c.args.s.now (assignment_of c.args.a.now) c.args.pred.0 c.args.x.0 c.args.y.0 c.args.v.0 u u
    c.at.result
    (sym (put_same (assignment_of c.args.a.now) c.args.v.0 u c.args.x.0 c.if-x-v.true))
    (c.at.ensures ∙ sym (put_other (assignment_of c.args.a.now) c.args.v.0 u c.args.y.0 c.if-y-v.false)))

pub returns-then-y-v-2 : goal.returns-then-y-v-2
returns-then-y-v-2 c = record {
  long = c.word.ensures.long;
  each = λ i low within.
      let u : ℕ = 64 * c.args.chunk + i
      in c.word.ensures.values i low within
      ∙ atom_two c.args.s.now (assignment_of c.args.a.now) c.args.pred.0 c.args.x.0 c.args.y.0 c.args.v.0 u
      c.at-then-y-v-2.result u
      (c.at-then-y-v-2.ensures
      ∙ sym (put_other (assignment_of c.args.a.now) c.args.v.0 u c.args.x.0 c.if-x-v.false))
      (sym (put_same (assignment_of c.args.a.now) c.args.v.0 u c.args.y.0 c.if-y-v-2.true));
}

pub returns : goal.returns
returns c =
    same-word c.args.s.now.size c.args.chunk (λ u. c.get.result)
    (λ u. value_at c.args.s.now c.args.pred.0 (put (assignment_of c.args.a.now) c.args.v.0 u c.args.x.0
    ∷ put (assignment_of c.args.a.now) c.args.v.0 u c.args.y.0 ∷ []))
    c.constant_word.result (c.constant_word.ensures c.args.s.now.size c.args.chunk)
    (λ u lt. c.get.ensures
    ∙ atom_two c.args.s.now (assignment_of c.args.a.now) c.args.pred.0 c.args.x.0 c.args.y.0 c.args.v.0 u
    c.at-2.result c.at-3.result
    (c.at-2.ensures ∙ sym (put_other (assignment_of c.args.a.now) c.args.v.0 u c.args.x.0 c.if-x-v.false))
    (c.at-3.ensures ∙ sym (put_other (assignment_of c.args.a.now) c.args.v.0 u c.args.y.0 c.if-y-v-2.false)))
