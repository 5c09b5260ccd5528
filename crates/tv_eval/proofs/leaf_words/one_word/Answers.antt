use Rattle.std.proofs.Common.{◌+◌, ◌*◌, ◌∙◌, [], ◌∷◌, ap}
use Rattle.tv_model.specs.Truth.{put}
use Rattle.tv_structure_form.specs.StructureForm.{value_at}
use Rattle.tv_eval.specs.AssignmentForm.{assignment_of}
use Rattle.tv_eval.proofs.AlongLaws.{atom_one, atom_other}
use Rattle.tv_eval.proofs.AlongWords.{same-word}
use Rattle.tv_eval.proofs.leaf_words.one_word.Goals as goal

pub returns-then-x-v : goal.returns-then-x-v
returns-then-x-v c = record {
  long = c.unary_word.ensures.long;
  each = λ i low within. c.unary_word.ensures.values i low within
      ∙ atom_one c.args.s.now (assignment_of c.args.a.now) c.args.pred.0 c.args.x.0 c.args.v.0
      (64 * c.args.chunk + i) c.if-x-v.true;
}

pub returns : goal.returns
returns c =
    same-word c.args.s.now.size c.args.chunk (λ u. c.get.result)
    (λ u. value_at c.args.s.now c.args.pred.0 (put (assignment_of c.args.a.now) c.args.v.0 u c.args.x.0 ∷ []))
    c.constant_word.result (c.constant_word.ensures c.args.s.now.size c.args.chunk)
    (λ u lt. c.get.ensures ∙ ap (λ w. value_at c.args.s.now c.args.pred.0 (w ∷ [])) c.at.ensures
    ∙ atom_other c.args.s.now (assignment_of c.args.a.now) c.args.pred.0 c.args.x.0 c.args.v.0 u c.if-x-v.false)
