use Rattle.std.proofs.Common.{ap, sym, ◌∙◌}
use Rattle.tv_model.specs.Truth.{put}
use Rattle.tv_eval_laws.specs.Value.{mark_value}
use Rattle.tv_eval.specs.AssignmentForm.{assignment_of}
use Rattle.tv_eval.proofs.AlongLaws.{put_same, put_other}
use Rattle.tv_eval.proofs.AlongWords.{same-word}
use Rattle.tv_eval.proofs.leaf_words.new_word.Goals as goal

pub returns-then-w-v : goal.returns-then-w-v
returns-then-w-v c =
    same-word c.args.s.now.size c.args.chunk (mark_value c.args.s.now.fresh)
    (λ u. mark_value c.args.s.now.fresh (put (assignment_of c.args.a.now) c.args.v.0 u c.args.w.0))
    c.fresh_word.result c.fresh_word.ensures
    (λ u lt. ap (mark_value c.args.s.now.fresh)
    (sym (put_same (assignment_of c.args.a.now) c.args.v.0 u c.args.w.0 c.if-w-v.true)))

pub returns : goal.returns
returns c =
    same-word c.args.s.now.size c.args.chunk (λ u. c.is_new.result)
    (λ u. mark_value c.args.s.now.fresh (put (assignment_of c.args.a.now) c.args.v.0 u c.args.w.0))
    c.constant_word.result (c.constant_word.ensures c.args.s.now.size c.args.chunk)
    (λ u lt. c.is_new.ensures ∙ ap (mark_value c.args.s.now.fresh)
    (c.at.ensures ∙ sym (put_other (assignment_of c.args.a.now) c.args.v.0 u c.args.w.0 c.if-w-v.false)))
