use Rattle.std.proofs.Common.{◌==◌, if◌then◌else◌, ap, arith, ◌∙◌}
use Rattle.tv_kleene.specs.declared.K3.TheVariants.{No, Yes}
use Rattle.tv_eval_laws.specs.Value.{mark_value}
use Rattle.tv_eval.proofs.AlongWords.{of-constant, same-word, turned}
use Rattle.tv_eval.proofs.leaf_words.fresh_word.Goals as goal

pub returns-in-None : goal.returns-in-None
returns-in-None c =
    of-constant c.args.s.now.size c.args.chunk 64 No (mark_value c.args.s.now.fresh) c.of.result c.of.ensures
    (omega arith) (omega arith) (λ u. ap (λ o. mark_value o u) c.in-None.ensures)

pub returns-in-Some : goal.returns-in-Some
returns-in-Some c =
    same-word c.args.s.now.size c.args.chunk (λ w. if w == c.in-Some.u then Yes else No)
    (mark_value c.args.s.now.fresh) c.alone_at.result (c.alone_at.ensures c.args.s.now.size)
    (λ w lt. turned c.in-Some.u w Yes ∙ ap (λ o. mark_value o w) c.in-Some.ensures)
