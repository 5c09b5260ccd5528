use Rattle.std.proofs.Common.{◌==◌, if◌then◌else◌, eqb, eq-eqb, ne_eqb, refl, sym}
use Rattle.std.proofs.lemmas.Bool.{cond-true, cond-false}
use Rattle.tv_kleene.specs.declared.K3.TheVariants.{No}
use Rattle.tv_eval.proofs.AlongWords.{alone-here, alone-elsewhere}
use Rattle.tv_eval.proofs.leaf_words.alone_at.Goals as goal

pub returns-then-u-chunk : goal.returns-then-u-chunk
returns-then-u-chunk c = λ n.
    alone-elsewhere n c.args.chunk c.args.u (λ w. if w == c.args.u then c.args.k else No) c.of-none.result
    c.of-none.ensures c.if-u-chunk.true
    (λ w ne. sym (cond-false (eqb w c.args.u) c.args.k No (ne_eqb w c.args.u ne)))

pub returns : goal.returns
returns c = λ n.
    alone-here n c.args.chunk c.args.u c.args.k (λ w. if w == c.args.u then c.args.k else No) c.of-none.result
    c.with.result c.of-none.ensures c.if-u-chunk.false c.with.ensures
    (sym (cond-true (eqb c.args.u c.args.u) c.args.k No (eq-eqb c.args.u c.args.u refl)))
    (λ w ne. sym (cond-false (eqb w c.args.u) c.args.k No (ne_eqb w c.args.u ne)))
