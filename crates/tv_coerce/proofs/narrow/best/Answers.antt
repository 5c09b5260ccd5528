-- One individual more.
use Rattle.std.proofs.Common.{◌≡◌, ◌∙◌, ⊎_elim, ap, arith, get_or, length}
use Rattle.std.proofs.Common.{subst, sym}
use Rattle.std.proofs.lemmas.Bool.{cases_lt}
use Rattle.std.proofs.lemmas.List.{get_or-set_other, length-set}
use Rattle.tv_kleene.specs.declared.K3.TheVariants.{No}
use Rattle.tv_coerce.specs.Counting.{IsBest}
use Rattle.tv_coerce.proofs.Narrowing.{all-places, best-at}
use Rattle.tv_coerce.proofs.narrow.best.Goals as goal

pub loop-u-init : goal.loop-u-init
loop-u-init c = (
  (all-places No c.of-word.result c.of-word.ensures).0,
  λ left last w b are seen less within. absurd (omega (arith, less)),
)

pub loop-u-preserved : goal.loop-u-preserved
loop-u-preserved c = (
  ap length c.with-word.ensures ∙ length-set c.loop-u.word c.loop-u.u _ ∙ c.loop-u.invariant.0,
  λ left last w b are seen less within.
      let trial = c.args.trial.now
      in let i = b c.args.v.0
      in ⊎_elim
      (λ before. subst (IsBest trial left last b (get_or c.args.begun (b w) No))
      (sym (ap (λ x. get_or x i No) c.with-word.ensures ∙ get_or-set_other c.loop-u.word c.loop-u.u i _ No (λ e. absurd (omega (arith, e, before)))))
      (c.loop-u.invariant.1 left last w b are seen before within))
      (λ after.
      let here : i ≡ c.loop-u.u = omega (arith, after, less)
      in subst (λ x. IsBest trial left last b (get_or c.args.begun (b w) No) (get_or c.with-word.result x No)) (sym here) (record {
        own = get_or c.seen_all.result (b w) No;
        tells = c.seen_all.ensures.tells left last w b are seen here within;
        most = best-at c.loop-u.word c.args.begun c.seen_all.result c.counted.result c.with-word.result c.loop-u.u (b w) c.greatest.result
            c.loop-u.invariant.0 c.requires.long c.seen_all.ensures.long (omega (arith, c.loop-u-test.true, c.size-u-end.ensures.size, c.requires.few))
            (omega (arith, within, c.requires.few)) c.counted.ensures c.greatest.ensures c.with-word.ensures;
      }))
      (cases_lt i c.loop-u.u),
)

pub returns-clause-best : goal.returns-clause-best
returns-clause-best c = λ left last w b are seen inside within.
    c.loop-u.invariant.1 left last w b are seen (omega (arith, inside, c.loop-u-test.false, c.size-u-end.ensures.size)) within
