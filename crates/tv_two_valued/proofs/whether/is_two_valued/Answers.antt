use Rattle.std.proofs.Common.{◌≢◌, refl, sym, subst, arith}
use Rattle.std.specs.Prelude.{Any}
use Rattle.std.proofs.lemmas.Bool.{false≢true}
use Rattle.tv_kleene.specs.declared.K3.TheVariants.{No}
use Rattle.tv_two_valued.proofs.Definite.{summaries-found, two-valued}
use Rattle.tv_two_valued.proofs.whether.is_two_valued.Goals as goal

pub returns-then-has_possible : goal.returns-then-has_possible
returns-then-has_possible c = (
  λ e. absurd (false≢true e),
  λ two. absurd (summaries-found c.args.s.now two (subst (Any (λ x. x ≢ No)) c.summary_row.ensures (c.if-has_possible.ensures.0 refl))),
)

pub returns : goal.returns
returns c = (
  λ e. two-valued c.args.s.now c.loop-p.p (omega (arith, c.loop-p-test.false, c.pred_count-p-end.ensures))
      (λ any. false≢true (c.if-has_possible.ensures.1 (subst (Any (λ x. x ≢ No)) (sym c.summary_row.ensures) any))) c.loop-p.invariant,
  λ two. refl,
)
