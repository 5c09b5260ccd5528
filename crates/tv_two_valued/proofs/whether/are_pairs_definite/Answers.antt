use Rattle.std.proofs.Common.{◌≡◌, below_more, refl, sym, subst, arith}
use Rattle.std.specs.Prelude.{Any}
use Rattle.std.proofs.lemmas.Bool.{false≢true}
use Rattle.tv_kleene.specs.declared.K3.TheVariants.{Half}
use Rattle.tv_two_valued.proofs.Definite.{pair-unknown, pairs-definite}
use Rattle.tv_two_valued.proofs.whether.are_pairs_definite.Goals as goal

pub returns-then-has_half : goal.returns-then-has_half
returns-then-has_half c = (
  λ e. absurd (false≢true e),
  λ definite.
      absurd (pair-unknown c.args.s.now c.args.p.0 c.size-u-end.ensures.kept c.loop-u.u
      (subst (Any (λ x. x ≡ Half)) c.row.ensures (c.if-has_half.ensures.0 refl)) definite),
)

pub loop-u-preserved : goal.loop-u-preserved
loop-u-preserved c =
    below_more _ _ c.loop-u.invariant
    (λ any. false≢true (c.if-has_half.ensures.1 (subst (Any (λ x. x ≡ Half)) (sym c.row.ensures) any)))

pub returns : goal.returns
returns c = (
  λ e. pairs-definite c.args.s.now c.args.p.0 c.size-u-end.ensures.kept c.requires c.loop-u.u
      (omega (arith, c.loop-u-test.false, c.size-u-end.ensures.size)) c.loop-u.invariant,
  λ definite. refl,
)
