use Rattle.std.proofs.Common.{⊎_elim, refl, arith}
use Rattle.tv_model.specs.Form.{form_of}
use Rattle.tv_eval.proofs.Keeping.{own-next}
use Rattle.tv_eval.proofs.kept.is_closed.Goals as goal

pub loop-v-preserved : goal.loop-v-preserved
loop-v-preserved c =
    own-next (form_of c.args.edges.body.now) c.args.edges.left.0 c.args.edges.right.0 c.loop-v.v c.loop-v.invariant
    (λ outer. cc (c.has_outer.ensures.1 outer, c.if-has_outer.false))

pub returns-then-has_outer : goal.returns-then-has_outer
returns-then-has_outer c = (
  λ is. cc,
  λ own.
      let outer = c.has_outer.ensures.0 c.if-has_outer.true
      in absurd (⊎_elim outer.0 outer.1 (own c.loop-v.v (omega arith) outer.2)),
)

pub returns : goal.returns
returns c = (λ is v lt free. c.loop-v.invariant v (omega arith) free, λ own. refl)
