use Rattle.std.proofs.Common.{◌∙◌, refl, sym, arith}
use Rattle.std.proofs.lemmas.Bool.{false≢true}
use Rattle.tv_replay_judge.proofs.Compared.{same-pairs}
use Rattle.tv_replay_judge.proofs.differing.have_same_rows.Goals as goal

pub returns-then-not-equals : goal.returns-then-not-equals
returns-then-not-equals c = (
  λ e. absurd (false≢true e),
  λ same. absurd (false≢true (c.if-not-equals.ensures.1
      (c.row.ensures ∙ (same-pairs c.args.s.now c.args.t.now c.args.p.0 c.requires.size).1 same c.loop-u.u
      (omega (arith, c.loop-u-test.true, c.size-u-end.ensures.size)) ∙ sym c.row-in-loop-u.ensures))),
)

pub returns : goal.returns
returns c = (
  λ e. (same-pairs c.args.s.now c.args.t.now c.args.p.0 c.requires.size).0
      (λ k lt. c.loop-u.invariant k (omega (arith, lt, c.loop-u-test.false, c.size-u-end.ensures.size))),
  λ same. refl,
)
