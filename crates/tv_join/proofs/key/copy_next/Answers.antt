use Rattle.std.proofs.Common.{arith, inr}
use Rattle.tv_join.proofs.Copying.{copied-more}
use Rattle.tv_join.proofs.key.copy_next.Goals as goal

pub returns-then-counted-p : goal.returns-then-counted-p
returns-then-counted-p c =
    copied-more c.args.counted.now c.args.s.now c.args.p c.args.t.now c.copy_values.new.t c.requires.copied c.if-counted-p.true
    c.copy_values.ensures.changes c.copy_values.ensures.values

pub copy_values-requires-clause-blank : goal.copy_values-requires-clause-blank
copy_values-requires-clause-blank c tuple = c.requires.copied.others c.args.p (inr (omega arith)) tuple
