use Rattle.std.proofs.Common.{◌∙◌, ◌/◌, ◌%◌, length, ap, get_or, arith}
use Rattle.tv_kleene.specs.declared.K3.TheVariants.{No}
use Rattle.tv_row.proofs.RowOps.{no_place, no_word}
use Rattle.tv_row.proofs.DrawnRuns.{cleared}
use Rattle.tv_row.proofs.slices.clear.Goals as goal

pub loop-w-preserved : goal.loop-w-preserved
loop-w-preserved c =
    cleared c.args.words.now c.loop-w.words c.args.at c.loop-w.w c.of.result _ c.of.ensures (ap length c.of.ensures ∙ no_word)
    c.loop-w.invariant.3 (omega arith) c.loop-w.invariant.0 c.loop-w.invariant.1 c.loop-w.invariant.2

pub returns-clause-row : goal.returns-clause-row
returns-clause-row c =
    λ column lt.
    ap (λ word. get_or word (column % 64) No) (c.loop-w.invariant.0 (column / 64) (omega arith)) ∙ no_place (column % 64) (omega arith)
