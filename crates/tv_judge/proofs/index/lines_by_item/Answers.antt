use Rattle.std.proofs.Common.{subst}
use Rattle.tv_judge.specs.Index.{NotesLine}
use Rattle.tv_judge.proofs.IndexLaws.{noted-all, noted-next, noted-none}
use Rattle.tv_judge.proofs.index.lines_by_item.Goals as goal

pub loop-line-init : goal.loop-line-init
loop-line-init c = noted-none c.new-index.result.entries c.args.lines.now c.new-index.ensures.empty

pub loop-line-preserved : goal.loop-line-preserved
loop-line-preserved c =
    noted-next c.loop-line.index.entries c.note_line.new.index.entries c.args.lines.now
    c.loop-line.line-index c.line-item.result
    c.loop-line-test.true c.loop-line.invariant
    (subst (λ l. NotesLine c.loop-line.index.entries l c.note_line.new.index.entries) c.line-item.is
    c.in_ok-note_line.ensures)

pub returns : goal.returns
returns c = noted-all c.loop-line.index.entries c.args.lines.now c.loop-line.line-index
    c.loop-line-test.false c.loop-line.invariant
