use Rattle.std.proofs.Common.{[], ◌∙◌, arith}
use Rattle.tv_structure_form.specs.StructureForm.{value_at}
use Rattle.tv_tvs.proofs.Written.{turn}
use Rattle.tv_complete_text.specs.Lines.{listed_row}
use Rattle.tv_complete_text.specs.Named.{named_form}
use Rattle.tv_complete_text.proofs.lines.Completed.pairs.Goals as goal

pub loop-u-preserved : goal.loop-u-preserved
loop-u-preserved c =
    c.in_ok-put_row.ensures
    ∙ turn (listed_row (named_form c.args.self.now.bytes.now c.args.self.now.named.now).individuals
    (value_at c.args.self.now.t.now c.args.p.0) c.args.self.now.t.now.size)
    [] c.loop-u.out.items 0 c.loop-u.u c.loop-u.u (omega arith) c.loop-u.invariant
