use Rattle.std.proofs.Common.{◌∷◌, [], ◌∙◌, arith}
use Rattle.tv_structure_form.specs.StructureForm.{value_at}
use Rattle.tv_tvs.proofs.Written.{turn}
use Rattle.tv_complete_text.specs.Lines.{listed_item, pair_at}
use Rattle.tv_complete_text.specs.Named.{named_form}
use Rattle.tv_complete_text.proofs.lines.Completed.put_row.Goals as goal

pub loop-w-preserved : goal.loop-w-preserved
loop-w-preserved c =
    c.in_ok-put_pair.ensures
    ∙ turn (λ w. listed_item (pair_at (named_form c.args.self.now.bytes.now c.args.self.now.named.now).individuals
    c.args.u w)
    (value_at c.args.self.now.t.now c.args.p.0 (c.args.u ∷ w ∷ [])))
    c.args.out.now.items c.loop-w.out.items 0 c.loop-w.w c.loop-w.w (omega arith) c.loop-w.invariant
