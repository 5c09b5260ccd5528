use Rattle.std.proofs.Common.{◌∷◌, [], ◌∙◌, arith}
use Rattle.tv_structure_form.specs.StructureForm.{value_at}
use Rattle.tv_tvs.proofs.Written.{turn}
use Rattle.tv_complete_text.specs.Lines.{listed_item, individual_at}
use Rattle.tv_complete_text.specs.Named.{named_form}
use Rattle.tv_complete_text.proofs.lines.Completed.singles.Goals as goal

pub loop-u-preserved : goal.loop-u-preserved
loop-u-preserved c =
    c.in_ok-put_single.ensures
    ∙ turn (λ u. listed_item (individual_at (named_form c.args.self.now.bytes.now
    c.args.self.now.named.now).individuals u)
    (value_at c.args.self.now.t.now c.args.p.0 (u ∷ [])))
    [] c.loop-u.out.items 0 c.loop-u.u c.loop-u.u (omega arith) c.loop-u.invariant
