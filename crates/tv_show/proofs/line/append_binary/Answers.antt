use Rattle.std.proofs.Common.{◌∷◌, [], ◌∙◌, ap, sym, length}
use Rattle.std.proofs.lemmas.List.FromFn.{length-map-range_with_len}
use Rattle.tv_structure_form.specs.StructureForm.{value_at}
use Rattle.tv_show.proofs.line.append_binary.Goals as goal

pub append_row-requires : goal.append_row-requires
append_row-requires c =
    c.requires.targets
    ∙ sym (ap length c.row.ensures ∙ length-map-range_with_len (λ w. value_at c.args.s.now c.args.p.0 (c.args.u ∷ w ∷ [])) 0 c.args.s.now.size)
