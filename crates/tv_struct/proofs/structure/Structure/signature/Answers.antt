use Rattle.std.proofs.Common.{◌∙◌, fold, ap}
use Rattle.tv_row.specs.Mixed.{word_mixed, row_mixed}
use Rattle.tv_structure_form.specs.StructureForm.{StructureForm, table_of}
use Rattle.tv_struct.specs.StructureRows.{summary_row}
use Rattle.tv_struct.specs.Signature.{table_packed}
use Rattle.tv_struct.proofs.structure.Structure.signature.Goals as goal

pub returns : goal.returns
returns c =
    c.mix-2.ensures
    ∙ ap (λ hash. fold word_mixed hash (table_packed c.self.inside.table))
    (c.mix.ensures ∙ ap (λ n. row_mixed n c.summary_row.result) (c.from.ensures ∙ c.size.ensures.size)
    ∙ ap (row_mixed c.args.self.now.size) c.summary_row.ensures)
    ∙ ap (λ (s : StructureForm). fold word_mixed (row_mixed c.args.self.now.size (summary_row c.args.self.now)) (table_packed (table_of s)))
    c.self.view_is
