use Rattle.std.proofs.Common.{◌≡◌, ◌∙◌, length, map, ap, subst}
use Rattle.tv_structure_form.specs.StructureForm.{StructureForm}
use Rattle.tv_struct.specs.StructureRows.{flag_value}
use Rattle.tv_struct.proofs.FlagLaws.{summaries_row}
use Rattle.tv_struct.proofs.structure.Structure.summary_row.Goals as goal

pub returns : goal.returns
returns c =
    let Long : StructureForm → Type 0 = λ s. length s.summaries ≡ s.size
    in c.as_row.ensures ∙ ap (λ (s : StructureForm). map flag_value s.summaries) c.self.view_is
    ∙ summaries_row c.args.self.now (subst Long c.self.view_is c.self.invariant.summaries)
