use Rattle.std.proofs.Common.{◌∙◌, Bool, List, map, length, ap, sym}
use Rattle.std.proofs.lemmas.List.{length-map}
use Rattle.std.specs.Cmp.Lexicographic.{slice_cmp}
use Rattle.tv_row.specs.Bits.{is_possible, value_cmp}
use Rattle.tv_struct.specs.StructureRows.{flag_value}
use Rattle.tv_struct.proofs.FlagLaws.{flags_cmp}
use Rattle.tv_struct.proofs.flags.Summaries.compare.Goals as goal

pub compare-requires : goal.compare-requires
compare-requires c =
    sym (length-map c.self.inside.row is_possible) ∙ ap length c.self.view_is ∙ c.requires ∙ sym (ap length c.other.view_is)
    ∙ length-map c.other.inside.row is_possible

pub returns : goal.returns
returns c =
    c.compare.ensures
    ∙ ap (λ row. slice_cmp value_cmp row c.other.inside.row)
    (c.self.invariant ∙ ap (λ (flags : List Bool). map flag_value flags) c.self.view_is)
    ∙ ap (slice_cmp value_cmp (map flag_value c.args.self.now))
    (c.other.invariant ∙ ap (λ (flags : List Bool). map flag_value flags) c.other.view_is)
    ∙ flags_cmp c.args.self.now c.args.other.now
