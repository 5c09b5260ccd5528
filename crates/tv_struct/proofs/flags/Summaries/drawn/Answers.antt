use Rattle.std.proofs.Common.{◌∙◌, Bool, List, false, ap, sym, subst, length}
use Rattle.std.proofs.lemmas.List.{length-map}
use Rattle.tv_kleene.specs.declared.K3.TheVariants.{No}
use Rattle.tv_row.specs.Bits.{is_possible}
use Rattle.tv_structure_form.specs.TableForm.{selected}
use Rattle.tv_struct.specs.StructureRows.{flags_of}
use Rattle.tv_struct.proofs.FlagLaws.{IsFlagRow, IsFlagRow-selected, flags_selected, never_yes}
use Rattle.tv_struct.proofs.flags.Summaries.drawn.Goals as goal

pub drawn-requires : goal.drawn-requires
drawn-requires c = c.requires ∙ sym (ap length c.self.view_is) ∙ length-map c.self.inside.row is_possible
    ∙ sym (ap length c.as_row.ensures)

pub of-requires : goal.of-requires
of-requires c =
    never_yes c.drawn.result
    (subst IsFlagRow (sym (c.drawn.ensures ∙ ap (λ row. selected No row c.args.drawing.now.origins) c.as_row.ensures))
    (IsFlagRow-selected c.self.inside.row c.args.drawing.now.origins c.self.invariant))

pub invariant_of-result : goal.invariant_of-result
invariant_of-result c =
    subst IsFlagRow
    (sym (c.of.ensures ∙ c.drawn.ensures ∙ ap (λ row. selected No row c.args.drawing.now.origins) c.as_row.ensures)) (IsFlagRow-selected c.self.inside.row c.args.drawing.now.origins c.self.invariant)

pub returns : goal.returns
returns c =
    ap flags_of (c.of.ensures ∙ c.drawn.ensures ∙ ap (λ row. selected No row c.args.drawing.now.origins) c.as_row.ensures)
    ∙ flags_selected c.self.inside.row c.args.drawing.now.origins
    ∙ ap (λ (flags : List Bool). selected false flags c.args.drawing.now.origins) c.self.view_is
