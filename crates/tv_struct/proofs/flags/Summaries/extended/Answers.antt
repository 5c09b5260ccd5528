use Rattle.std.proofs.Common.{◌≡◌, ◌+◌, ◌∙◌, Bool, List, false, ap, sym, subst, length, arith}
use Rattle.std.proofs.lemmas.List.{length-map}
use Rattle.std.specs.List.{range_with_len}
use Rattle.tv_row.specs.Bits.{is_possible}
use Rattle.tv_structure_form.specs.TableForm.{selected}
use Rattle.tv_struct.specs.StructureRows.{flags_of}
use Rattle.tv_struct.proofs.FlagLaws.{IsFlagRow, IsFlagRow-selected, flags_selected}
use Rattle.tv_struct.proofs.flags.Summaries.extended.Goals as goal

pub extended-requires : goal.extended-requires
extended-requires c = omega (arith, c.requires, ap length c.self.view_is, length-map c.self.inside.row is_possible)

pub invariant_of-result : goal.invariant_of-result
invariant_of-result c =
    subst IsFlagRow (sym c.extended.ensures)
    (IsFlagRow-selected c.self.inside.row (range_with_len 0 (length c.self.inside.row + 1)) c.self.invariant)

pub returns : goal.returns
returns c =
    let long : length c.self.inside.row ≡ length c.args.self.now
    = sym (length-map c.self.inside.row is_possible) ∙ ap length c.self.view_is
    in ap flags_of c.extended.ensures
    ∙ flags_selected c.self.inside.row (range_with_len 0 (length c.self.inside.row + 1))
    ∙ ap (λ (flags : List Bool). selected false flags (range_with_len 0 (length c.self.inside.row + 1))) c.self.view_is
    ∙ ap (λ n. selected false c.args.self.now (range_with_len 0 (n + 1))) long
