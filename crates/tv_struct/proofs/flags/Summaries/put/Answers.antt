use Rattle.std.proofs.Common.{◌∙◌, Bool, List, ap, set, subst, sym}
use Rattle.tv_struct.specs.StructureRows.{flags_of}
use Rattle.tv_struct.proofs.FlagLaws.{IsFlagRow, IsFlagRow-put, flags_put, never_yes}
use Rattle.tv_struct.proofs.flags.Summaries.put.Goals as goal

pub of-self-inside-requires : goal.of-self-inside-requires
of-self-inside-requires c =
    never_yes c.set.new.self
    (subst IsFlagRow
    (sym (c.set.ensures ∙ ap (λ row. set row c.args.u c.value_of.result) c.as_row-row.ensures
    ∙ ap (λ k. set c.self.inside.row c.args.u k) c.value_of.ensures))
    (IsFlagRow-put c.self.inside.row c.args.u c.args.on c.self.invariant))

pub invariant_of-self : goal.invariant_of-self
invariant_of-self c =
    subst IsFlagRow (sym (c.of-self-inside.ensures ∙ c.set.ensures ∙ ap (λ row. set row c.args.u c.value_of.result) c.as_row-row.ensures
    ∙ ap (λ k. set c.self.inside.row c.args.u k) c.value_of.ensures))
    (IsFlagRow-put c.self.inside.row c.args.u c.args.on c.self.invariant)

pub returns : goal.returns
returns c =
    ap flags_of (c.of-self-inside.ensures ∙ c.set.ensures ∙ ap (λ row. set row c.args.u c.value_of.result) c.as_row-row.ensures
    ∙ ap (λ k. set c.self.inside.row c.args.u k) c.value_of.ensures)
    ∙ flags_put c.self.inside.row c.args.u c.args.on ∙ ap (λ (flags : List Bool). set flags c.args.u c.args.on) c.self.view_is
