use Rattle.std.proofs.Common.{◌∙◌, ◌<◌, ap, sym, get_or, arith}
use Rattle.tv_kleene.specs.declared.K3.TheVariants.{No}
use Rattle.tv_row.specs.RowLaws.{read_held}
use Rattle.tv_row.proofs.RowOps.{length_seen}
use Rattle.tv_row.proofs.row.Row.get.Goals as goal

pub get-requires : goal.get-requires
get-requires c = omega (arith, c.self.invariant.small, c.self.invariant.as_many, length_seen _ _ _ c.self.view_is)

pub returns : goal.returns
returns c =
    let low : c.args.u < 256 = omega (arith, c.self.invariant.small, length_seen _ _ _ c.self.view_is)
    in c.get.ensures ∙ sym (read_held c.self.inside.words c.self.inside.size c.args.u c.self.invariant low)
    ∙ ap (λ values. get_or values c.args.u No) c.self.view_is
