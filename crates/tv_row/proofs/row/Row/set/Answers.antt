use Rattle.std.proofs.Common.{◌<◌, ◌∙◌, set, ap, arith}
use Rattle.tv_row.proofs.RowOps.{length_seen, set_holds, set_row}
use Rattle.tv_row.proofs.row.Row.set.Goals as goal

pub put-requires : goal.put-requires
put-requires c = omega (arith, c.self.invariant.small, c.self.invariant.as_many, length_seen _ _ _ c.self.view_is)

pub invariant_of-self : goal.invariant_of-self
invariant_of-self c =
    let lt : c.args.u < c.self.inside.size = omega (arith, length_seen _ _ _ c.self.view_is)
    in rw c.put.ensures (set_holds c.self.inside.words c.self.inside.size c.args.u c.args.k c.self.invariant lt)

pub returns : goal.returns
returns c =
    let lt : c.args.u < c.self.inside.size = omega (arith, length_seen _ _ _ c.self.view_is)
    in (rw c.put.ensures (set_row c.self.inside.words c.self.inside.size c.args.u c.args.k c.self.invariant lt))
    ∙ ap (λ values. set values c.args.u c.args.k) c.self.view_is
