use Rattle.std.proofs.Common.{◌∙◌, map, ap, arith}
use Rattle.tv_kleene.specs.Kleene.{negation_of}
use Rattle.tv_row.proofs.RowOps.{negated_hold, negated_row}
use Rattle.tv_row.proofs.row.Row.not_more.Goals as goal

pub invariant_of-result : goal.invariant_of-result
invariant_of-result c =
    negated_hold c.self.inside.words c.loop-p.words c.self.inside.size c.loop-p.p c.self.invariant
    (omega (arith, c.div_ceil-p-end.ensures)) (omega (
      arith,
      c.div_ceil-p-end.ensures,
      c.self.invariant.small,
    )) c.loop-p.invariant

pub returns : goal.returns
returns c =
    negated_row c.self.inside.words c.loop-p.words c.self.inside.size c.loop-p.p c.self.invariant
    (omega (arith, c.div_ceil-p-end.ensures)) (omega (
      arith,
      c.div_ceil-p-end.ensures,
      c.self.invariant.small,
    )) c.loop-p.invariant
    ∙ ap (map negation_of) c.self.view_is
