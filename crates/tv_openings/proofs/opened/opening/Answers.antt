use Rattle.std.proofs.Common.{◌≤◌, ◌∙◌, length, All, sym, ap, subst, arith}
use Rattle.tv_openings.proofs.OpeningLaws.{parts_long, parts_some}
use Rattle.tv_openings.proofs.opened.opening.Goals as goal

pub split-requires-clause-individuals : goal.split-requires-clause-individuals
split-requires-clause-individuals c =
    ap length c.as_slice.ensures
    ∙ omega (arith, parts_long c.args.s.now 0 c.args.parts.now c.requires.parts.0)

pub split-requires-clause-each : goal.split-requires-clause-each
split-requires-clause-each c =
    subst (All (λ part. 1 ≤ part)) (sym c.as_slice.ensures)
    (parts_some c.args.s.now 0 c.args.parts.now c.requires.parts.0)
