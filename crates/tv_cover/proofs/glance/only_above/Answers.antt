use Rattle.std.proofs.Common.{ℕ, ◌<◌, ◌≤◌, ◌+◌, [], get_or, length, subst}
use Rattle.std.specs.Prelude.{IfNone, IfSome}
use Rattle.tv_cover.specs.Glance.{LieUnder}
use Rattle.tv_cover.proofs.GlanceLaws.{only-one}
use Rattle.tv_cover.proofs.glance.only_above.Goals as goal

pub returns-in-None-clause-only : goal.returns-in-None-clause-only
returns-in-None-clause-only c = λ w lt under.
    only-one c.args.row.now c.args.others.now c.in-Some.i w
    (subst (λ o. IfSome o (λ i. (k : ℕ) → 0 ≤ k → k < i → ¬ LieUnder c.args.row.now (get_or c.args.others.now k [])))
    c.in-Some.is c.next_above.ensures.before)
    (subst (λ o. IfNone o ((k : ℕ) → c.in-Some.i + 1 ≤ k → k < length c.args.others.now
    → ¬ LieUnder c.args.row.now (get_or c.args.others.now k []))) c.in-None.is c.next_above-2.ensures.none) lt under
