use Rattle.std.proofs.Common.{[], ◌∷◌, rules, get_or, subst}
use Rattle.tv_kleene.specs.declared.K3.TheVariants.{No}
use Rattle.tv_focus_walk.specs.Walk.{Passes}
use Rattle.tv_focus_walk.proofs.Passing.{pass-both}
use Rattle.tv_focus_walk.proofs.fits.+pass_behind.Goals as goal

pub returns-then-passes : goal.returns-then-passes
returns-then-passes t c holds =
    pass-both c.args.test c.args.c.now c.args.p.0 (λ a. a ∷ c.args.u ∷ []) c.args.anchors.now c.args.vector.now 0 No
    (search rules) (search rules)
    (subst (λ k. Passes c.args.test (get_or c.args.vector.now 0 No) k) c.get.ensures
    (c.passes.ensures c.if-passes.true))
    (c.pass_behind.ensures holds)
