use Rattle.std.proofs.Common.{[], ◌∷◌, rules}
use Rattle.tv_kleene.specs.declared.K3.TheVariants.{No}
use Rattle.tv_focus_walk.proofs.Differing.{first-apart, later-apart}
use Rattle.tv_focus_walk.proofs.apart.+is_apart_behind.Goals as goal

pub returns-then-differs : goal.returns-then-differs
returns-then-differs t c apart =
    first-apart c.args.c.now c.args.p.0 (λ a. a ∷ c.args.u ∷ []) c.args.anchors.now c.args.vector.now c.get.result 0 No
    (search rules) (search rules) c.get.ensures (c.differs.ensures.known apart) (c.differs.ensures.definite apart)
    (c.differs.ensures.other apart)

pub returns-else-differs : goal.returns-else-differs
returns-else-differs t c apart =
    later-apart c.args.c.now c.args.p.0 (λ a. a ∷ c.args.u ∷ []) c.args.anchors.now c.args.vector.now 0 No (search rules) (search rules)
    (c.is_apart_behind.ensures apart)
