use Rattle.std.proofs.Common.{sym, subst}
use Rattle.tv_focus.specs.Seen.{aim_of}
use Rattle.tv_focus_walk.specs.Walk.{HasOther}
use Rattle.tv_focus_walk.proofs.Differing.{alone-apart}
use Rattle.tv_focus_walk.proofs.apart.is_apart.Goals as goal

pub returns-in-Alone : goal.returns-in-Alone
returns-in-Alone c apart =
    subst (λ aim. HasOther c.args.c.now c.args.p.0 (aim_of aim) c.args.u c.args.vector.now) (sym c.in-Alone.is)
    (alone-apart c.args.c.now c.args.p.0 c.args.u c.args.vector.now c.get.result c.first.result c.get.ensures
    c.first.ensures (c.differs.ensures.known apart) (c.differs.ensures.definite apart)
    (c.differs.ensures.other apart))
