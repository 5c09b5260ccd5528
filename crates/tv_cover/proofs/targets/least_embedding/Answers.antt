use Rattle.std.proofs.Common.{subst}
use Rattle.std.specs.Prelude.{IfSome}
use Rattle.tv_cover.specs.Glance.{GlanceForm, IsOnlyMap, glance_of}
use Rattle.tv_cover.proofs.CoverLaws.{none-told}
use Rattle.tv_cover.proofs.targets.least_embedding.Goals as goal

pub checked-requires-clause-only : goal.checked-requires-clause-only
checked-requires-clause-only c =
    subst (λ (g : GlanceForm). IsOnlyMap g (glance_of c.args.t.now) c.in-Some.map) c.requires.below
    (subst (λ (g : GlanceForm). IsOnlyMap c.args.below.now g c.in-Some.map) c.in_ok-above.ensures
    (subst (λ o. IfSome o (IsOnlyMap c.args.below.now c.in_ok-above.above)) c.in-Some.is c.in_ok-map.ensures))

pub returns-then-not-may_embed-clause-none : goal.returns-then-not-may_embed-clause-none
returns-then-not-may_embed-clause-none c =
    none-told c.args.s.now c.args.t.now c.args.below.now c.in_ok-above.above c.requires.vocabulary c.requires.below
    c.in_ok-above.ensures (λ may. absurd (cc (c.may_embed.ensures may)))
