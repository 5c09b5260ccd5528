use Rattle.std.proofs.Common.{subst, sym}
use Rattle.tv_embed.specs.Maps.{IsEmbedding}
use Rattle.tv_cover.proofs.CoverLaws.{only-least, only-none}
use Rattle.tv_cover.proofs.targets.checked.Goals as goal

pub returns-then-check_map-clause-least : goal.returns-then-check_map-clause-least
returns-then-check_map-clause-least c =
    only-least c.args.s.now c.args.t.now c.args.map c.requires.vocabulary c.requires.only
    (subst (IsEmbedding c.args.s.now c.args.t.now) c.as_slice.ensures (c.check_map.ensures.exact.0 c.if-check_map.true))

pub returns-else-check_map-clause-none : goal.returns-else-check_map-clause-none
returns-else-check_map-clause-none c =
    only-none c.args.s.now c.args.t.now c.args.map c.requires.vocabulary c.requires.only
    (λ embeds.
    absurd (cc (c.check_map.ensures.exact.1 (subst (IsEmbedding c.args.s.now c.args.t.now) (sym c.as_slice.ensures) embeds))))
