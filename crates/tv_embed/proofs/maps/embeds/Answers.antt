use Rattle.tv_embed.proofs.MapLaws.{Embeds-fits, IsOnto-embedding, FitsSoFar-embedding, HeapsStay-embedding}
use Rattle.tv_embed.proofs.maps.embeds.Goals as goal

pub returns-then-fits-clause-exact : goal.returns-then-fits-clause-exact
returns-then-fits-clause-exact c = (
  λ onto.
      Embeds-fits c.args.small.now c.args.large.now c.args.map.now c.size.ensures.kept c.requires.vocabulary
      c.requires.individuals (c.fits.ensures.0 c.if-fits.true) (c.is_onto.ensures.0 onto),
  λ embeds. c.is_onto.ensures.1 (IsOnto-embedding c.args.small.now c.args.large.now c.args.map.now embeds),
)

pub returns-then-fits-clause-heaps : goal.returns-then-fits-clause-heaps
returns-then-fits-clause-heaps c =
    λ onto.
    HeapsStay-embedding c.args.small.now c.args.large.now c.args.map.now
    (Embeds-fits c.args.small.now c.args.large.now c.args.map.now c.size.ensures.kept c.requires.vocabulary
    c.requires.individuals (c.fits.ensures.0 c.if-fits.true) (c.is_onto.ensures.0 onto))

pub returns-else-fits-clause-exact : goal.returns-else-fits-clause-exact
returns-else-fits-clause-exact c = (
  λ never. absurd (cc),
  λ embeds. absurd (cc (c.fits.ensures.1 (FitsSoFar-embedding c.args.small.now c.args.large.now c.args.map.now embeds))),
)
