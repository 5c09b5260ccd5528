use Rattle.tv_cover.specs.Listed.{structures_in}
use Rattle.tv_cover.proofs.CoverLaws.{covers-among, if_ok}
use Rattle.tv_cover.proofs.targets.places_for.Goals as goal

pub returns-clause-each : goal.returns-clause-each
returns-clause-each c =
    if_ok c.places.result
    (λ places each.
    covers-among c.args.noted.now (structures_in c.args.x.now) c.args.s.now c.args.glance.now places.items c.requires.glance
    c.requires.vocabulary c.requires.noted each)
    c.places.ensures.each
