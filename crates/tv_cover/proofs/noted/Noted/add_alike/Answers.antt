use Rattle.tv_cover.proofs.CoverLaws.{on_ok}
use Rattle.tv_cover.proofs.NotedLaws.{added-there}
use Rattle.tv_cover.proofs.noted.Noted.add_alike.Goals as goal

pub returns-clause-added : goal.returns-clause-added
returns-clause-added c =
    on_ok c.add_places.result
    (λ all.
    added-there c.args.self.now c.args.known.now c.args.glance.now c.add_places.new.found.items c.notings_at-notings.result.now
    c.number.result c.summaries.result c.number.ensures c.notings_at-notings.ensures c.summaries.ensures all)
    c.add_places.ensures.added
