use Rattle.tv_cover.specs.declared.noted.Noted.{Noted}
use Rattle.tv_cover.specs.declared.noted.Noting.{Noting}
use Rattle.tv_cover.proofs.CoverLaws.{on_ok}
use Rattle.tv_cover.proofs.NotedLaws.{notes}
use Rattle.tv_cover.proofs.noted.Noted.add.Goals as goal

pub returns : goal.returns
returns c =
    let new : Noted = record { known = c.add_row.new.rows; places = c.note.new.places }
    in let noting : Noting = record { place = c.args.place; summaries = c.summaries-summaries.result }
    in on_ok c.note.result
    (λ all.
    notes c.args.self.now new c.args.glance.now c.known-known.result c.number-number.result noting
    c.in_ok-add_row.ensures.kept c.in_ok-add_row.ensures.added c.known-known.ensures c.number-number.ensures
    c.summaries-summaries.ensures all)
    c.note.ensures
