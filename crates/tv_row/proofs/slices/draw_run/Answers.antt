use Rattle.std.proofs.Common.{◌∙◌, ◌+◌, ◌/◌, ◌%◌, List, get_or, [], ap}
use Rattle.std.proofs.lemmas.List.{get_or_read}
use Rattle.tv_kleene.specs.declared.K3.{K3}
use Rattle.tv_kleene.specs.declared.K3.TheVariants.{No}
use Rattle.tv_row.proofs.DrawnRuns.{run_drawn}
use Rattle.tv_row.proofs.slices.draw_run.Goals as goal

pub returns-clause-values : goal.returns-clause-values
returns-clause-values c =
    λ column.
    run_drawn c.args.words.now c.args.source.now c.args.at c.args.from c.args.run c.with_run.result c.requires.to c.requires.from
    c.requires.row
    (λ i lt.
    c.with_run.ensures.taken i lt
    ∙ ap (λ (word : List K3). get_or word (c.args.run.from % 64 + i) No)
    (get_or_read c.args.source.now (c.args.from + c.args.run.from / 64) c.index-source-from.result c.requires.source c.index-source-from.is []))
    (λ j out.
    c.with_run.ensures.kept j out
    ∙ ap (λ (word : List K3). get_or word j No)
    (get_or_read c.args.words.now (c.args.at + c.args.run.to / 64) c.index-words-place.result c.requires.row c.index-words-place.is []))
    column
