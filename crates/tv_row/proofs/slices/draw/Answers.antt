use Rattle.std.proofs.Common.{◌∙◌, List, length, ap}
use Rattle.std.proofs.lemmas.List.{take_all}
use Rattle.tv_row.specs.declared.drawing.Run.{Run}
use Rattle.tv_row.specs.Drawing.{drawn_by}
use Rattle.tv_row.specs.Places.{value_in}
use Rattle.tv_row.proofs.DrawnRuns.{drawn_more, run_apart}
use Rattle.tv_row.proofs.slices.draw.Goals as goal

pub loop-run-preserved : goal.loop-run-preserved
loop-run-preserved c = (
  λ column lt.
      drawn_more (value_in c.args.source.now c.args.from) column c.runs-runs.result.now c.loop-run.run-index _
      (value_in c.loop-run.words c.args.at column) _ c.loop-run-test.true (c.loop-run.invariant.0 column lt) (c.draw_run.ensures.values column),
  λ p out.
      c.draw_run.ensures.others p
      (run_apart c.args.at c.args.width c.args.drawing.now.columns (length c.args.drawing.now.origins) p _
      (c.runs-runs.ensures.each c.loop-run.run-index _ c.loop-run-test.true) c.requires.room out)
      ∙ c.loop-run.invariant.1 p out,
  λ all. c.draw_run.ensures.long (c.loop-run.invariant.2 all),
  c.draw_run.ensures.length ∙ c.loop-run.invariant.3,
)

pub returns-clause-values : goal.returns-clause-values
returns-clause-values c =
    λ column lt.
    c.loop-run.invariant.0 column lt
    ∙ ap (λ (runs : List Run). drawn_by (value_in c.args.source.now c.args.from) runs column)
    (take_all c.loop-run.run-index c.runs-runs.result.now c.loop-run-test.false)
    ∙ c.runs-runs.ensures.values (value_in c.args.source.now c.args.from) column
