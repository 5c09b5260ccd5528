use Rattle.std.proofs.Common.{◌∙◌, List, length, get_or, ap}
use Rattle.std.proofs.lemmas.List.{take_all}
use Rattle.tv_kleene.specs.declared.K3.TheVariants.{No}
use Rattle.tv_row.specs.declared.drawing.Run.{Run}
use Rattle.tv_row.specs.Drawing.{drawn_by}
use Rattle.tv_row.proofs.DrawnRuns.{drawn_more, word_run}
use Rattle.tv_row.proofs.RowOps.{no_word, no_place}
use Rattle.tv_row.proofs.word.Word.drawn.Goals as goal

pub loop-run-init : goal.loop-run-init
loop-run-init c = (λ column lt. ap (λ word. get_or word column No) c.of-word.ensures ∙ no_place column lt, ap length c.of-word.ensures ∙ no_word)

pub loop-run-preserved : goal.loop-run-preserved
loop-run-preserved c = (
  λ column lt.
      drawn_more (λ i. get_or c.args.self i No) column c.runs-runs.result.now c.loop-run.run-index _
      (get_or c.loop-run.word column No) _ c.loop-run-test.true (c.loop-run.invariant.0 column lt)
      (word_run c.loop-run.word c.args.self c.with_run-word.result _ c.with_run-word.ensures.taken c.with_run-word.ensures.kept column),
  c.with_run-word.ensures.long,
)

pub returns-clause-values : goal.returns-clause-values
returns-clause-values c =
    λ column lt.
    c.loop-run.invariant.0 column lt
    ∙ ap (λ (runs : List Run). drawn_by (λ i. get_or c.args.self i No) runs column)
    (take_all c.loop-run.run-index c.runs-runs.result.now c.loop-run-test.false)
    ∙ c.runs-runs.ensures.values (λ i. get_or c.args.self i No) column
