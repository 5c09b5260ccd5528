use Rattle.std.proofs.Common.{arith}
use Rattle.std.proofs.lemmas.List.Elements.{All-push}
use Rattle.tv_row.specs.Drawing.{IsRunOfColumns}
use Rattle.std.proofs.Common.{length}
use Rattle.tv_row.proofs.DrawnRuns.{drawn_run}
use Rattle.tv_row.proofs.drawing.runs_of.Goals as goal

pub loop-at-preserved-then-origins-at : goal.loop-at-preserved-then-origins-at
loop-at-preserved-then-origins-at c = record {
  within = omega (arith, c.run_from-run.ensures.fits.to_end, c.run_from-run.ensures.place.0);
  each = rw c.in_ok-push.ensures.items
      (All-push (IsRunOfColumns c.args.columns (length c.args.origins.now)) c.loop-at.runs.items c.run_from-run.result c.loop-at.invariant.each
      c.run_from-run.ensures.fits);
  values = rw c.in_ok-push.ensures.items
      (drawn_run (record { origins = c.args.origins.now; columns = c.args.columns }) c.loop-at.runs.items c.loop-at.at
      c.loop-at.invariant.values c.run_from-run.result c.run_from-run.ensures.fits c.run_from-run.ensures.place.0
      c.run_from-run.ensures.origins);
}
