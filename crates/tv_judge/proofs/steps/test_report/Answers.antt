use Rattle.std.proofs.Common.{subst, ◌≤◌}
use Rattle.tv_judge.specs.Setting.{case_in}
use Rattle.tv_judge.proofs.Passing.{edges-pass}
use Rattle.tv_judge.proofs.StableLaws.{tested-none}
use Rattle.tv_judge.proofs.steps.test_report.Goals as goal

pub returns-clause-done : goal.returns-clause-done
returns-clause-done c = (
  c.loop-edge.invariant.done.lines,
  edges-pass (case_in c.args.x.now) c.loop-edge.invariant.done.lines c.loop-edge.edge
      (subst (λ n. n ≤ c.loop-edge.edge) c.len-edge-end.ensures c.loop-edge-test.false)
      c.loop-edge.invariant.done.done,
  c.loop-edge.invariant.done.kept,
)

pub test_openings-requires-clause-so_far : goal.test_openings-requires-clause-so_far
test_openings-requires-clause-so_far c =
    tested-none (case_in c.args.x.now) c.args.x.now.asked c.new-found.result c.new-found.ensures.maps c.new-found.ensures.stable
