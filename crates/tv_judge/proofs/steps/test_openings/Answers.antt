use Rattle.std.proofs.Common.{subst, ◌≤◌}
use Rattle.tv_judge.specs.Setting.{case_in}
use Rattle.tv_judge.proofs.Passing.{initials-pass}
use Rattle.tv_judge.proofs.steps.test_openings.Goals as goal

pub returns-clause-next : goal.returns-clause-next
returns-clause-next c = record {
  lines = c.loop-number.invariant.done.lines;
  done =
      initials-pass (case_in c.args.x.now) c.loop-number.invariant.done.lines c.loop-number.number
      (subst (λ n. n ≤ c.loop-number.number) c.len-number-end.ensures c.loop-number-test.false)
      c.loop-number.invariant.done.done;
  kept = c.loop-number.invariant.done.kept;
  stable = c.loop-number.invariant.done.stable;
}
