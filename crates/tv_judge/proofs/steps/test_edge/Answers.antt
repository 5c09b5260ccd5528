use Rattle.std.proofs.Common.{refl, subst, ◌≤◌}
use Rattle.tv_judge.specs.Setting.{case_in}
use Rattle.tv_judge.proofs.Passing.{edge-begins, structures-pass}
use Rattle.tv_judge.proofs.steps.test_edge.Goals as goal

pub returns-clause-next : goal.returns-clause-next
returns-clause-next c = record {
  lines = c.loop-structure.invariant.done.lines;
  done =
      structures-pass (case_in c.args.x.now) c.loop-structure.invariant.done.lines c.args.edge c.loop-structure.structure
      c.edge_at-taken.result c.edge_at-taken.ensures
      (subst (λ n. n ≤ c.loop-structure.structure) c.count-structure-end.ensures c.loop-structure-test.false)
      c.loop-structure.invariant.done.done;
  kept = c.loop-structure.invariant.done.kept;
  stable = c.loop-structure.invariant.done.stable;
}

pub loop-structure-init : goal.loop-structure-init
loop-structure-init c = record {
  done = record {
    lines = c.requires.so_far.lines;
    done = edge-begins (case_in c.args.x.now) c.requires.so_far.lines c.args.edge c.requires.so_far.done;
    kept = c.requires.so_far.kept;
    stable = c.requires.so_far.stable;
  };
  same = refl;
}
