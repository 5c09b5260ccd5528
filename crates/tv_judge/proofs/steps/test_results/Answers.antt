use Rattle.std.proofs.Common.{refl, sym, subst}
use Rattle.tv_judge.specs.Found.{IsStableIn}
use Rattle.tv_judge.specs.Setting.{case_in}
use Rattle.tv_judge.proofs.Passing.{results-pass}
use Rattle.tv_judge.proofs.Reports.{index-at, result-there}
use Rattle.tv_judge.proofs.steps.test_results.Goals as goal

pub returns-clause-next : goal.returns-clause-next
returns-clause-next c = record {
  lines = c.loop-result.invariant.lines;
  done =
      results-pass (case_in c.args.x.now) c.requires.ready.valid c.loop-result.invariant.lines c.args.at.edge
      c.args.at.structure c.args.at.to
      c.loop-result.result c.args.results.now c.requires.results c.loop-result-test.false
      c.loop-result.invariant.done;
  kept = c.loop-result.invariant.kept;
  stable = c.loop-result.invariant.stable;
}

pub test_item-requires-clause-stable : goal.test_item-requires-clause-stable
test_item-requires-clause-stable c =
    subst (IsStableIn (case_in c.args.x.now)) (sym c.index-results-result.is)
    (c.requires.stable c.loop-result.result c.index-results-result.result c.loop-result-test.true)

pub test_item-requires-clause-there : goal.test_item-requires-clause-there
test_item-requires-clause-there c =
    result-there (case_in c.args.x.now) c.args.at.edge c.args.at.structure c.args.at.to c.loop-result.result
    c.args.results.now c.index-results-result.result c.requires.results
    (index-at c.args.results.now c.args.results.now c.loop-result.result c.index-results-result.result refl
    c.index-results-result.is c.loop-result-test.true)
