use Rattle.std.proofs.Common.{subst, sym, ◌∙◌, arith}
use Rattle.std.proofs.lemmas.Result.{err_from_is_err_and}
use Rattle.tv_judge.specs.Index.{IsLineIndex, IsMessageIndex}
use Rattle.tv_judge.proofs.verdict.tested.Goals as goal

pub test_report-requires-clause-ready : goal.test_report-requires-clause-ready
test_report-requires-clause-ready c = record {
  valid = c.requires.valid;
  initial = c.requires.initial;
  few = c.requires.few;
  listing = c.requires.listing;
  lines = subst (IsLineIndex c.in_ok-lines.lines.entries) c.as_slice.ensures c.in_ok-lines.ensures;
  said = subst (IsMessageIndex c.in_ok-said.said.keys) c.as_slice-2.ensures c.in_ok-said.ensures;
  targets = c.as_slice-3.ensures.value ∙ c.in_ok-targets.ensures;
}

pub all_targets-requires-clause-nodes : goal.all_targets-requires-clause-nodes
all_targets-requires-clause-nodes c = c.len-nodes.ensures ∙ sym c.requires.listing.nodes

pub all_targets-requires-clause-few : goal.all_targets-requires-clause-few
all_targets-requires-clause-few c = omega (arith, c.len-nodes.ensures, c.requires.valid.node_count)

pub returns-in_err-targets-clause-stop : goal.returns-in_err-targets-clause-stop
returns-in_err-targets-clause-stop c =
    let p = err_from_is_err_and c.from_residual-in_err-targets.result c.from_residual-in_err-targets.ensures.1
    in rw (p.1, p.2) tt
