use Rattle.std.proofs.Common.{◌≡◌, length}
use Rattle.std.specs.Prelude.{All}
use Rattle.tv_tvs.specs.Targets.{IsRead}
use Rattle.tv_report.proofs.matching.take_listing.Given as goal

abbrev pub invariant-loop-number : goal.invariant-loop-number
invariant-loop-number l = record {
  nodes : length l.listing ≡ length l.program.nodes;
  kept : All (All (IsRead l.program.vocab)) l.listing;
}
