use Rattle.std.proofs.Common.{◌≡◌, length}
use Rattle.std.specs.Prelude.{All}
use Rattle.tv_tvs.specs.Targets.{IsRead}
use Rattle.tv_report.proofs.matching.list_structures.Given as goal

abbrev pub invariant-loop : goal.invariant-loop
invariant-loop l = record {
  nodes : length l.listing ≡ length l.initial.listing;
  kept : All (All (IsRead l.vocab)) l.listing;
}
