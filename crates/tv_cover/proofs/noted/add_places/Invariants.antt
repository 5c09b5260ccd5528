use Rattle.std.proofs.Common.{ℕ}
use Rattle.std.specs.Prelude.{Contains}
use Rattle.tv_cover.proofs.NotedLaws.{AreAdded}
use Rattle.tv_cover.proofs.noted.add_places.Given as goal

abbrev pub invariant-loop-noting : goal.invariant-loop-noting
invariant-loop-noting l = record {
  kept : (place : ℕ) → Contains l.fn.found.items place → Contains l.found.items place;
  added : AreAdded l.notings l.slots l.noting-index l.found.items;
}
