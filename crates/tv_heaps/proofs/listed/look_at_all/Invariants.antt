use Rattle.std.proofs.Common.{◌≡◌}
use Rattle.tv_model.specs.Heap.{Heap}
use Rattle.tv_heaps.specs.Listed.{IsAhead, IsUnderWay, IsWanted, wish_of}
use Rattle.tv_heaps.proofs.listed.look_at_all.Given as goal

abbrev pub invariant-loop : goal.invariant-loop
invariant-loop l = record {
  under_way : IsUnderWay (wish_of l.book l.wanted) l.listed;
  ahead : (h : Heap) → IsWanted (wish_of l.book l.wanted) h → IsAhead l.initial.listed h → IsAhead l.listed h;
  scratch : l.scratch ≡ l.initial.scratch;
}
