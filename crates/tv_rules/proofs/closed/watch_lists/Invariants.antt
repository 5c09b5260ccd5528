use Rattle.std.proofs.Common.{ℕ, ◌≡◌, List, length, map, Some, slice_get}
use Rattle.tv_model.specs.Program.{rule_of}
use Rattle.tv_rules.specs.Closing.{closed_set}
use Rattle.tv_rules.specs.Standing.{AreNumbersOf, StandsIn}
use Rattle.tv_rules.proofs.closed.watch_lists.Given as goal

abbrev pub invariant-loop-q : goal.invariant-loop-q
invariant-loop-q l =
    (length l.lists ≡ l.q)
    × ((k : ℕ) (ns : List ℕ) → slice_get l.lists k ≡ Some ns → AreNumbersOf (StandsIn k) (closed_set (map rule_of l.bases)) ns)
