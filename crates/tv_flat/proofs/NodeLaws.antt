-- Counting up to the largest number.
use Rattle.std.proofs.Common.{◌≡◌, ℕ, ◌+◌, ◌<◌, ◌≤◌, min, get_or, List, length, map, drop, arith}
use Rattle.std.specs.Prelude.{sum_by}
use Rattle.std.proofs.lemmas.List.{drop_more, drop_all}
use Rattle.std.proofs.lemmas.List.Sums.{sum_by-cons}
use Rattle.tv_tree.specs.declared.trees.FormulaTree.{FormulaTree}
use Rattle.tv_tree.specs.Copies.{form_of}
use Rattle.tv_flat.specs.FlatForm.{nodes}

capped : (a b c m : ℕ) → min (min (a + min b m) m + c) m ≡ min (a + (b + c)) m
capped a b c m = omega arith

pub sum_more : (m sum : ℕ) (fs : List FormulaTree) (i : ℕ) (f : FormulaTree) → i < length fs → f ≡ get_or fs i f → min (min (sum + min (nodes (form_of f)) m) m + sum_by nodes (map form_of (drop (i + 1) fs))) m ≡ min (sum + sum_by nodes (map form_of (drop i fs))) m
sum_more m sum fs i f below is = rw (drop_more fs i f below, ← is, sum_by-cons nodes (form_of f) (map form_of (drop (i + 1) fs))) (capped sum (nodes (form_of f)) (sum_by nodes (map form_of (drop (i + 1) fs))) m)

pub capped_start : (a m : ℕ) → min (0 + a) m ≡ min a m
capped_start a m = omega arith

pub capped_small : (a m : ℕ) → min a m ≤ m
capped_small a m = omega arith

capped_done : (m a : ℕ) → a ≤ m → min (a + 0) m ≡ a
capped_done m a small = omega arith

pub sum_done : (m sum : ℕ) (fs : List FormulaTree) (i : ℕ) → length fs ≤ i → sum ≤ m → min (sum + sum_by nodes (map form_of (drop i fs))) m ≡ sum
sum_done m sum fs i past small = rw (drop_all i fs past) (capped_done m sum small)
