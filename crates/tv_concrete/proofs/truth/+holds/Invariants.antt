-- Each function goes down the formula; `reaches` also goes down the allowed stops, which are fewer than 2 ^ 64.
use Rattle.std.proofs.Common.{ℕ, ◌+◌, ◌*◌, ◌<◌, length, get_or}
use Rattle.tv_model.specs.Form.{form_of, height}
use Rattle.tv_model.specs.Truth.{Truth, put}
use Rattle.tv_concrete.specs.Lists.{heap_of, assignment_of}
use Rattle.tv_concrete.proofs.truth.+holds.Given as goal

abbrev pub decreases-holds : goal.decreases-holds
decreases-holds l = 36893488147419103232 * height (form_of l.f.now)

abbrev pub decreases-holds_of_some : goal.decreases-holds_of_some
decreases-holds_of_some l = 36893488147419103232 * height (form_of l.body.now) + 2

abbrev pub decreases-holds_of_all : goal.decreases-holds_of_all
decreases-holds_of_all l = 36893488147419103232 * height (form_of l.body.now) + 2

abbrev pub decreases-holds_with : goal.decreases-holds_with
decreases-holds_with l = 36893488147419103232 * height (form_of l.body.now) + 1

abbrev pub decreases-is_edge : goal.decreases-is_edge
decreases-is_edge l = 36893488147419103232 * height (form_of l.edges.now.body.now) + 2

abbrev pub decreases-reaches : goal.decreases-reaches
decreases-reaches l = 36893488147419103232 * height (form_of l.edges.now.body.now) + length l.allowed.now + 3

-- the body is true of each individual so far
abbrev pub invariant-holds_of_all-loop-u : goal.invariant-holds_of_all-loop-u
invariant-holds_of_all-loop-u l =
    (k : ℕ) → k < l.u-index
    → Truth (heap_of l.heap) (put (assignment_of l.values) l.v.0 (get_or l.u-items k 0)) (form_of l.body)

-- the body is true of no individual so far
abbrev pub invariant-holds_of_some-loop-u : goal.invariant-holds_of_some-loop-u
invariant-holds_of_some-loop-u l =
    (k : ℕ) → k < l.u-index
    → ¬ Truth (heap_of l.heap) (put (assignment_of l.values) l.v.0 (get_or l.u-items k 0)) (form_of l.body)
