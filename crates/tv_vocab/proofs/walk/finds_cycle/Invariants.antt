use Rattle.std.proofs.Common.{ℕ, ◌≡◌, ◌≢◌, ◌<◌, [], map}
use Rattle.tv_vocab.specs.Walk.{AreMarks, mark_at}
use Rattle.tv_vocab.specs.declared.walk.Mark.TheVariants.{Unseen}
use Rattle.tv_vocab.proofs.walk.finds_cycle.Given as goal

abbrev pub invariant-loop-pred : goal.invariant-loop-pred
invariant-loop-pred l =
    AreMarks (map (λ one. one.items) l.uses) l.walk.marks.items []
    × (l.walk.path.items ≡ [])
    × ((p : ℕ) → p < l.pred → mark_at l.walk.marks.items p ≢ Unseen)
