use Rattle.std.proofs.Common.{map}
use Rattle.std.specs.Prelude.{reverse}
use Rattle.tv_vocab.specs.Walk.{AreMarks, IsPath, KeepsSeen, work}
use Rattle.tv_vocab.proofs.walk.Walk.finish.Given as goal

abbrev pub invariant-loop-step : goal.invariant-loop-step
invariant-loop-step l =
    AreMarks (map (λ one. one.items) l.uses) l.self.marks.items (reverse l.self.path.items)
    × IsPath (map (λ one. one.items) l.uses) l.self.marks.items (reverse l.self.path.items)
    × KeepsSeen l.fn.self.marks.items l.self.marks.items

abbrev pub decreases-loop-step : goal.decreases-loop-step
decreases-loop-step l = work (map (λ one. one.items) l.uses) l.self.marks.items l.self.path.items
