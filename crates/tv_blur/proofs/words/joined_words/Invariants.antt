use Rattle.std.proofs.Common.{◌+◌}
use Rattle.tv_blur.proofs.WordLaws.{AreJoinedIn}
use Rattle.tv_blur.proofs.words.joined_words.Given as goal

abbrev pub invariant-loop-i : goal.invariant-loop-i
invariant-loop-i l = AreJoinedIn l.s l.p.0 l.members (l.i + 1) l.joined
