use Rattle.std.proofs.Common.{◌≡◌, drop}
use Rattle.tv_expand.specs.Sets.{with_members}
use Rattle.tv_expand.specs.Views.{names_of}
use Rattle.tv_expand.proofs.words.add_all.Given as goal

-- the words so far and those that are left are all of them
abbrev pub invariant-loop-word : goal.invariant-loop-word
invariant-loop-word l = with_members (names_of l.seen.keys) (names_of (drop l.word-index l.words)) ≡ with_members (names_of l.initial.seen.keys) (names_of l.words)
