use Rattle.std.proofs.Common.{◌≡◌, drop}
use Rattle.tv_expand.specs.Sets.{with_members, without_members}
use Rattle.tv_expand.specs.Views.{names_of}
use Rattle.tv_expand.proofs.WordLaws.{others}
use Rattle.tv_expand.proofs.words.without.Given as goal

-- the words that are kept so far and those that are left are all of them
abbrev pub invariant-loop-word : goal.invariant-loop-word
invariant-loop-word l = with_members (names_of l.kept.keys) (others (names_of l.taken.keys) (names_of (drop l.word-index l.words))) ≡ without_members (names_of l.words) (names_of l.taken.keys)
