use Rattle.std.proofs.Common.{◌≡◌, ◌++◌, drop}
use Rattle.tv_flat.proofs.copies.copy_words.Given as goal

-- what is copied and the copies of what is left are the whole copy
abbrev pub invariant-loop-word : goal.invariant-loop-word
invariant-loop-word l = l.copy.items ++ drop l.word-index l.words ≡ l.words
