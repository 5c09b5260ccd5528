use Rattle.std.proofs.Common.{◌≡◌, ◌++◌, drop}
use Rattle.tv_tree.proofs.NameTexts.{behind_commas}
use Rattle.tv_tree.proofs.names.push_words.Given as goal

-- the words so far and those that are left are all of them
abbrev pub invariant-loop-word : goal.invariant-loop-word
invariant-loop-word l = l.text.items ++ behind_commas (drop l.word-index l.words) ≡ l.initial.text.items ++ behind_commas l.words
