use Rattle.std.proofs.Common.{◌≡◌, ◌++◌, drop}
use Rattle.std.specs.Prelude.{codes}
use Rattle.tv_tree.specs.Printed.{spaced, more_tokens, one_token}
use Rattle.tv_tree.proofs.print.print_more_words.Given as goal

-- the words so far and those that are left are all of them
abbrev pub invariant-loop-word : goal.invariant-loop-word
invariant-loop-word l = l.out.items ++ spaced (more_tokens (codes ",") one_token (drop l.word-index l.words)) ≡ l.initial.out.items ++ spaced (more_tokens (codes ",") one_token l.words)
