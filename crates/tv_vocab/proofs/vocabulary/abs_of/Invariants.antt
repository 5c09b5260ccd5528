use Rattle.std.proofs.Common.{◌≡◌, take}
use Rattle.tv_vocab.specs.Vocabulary.{abs_of}
use Rattle.tv_vocab.proofs.vocabulary.abs_of.Given as goal

abbrev pub invariant-loop-word : goal.invariant-loop-word
invariant-loop-word l = l.on ≡ abs_of (take l.word-index l.words)
