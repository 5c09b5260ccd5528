use Rattle.std.proofs.Common.{◌≡◌, take}
use Rattle.tv_vocab.specs.Vocabulary.{props_of}
use Rattle.tv_vocab.proofs.vocabulary.props_of.Given as goal

abbrev pub invariant-loop-word : goal.invariant-loop-word
invariant-loop-word l = l.props ≡ props_of (take l.word-index l.words)
