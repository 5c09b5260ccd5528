use Rattle.std.proofs.Common.{length}
use Rattle.tv_vocab.proofs.vocabulary.+twice.Given as goal

abbrev pub decreases-twice : goal.decreases-twice
decreases-twice l = length l.names.now
