use Rattle.std.proofs.Common.{refl}
use Rattle.tv_kleene.specs.Kleene.{larger_of}
use Rattle.tv_row.proofs.row.Row.or.Goals as goal

pub word_by_word-requires-clause-pairing : goal.word_by_word-requires-clause-pairing
word_by_word-requires-clause-pairing c = (larger_of, record { none = refl; each = λ v w r is. is.2 })
