use Rattle.std.proofs.Common.{refl}
use Rattle.tv_kleene.specs.Kleene.{smaller_of}
use Rattle.tv_row.proofs.row.Row.and.Goals as goal

pub word_by_word-requires-clause-pairing : goal.word_by_word-requires-clause-pairing
word_by_word-requires-clause-pairing c = (smaller_of, record { none = refl; each = λ v w r is. is.2 })
