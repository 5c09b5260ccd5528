use Rattle.std.proofs.Common.{refl}
use Rattle.tv_kleene.specs.Kleene.{join_of}
use Rattle.tv_row.proofs.row.Row.join.Goals as goal

pub word_by_word-requires-clause-pairing : goal.word_by_word-requires-clause-pairing
word_by_word-requires-clause-pairing c = (join_of, record { none = refl; each = λ v w r is. is.2 })
