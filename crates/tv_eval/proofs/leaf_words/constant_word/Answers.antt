use Rattle.std.proofs.Common.{refl, arith}
use Rattle.tv_eval.proofs.AlongWords.{of-constant}
use Rattle.tv_eval.proofs.leaf_words.constant_word.Goals as goal

pub returns : goal.returns
returns c = λ n chunk.
    of-constant n chunk 64 c.args.k (λ u. c.args.k) c.of.result c.of.ensures (omega arith) (omega arith) (λ u. refl)
