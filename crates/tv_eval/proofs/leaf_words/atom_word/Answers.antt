use Rattle.std.proofs.Common.{[]}
use Rattle.tv_structure_form.specs.StructureForm.{value_at}
use Rattle.tv_eval.proofs.AlongWords.{same-word}
use Rattle.tv_eval.proofs.leaf_words.atom_word.Goals as goal

pub returns-in-Zero : goal.returns-in-Zero
returns-in-Zero c =
    rw c.in-Zero.is (same-word c.args.s.now.size c.args.chunk (λ u. c.get.result)
    (λ u. value_at c.args.s.now c.args.pred.0 []) c.constant_word.result
    (c.constant_word.ensures c.args.s.now.size c.args.chunk) (λ u lt. c.get.ensures))
