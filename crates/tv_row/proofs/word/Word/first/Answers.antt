use Rattle.std.proofs.Common.{◌∙◌, refl}
use Rattle.tv_row.proofs.WordMore.{first_values, first_is_word}
use Rattle.tv_row.proofs.word.Word.first.Goals as goal

pub invariant_of-result : goal.invariant_of-result
invariant_of-result c = first_is_word c.args.n _ _ _ c.self.invariant c.ones_below-ones.ensures c.requires

pub returns : goal.returns
returns c = first_values c.args.n _ _ _ c.self.invariant c.ones_below-ones.ensures c.requires ∙ (rw c.self.view_is refl)
