use Rattle.std.proofs.Common.{◌∙◌, refl}
use Rattle.tv_row.proofs.WordOps.{unless_values, unless_is_word}
use Rattle.tv_row.proofs.word.Word.unless_no.Goals as goal

pub invariant_of-result : goal.invariant_of-result
invariant_of-result c = unless_is_word _ _ _ _ c.self.invariant c.other.invariant

pub returns : goal.returns
returns c = unless_values _ _ _ _ c.self.invariant c.other.invariant ∙ (rw (c.self.view_is, c.other.view_is) refl)
