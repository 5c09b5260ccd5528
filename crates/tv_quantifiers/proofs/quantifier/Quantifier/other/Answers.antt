use Rattle.std.proofs.Common.{sym}
use Rattle.tv_quantifiers.specs.declared.quantifier.Quantifier.TheVariants.{Forall}
use Rattle.tv_quantifiers.proofs.Quantifying.{turned-twice}
use Rattle.tv_quantifiers.proofs.quantifier.Quantifier.other.Goals as goal

pub returns-in-Forall-clause-turned : goal.returns-in-Forall-clause-turned
returns-in-Forall-clause-turned c = λ k. rw c.in-Forall.is (sym (turned-twice Forall k))
