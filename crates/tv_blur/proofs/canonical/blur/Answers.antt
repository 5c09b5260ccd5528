use Rattle.std.proofs.Common.{subst}
use Rattle.std.specs.Prelude.{IfOk}
use Rattle.tv_embedding_laws.specs.Embedding.{IsEmbedded}
use Rattle.tv_structure_form.specs.StructureForm.{structure_of}
use Rattle.tv_blur.proofs.canonical.blur.Goals as goal

pub returns-clause-above : goal.returns-clause-above
returns-clause-above c =
    subst (λ s. IfOk c.into_blurred.result (λ t. IsEmbedded (structure_of s) (structure_of t)))
    c.in_ok-copy.ensures.value c.into_blurred.ensures.above
