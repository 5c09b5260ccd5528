use Rattle.std.proofs.Common.{◌≡◌, true, false, List, ℕ}
use Rattle.std.proofs.lemmas.Result.{IfOk-weaker}
use Rattle.tv_embedding_laws.specs.Embedding.{IsEmbedded}
use Rattle.tv_structure_form.specs.StructureForm.{StructureForm, structure_of}
use Rattle.tv_blur.specs.Names.{abstraction_preds}
use Rattle.tv_blur.specs.Blur.{IsBlur, IsBlurred}
use Rattle.tv_blur.proofs.Ascended.{blurred-itself}
use Rattle.tv_blur.proofs.MergedLaws.{covers}
use Rattle.tv_blur.proofs.BlurLaws.{keeps_names}
use Rattle.tv_blur.proofs.canonical.into_blurred.Goals as goal

above : (preds : List ℕ) (s t : StructureForm) → IsBlur preds s t → IsEmbedded (structure_of s) (structure_of t)
above preds s t (place, blur) = (place, covers place (structure_of s) (structure_of t) blur.merged)

pub returns-clause-above : goal.returns-clause-above
returns-clause-above c =
    IfOk-weaker c.regrouped.result (IsBlur (abstraction_preds c.args.vocab.now) c.args.s)
    (λ t. IsEmbedded (structure_of c.args.s) (structure_of t))
    (above (abstraction_preds c.args.vocab.now) c.args.s) c.regrouped.ensures.exact

pub returns-clause-blurred : goal.returns-clause-blurred
returns-clause-blurred c =
    IfOk-weaker c.regrouped.result (IsBlur (abstraction_preds c.args.vocab.now) c.args.s)
    (IsBlurred (abstraction_preds c.args.vocab.now))
    (λ t (place, blur). (keeps_names place (abstraction_preds c.args.vocab.now) c.args.s t blur).blurred)
    c.regrouped.ensures.exact

pub returns-clause-again : goal.returns-clause-again
returns-clause-again c is =
    absurd (let on : c.is_blurred.result ≡ true = c.is_blurred.ensures.1 is
    in let off : c.is_blurred.result ≡ false = c.if-is_blurred.false in cc)

pub returns-then-is_blurred-clause-exact : goal.returns-then-is_blurred-clause-exact
returns-then-is_blurred-clause-exact c =
    blurred-itself (abstraction_preds c.args.vocab.now) c.args.s (c.is_blurred.ensures.0 c.if-is_blurred.true)

pub returns-then-is_blurred-clause-above : goal.returns-then-is_blurred-clause-above
returns-then-is_blurred-clause-above c =
    above (abstraction_preds c.args.vocab.now) c.args.s c.args.s
    (blurred-itself (abstraction_preds c.args.vocab.now) c.args.s (c.is_blurred.ensures.0 c.if-is_blurred.true))
