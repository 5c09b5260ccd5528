-- What expansion gives of a program that was read meets the premise of resolution.
use Rattle.std.proofs.Common.{List, [], ◌∷◌, get_or}
use Rattle.std.specs.Prelude.{All}
use Rattle.std.proofs.lemmas.List.Elements.{All-nil, All-cons}
use Rattle.tv_tree.specs.Forms.{PieceForm, Quoted, Spelled, PartForm, PCaption, PFocus, PPre, PMessage, PNew}
use Rattle.tv_tree.specs.Forms.{PRetain, PBlock}
use Rattle.tv_flat.specs.FlatForm.{FlatForm, IsFlat, IsFlatPart, IsOneText}
use Rattle.tv_vocab.specs.Premise.{IsTextPiece, HasTexts, IsResolvable}

one_text : (ps : List PieceForm) → IsOneText ps → All IsTextPiece ps
one_text [] one = absurd one
one_text (Quoted s ∷ []) one = All-cons IsTextPiece (Quoted s) [] one (All-nil IsTextPiece)
one_text (Quoted s ∷ x ∷ xs) one = absurd one
one_text (Spelled s ∷ xs) one = absurd one

part_texts : (p : PartForm) → IsFlatPart p → HasTexts p
part_texts (PMessage f ps) is = one_text ps is.1
part_texts (PCaption ps) is = tt
part_texts (PFocus fs) is = tt
part_texts (PPre f) is = tt
part_texts PNew is = tt
part_texts (PRetain f) is = tt
part_texts (PBlock us) is = tt

pub flat_resolvable : (f : FlatForm) → IsFlat f → IsResolvable f
flat_resolvable f is = record {
  items = is.items;
  names = λ k d lt. (is.preds k d lt).name;
  texts = λ k d lt. λ i p within. part_texts (get_or (get_or f.actions k d) i p) ((is.actions k d lt).0 i p within);
  edges = is.edges;
}
