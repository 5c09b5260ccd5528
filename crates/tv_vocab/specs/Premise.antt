-- What validity rests on: the limits of a flat form, its names, node words and texts, and the numbers of its
-- actions.
use Rattle.std.specs.Prelude.{◌≤◌, length, All, ⊤}
use Rattle.tv_model.specs.Spelling.{IsText}
use Rattle.tv_tree.specs.Forms.{PieceForm, PartForm, PCaption, PFocus, PPre, PMessage, PNew, PRetain, PBlock}
use Rattle.tv_tree.specs.Spelled.{IsSpelledName}
use Rattle.tv_flat.specs.FlatForm.{FlatForm, IsFlatEdge, item_count}
use Rattle.tv_vocab.specs.Actions.{piece_text}

abbrev pub IsTextPiece : PieceForm → Type 0
IsTextPiece p = IsText (piece_text p)

-- a message's text consists of bytes that a text may have
abbrev pub HasTexts : PartForm → Type 0
HasTexts (PMessage f ps) = All IsTextPiece ps
HasTexts (PCaption ps) = ⊤
HasTexts (PFocus fs) = ⊤
HasTexts (PPre f) = ⊤
HasTexts PNew = ⊤
HasTexts (PRetain f) = ⊤
HasTexts (PBlock us) = ⊤

-- There are at most 65,536 items; the names of the declared predicates, the words of nodes and the texts of
-- messages are well spelled; and the action of each edge is there. What expansion gives of a program that was
-- read is so.
pub record IsResolvable (f : FlatForm) : Type 0 where
  pub items : item_count f ≤ 65536
  pub names : All (λ d. IsSpelledName d.name) f.preds
  pub texts : All (All HasTexts) f.actions
  pub edges : All (IsFlatEdge (length f.actions)) f.edges
