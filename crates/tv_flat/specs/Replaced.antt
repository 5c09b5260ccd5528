-- What is replaced where: the identifiers of a name, also in formulas, and pieces of texts. Variables never
-- are.
use Rattle.std.specs.Prelude.{ℕ, List, [], ◌∷◌, Option, Some, None, map}
use Rattle.std.specs.List.{flat_map}
use Rattle.std.specs.Map.{lookup}
use Rattle.std.specs.Option.{unwrap_or}
use Rattle.std.specs.Str.{bytes_eq}
use Rattle.indexmap.specs.IndexMap.{insert_entry, insert_all}
use Rattle.tv_tree.specs.Forms.{NameForm, Form, FZero, FOne, FHalf, FSame, FDiffer, FAtom, FStar, FPlus}
use Rattle.tv_tree.specs.Forms.{FParen, FNot, FAnd, FOr, FImp, FIff, FCond, FExists, FForall, FTc, PredForm}
use Rattle.tv_tree.specs.Forms.{UpdateForm, PieceForm, Quoted, Spelled}
use Rattle.tv_flat.specs.FlatForm.{RuleForm}

-- what words stand for: each word that is bound, with what stands for it
abbrev pub Binding : Type 0
Binding = List (List ℕ × List ℕ)

-- with a word bound; what stood for it so far is hidden
abbrev pub bound : Binding → List ℕ → List ℕ → Binding
bound = insert_entry bytes_eq

-- with the words of pairs bound, one after the other
abbrev pub all_bound : Binding → List (List ℕ × List ℕ) → Binding
all_bound = insert_all bytes_eq

-- what stands for a word, else the word itself; what is put in isn't replaced again
abbrev pub replaced : Binding → List ℕ → List ℕ
replaced binding word = unwrap_or (lookup (bytes_eq word) binding) word

abbrev pub flat_name : Binding → NameForm → NameForm
flat_name b n = record { first = replaced b n.first; brackets = map (replaced b) n.brackets }

abbrev pub flat_form : Binding → Form → Form
flat_form b FZero = FZero
flat_form b FOne = FOne
flat_form b FHalf = FHalf
flat_form b (FSame v w) = FSame v w
flat_form b (FDiffer v w) = FDiffer v w
flat_form b (FAtom n xs) = FAtom (flat_name b n) xs
flat_form b (FStar n v w) = FStar (flat_name b n) v w
flat_form b (FPlus n v w) = FPlus (flat_name b n) v w
flat_form b (FParen f) = FParen (flat_form b f)
flat_form b (FNot f) = FNot (flat_form b f)
flat_form b (FAnd f g) = FAnd (flat_form b f) (flat_form b g)
flat_form b (FOr f g) = FOr (flat_form b f) (flat_form b g)
flat_form b (FImp f g) = FImp (flat_form b f) (flat_form b g)
flat_form b (FIff f g) = FIff (flat_form b f) (flat_form b g)
flat_form b (FCond f g h) = FCond (flat_form b f) (flat_form b g) (flat_form b h)
flat_form b (FExists xs f) = FExists xs (flat_form b f)
flat_form b (FForall xs f) = FForall xs (flat_form b f)
flat_form b (FTc from to left right f) = FTc from to left right (flat_form b f)

abbrev pub flat_body : Binding → Option Form → Option Form
flat_body b None = None
flat_body b (Some f) = Some (flat_form b f)

abbrev pub flat_pred : Binding → PredForm → PredForm
flat_pred b d =
    record { name = flat_name b d.name; params = d.params; body = flat_body b d.body; props = d.props }

abbrev pub flat_rule : Binding → Form → Form → RuleForm
flat_rule b f g = record { body = flat_form b f; head = flat_form b g }

abbrev pub flat_update : Binding → UpdateForm → UpdateForm
flat_update b u = record { name = flat_name b u.name; params = u.params; body = flat_form b u.body }

-- an identifier that isn't replaced stands for its own spelling
abbrev pub piece_text : Binding → PieceForm → List ℕ
piece_text b (Quoted s) = s
piece_text b (Spelled s) = replaced b s

-- the pieces of a caption or a message, joined to one text
abbrev pub joined_text : Binding → List PieceForm → List ℕ
joined_text b ps = flat_map (piece_text b) ps

abbrev pub one_text : Binding → List PieceForm → List PieceForm
one_text b ps = Quoted (joined_text b ps) ∷ []
