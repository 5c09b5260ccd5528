-- Trees whose words are spelled as the text of a program spells them.
use Rattle.std.specs.Prelude.{ℕ, ◌≡◌, ◌+◌, ◌≤◌, List, [], ◌∷◌, Option, Some, None, All, ⊤}
use Rattle.tv_model.specs.Spelling.{IsIdentifier, IsWord, IsText}
use Rattle.tv_tree.specs.Forms.{NameForm, SetForm, SNamed, SMembers, SParen, SPlus, SMinus, Form, FZero, FOne}
use Rattle.tv_tree.specs.Forms.{FHalf, FSame, FDiffer, FAtom, FStar, FPlus, FParen, FNot, FAnd, FOr, FImp}
use Rattle.tv_tree.specs.Forms.{FIff, FCond, FExists, FForall, FTc, PredForm, Nest, Single, Foreach, Nests}
use Rattle.tv_tree.specs.Forms.{no_nest, with_nest, DeclForm, DSet, DPred, DRule, PieceForm, Quoted, Spelled}
use Rattle.tv_tree.specs.Forms.{UpdateForm, PartForm, PCaption, PFocus, PPre, PMessage, PNew, PRetain, PBlock}
use Rattle.tv_tree.specs.Forms.{ActionForm, EdgeForm, ProgramForm}

abbrev pub AreIdentifiers : List (List ℕ) → Type 0
AreIdentifiers xs = All IsIdentifier xs

-- the identifiers of a name
pub record IsSpelledName (n : NameForm) : Type 0 where
  pub first : IsIdentifier n.first
  pub brackets : AreIdentifiers n.brackets

-- the identifiers of an expression for a set
abbrev pub IsSpelledSet : SetForm → Type 0
IsSpelledSet (SNamed s) = IsIdentifier s
IsSpelledSet (SMembers xs) = AreIdentifiers xs
IsSpelledSet (SParen s) = IsSpelledSet s
IsSpelledSet (SPlus s t) = IsSpelledSet s × IsSpelledSet t
IsSpelledSet (SMinus s t) = IsSpelledSet s × IsSpelledSet t

-- the identifiers of a formula
abbrev pub IsSpelledForm : Form → Type 0
IsSpelledForm FZero = ⊤
IsSpelledForm FOne = ⊤
IsSpelledForm FHalf = ⊤
IsSpelledForm (FSame v w) = IsIdentifier v × IsIdentifier w
IsSpelledForm (FDiffer v w) = IsIdentifier v × IsIdentifier w
IsSpelledForm (FAtom n xs) = IsSpelledName n × AreIdentifiers xs
IsSpelledForm (FStar n v w) = IsSpelledName n × IsIdentifier v × IsIdentifier w
IsSpelledForm (FPlus n v w) = IsSpelledName n × IsIdentifier v × IsIdentifier w
IsSpelledForm (FParen f) = IsSpelledForm f
IsSpelledForm (FNot f) = IsSpelledForm f
IsSpelledForm (FAnd f g) = IsSpelledForm f × IsSpelledForm g
IsSpelledForm (FOr f g) = IsSpelledForm f × IsSpelledForm g
IsSpelledForm (FImp f g) = IsSpelledForm f × IsSpelledForm g
IsSpelledForm (FIff f g) = IsSpelledForm f × IsSpelledForm g
IsSpelledForm (FCond f g h) = IsSpelledForm f × IsSpelledForm g × IsSpelledForm h
IsSpelledForm (FExists xs f) = AreIdentifiers xs × IsSpelledForm f
IsSpelledForm (FForall xs f) = AreIdentifiers xs × IsSpelledForm f
IsSpelledForm (FTc from to left right f) =
    IsIdentifier from × IsIdentifier to × IsIdentifier left × IsIdentifier right × IsSpelledForm f

abbrev pub IsSpelledBody : Option Form → Type 0
IsSpelledBody None = ⊤
IsSpelledBody (Some f) = IsSpelledForm f

-- the words of a predicate's declaration
pub record IsSpelledPred (d : PredForm) : Type 0 where
  pub name : IsSpelledName d.name
  pub params : AreIdentifiers d.params
  pub body : IsSpelledBody d.body

-- what stands by itself is spelled, and so is each foreach with what stands in it
abbrev mutual
  pub IsSpelledNest : {X : Type 0} → (X → Type 0) → Nest X → Type 0
  IsSpelledNest P (Single x) = P x
  IsSpelledNest P (Foreach var members body) =
      IsIdentifier var × IsSpelledSet members × AreSpelledNests P body

  pub AreSpelledNests : {X : Type 0} → (X → Type 0) → Nests X → Type 0
  AreSpelledNests P no_nest = ⊤
  AreSpelledNests P (with_nest d ds) = IsSpelledNest P d × AreSpelledNests P ds

abbrev pub IsSpelledDecl : DeclForm → Type 0
IsSpelledDecl (DSet name members) = IsIdentifier name × IsSpelledSet members
IsSpelledDecl (DPred d) = IsSpelledPred d
IsSpelledDecl (DRule f g) = IsSpelledForm f × IsSpelledForm g

abbrev pub IsSpelledPiece : PieceForm → Type 0
IsSpelledPiece (Quoted s) = IsText s
IsSpelledPiece (Spelled s) = IsIdentifier s

pub record IsSpelledUpdate (u : UpdateForm) : Type 0 where
  pub name : IsSpelledName u.name
  pub params : AreIdentifiers u.params
  pub body : IsSpelledForm u.body

abbrev pub IsSpelledPart : PartForm → Type 0
IsSpelledPart (PCaption ps) = All IsSpelledPiece ps
IsSpelledPart (PFocus fs) = All IsSpelledForm fs
IsSpelledPart (PPre f) = IsSpelledForm f
IsSpelledPart (PMessage f ps) = IsSpelledForm f × All IsSpelledPiece ps
IsSpelledPart PNew = ⊤
IsSpelledPart (PRetain f) = IsSpelledForm f
IsSpelledPart (PBlock us) = AreSpelledNests IsSpelledUpdate us

-- the kinds of parts, messages aside
pub data PartKind : Type 0 where
  CaptionPart FocusPart PrePart NewPart RetainPart BlockPart : PartKind

-- how many of the parts are of a kind
abbrev pub one_of_kind : PartKind → PartForm → ℕ
one_of_kind CaptionPart (PCaption ps) = 1
one_of_kind FocusPart (PFocus fs) = 1
one_of_kind PrePart (PPre f) = 1
one_of_kind NewPart PNew = 1
one_of_kind RetainPart (PRetain f) = 1
one_of_kind BlockPart (PBlock us) = 1
one_of_kind _ _ = 0

abbrev pub count_of_kind : PartKind → List PartForm → ℕ
count_of_kind kind [] = 0
count_of_kind kind (p ∷ ps) = one_of_kind kind p + count_of_kind kind ps

-- each kind of part other than the message stands at most once
abbrev pub HasPartsOnce : List PartForm → Type 0
HasPartsOnce parts = (kind : PartKind) → count_of_kind kind parts ≤ 1

pub record IsSpelledAction (a : ActionForm) : Type 0 where
  pub name : IsIdentifier a.name
  pub params : AreIdentifiers a.params
  pub parts : All IsSpelledPart a.parts
  pub once : HasPartsOnce a.parts

-- nodes are any words
pub record IsSpelledEdge (e : EdgeForm) : Type 0 where
  pub from : IsWord e.from
  pub action : IsIdentifier e.action
  pub arguments : AreIdentifiers e.arguments
  pub to : IsWord e.to

abbrev pub IsSpelledTail : Option (List (List ℕ)) → Type 0
IsSpelledTail None = ⊤
IsSpelledTail (Some words) = All IsWord words

-- A program whose words can stand in a text, and whose actions have each kind of part at most once.
pub record IsSpelled (t : ProgramForm) : Type 0 where
  pub decls : AreSpelledNests IsSpelledDecl t.decls
  pub actions : All IsSpelledAction t.actions
  pub edges : All IsSpelledEdge t.edges
  pub tail : IsSpelledTail t.tail
