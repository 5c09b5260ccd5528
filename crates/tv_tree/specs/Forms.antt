-- The trees of a program as plain data: what clauses compare, where a tree of the code holds boxes and
-- vectors.
use Rattle.std.specs.Prelude.{ℕ, List, Option}
use Rattle.tv_tree.specs.declared.trees.PropWord.{PropWord}

-- an identifier, and the identifiers in brackets behind it
pub record NameForm : Type 0 where
  pub first : List ℕ
  pub brackets : List (List ℕ)

-- an expression for a set of identifiers
pub data SetForm : Type 0 where
  SNamed : List ℕ → SetForm
  SMembers : List (List ℕ) → SetForm
  SParen : SetForm → SetForm
  SPlus SMinus : SetForm → SetForm → SetForm

-- a formula as it is written
pub data Form : Type 0 where
  FZero FOne FHalf : Form
  FSame FDiffer : List ℕ → List ℕ → Form
  FAtom : NameForm → List (List ℕ) → Form
  FStar FPlus : NameForm → List ℕ → List ℕ → Form
  FParen FNot : Form → Form
  FAnd FOr FImp FIff : Form → Form → Form
  FCond : Form → Form → Form → Form
  FExists FForall : List (List ℕ) → Form → Form
  FTc : List ℕ → List ℕ → List ℕ → List ℕ → Form → Form

-- a predicate's declaration, with its definition if it has one
pub record PredForm : Type 0 where
  pub name : NameForm
  pub params : List (List ℕ)
  pub body : Option Form
  pub props : List PropWord

-- what stands by itself, or is given once for each member of a set
mutual
  pub data Nest (X : Type 0) : Type 0 where
    Single : X → Nest X
    Foreach : List ℕ → SetForm → Nests X → Nest X

  pub data Nests (X : Type 0) : Type 0 where
    no_nest : Nests X
    with_nest : Nest X → Nests X → Nests X

-- a declaration, foreach aside
pub data DeclForm : Type 0 where
  DSet : List ℕ → SetForm → DeclForm
  DPred : PredForm → DeclForm
  DRule : Form → Form → DeclForm

-- an update, foreach aside
pub record UpdateForm : Type 0 where
  pub name : NameForm
  pub params : List (List ℕ)
  pub body : Form

-- a piece of a caption or a message
pub data PieceForm : Type 0 where
  Quoted Spelled : List ℕ → PieceForm

-- a part of an action
pub data PartForm : Type 0 where
  PCaption : List PieceForm → PartForm
  PFocus : List Form → PartForm
  PPre : Form → PartForm
  PMessage : Form → List PieceForm → PartForm
  PNew : PartForm
  PRetain : Form → PartForm
  PBlock : Nests UpdateForm → PartForm

pub record ActionForm : Type 0 where
  pub name : List ℕ
  pub params : List (List ℕ)
  pub parts : List PartForm

pub record EdgeForm : Type 0 where
  pub from : List ℕ
  pub action : List ℕ
  pub arguments : List (List ℕ)
  pub to : List ℕ

pub record ProgramForm : Type 0 where
  pub decls : Nests DeclForm
  pub actions : List ActionForm
  pub edges : List EdgeForm
  pub tail : Option (List (List ℕ))
