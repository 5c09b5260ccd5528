-- The grammar of programs. `[ ]` is optional, `{ }` is any number of times; a comma list of X is X, then any
-- number of `,` X. What is optional or repeated is taken exactly where the token at its place can begin it.
-- (Formulas: `tv_formula`.)
--
--   Program = {Decl} `%%` {Action} `%%` {Edge} [`%%` [comma list of words]]
--   Decl    = `%s` identifier [`=`] SetExpr
--           | `%p` Name Params {Prop}
--           | `%i` Name Params `=` Formula {Prop}
--           | `%r` Formula `==>` Formula
--           | `foreach` `(` identifier `in` SetExpr `)` `{` {Decl} `}`
--   SetExpr = SetTerm { (`+` or `-`) SetTerm }                   grouped from the left
--   SetTerm = identifier | `{` [comma list of identifiers] `}` | `(` SetExpr `)`
--   Action  = `%action` identifier Params `{` {Part} `}`         each kind of part but the message at most
--     once
--   Part    = `%t` Pieces | `%f` `{` [comma list of Formula] `}` | `%p` Formula
--           | `%message` Formula `->` Pieces, which begin with a string
--           | `%new` | `%retain` Formula | `{` {Update} `}`
--   Pieces  = Piece { `+` Piece }
--   Piece   = string | identifier
--   Update  = Name Params `=` Formula
--           | `foreach` `(` identifier `in` SetExpr `)` `{` {Update} `}`
--   Edge    = word identifier Params word
--
-- Each relation below says that the tokens `ts` begin with the phrase of a tree, and that `rest` stands
-- behind it.
use Rattle.std.specs.Prelude.{◌≡◌, ℕ, List, [], ◌∷◌, ◌++◌, ◌⊎◌, Bool, Option, Some, None, is_some, IsTrue}
use Rattle.std.specs.Prelude.{IsFalse, codes}
use Rattle.tv_lex.specs.Token.{SpecToken}
use Rattle.tv_phrases.specs.Reading.{taken}
use Rattle.tv_phrases.specs.Tokens.{first, identifier_item, word_item, text_item}
use Rattle.tv_phrases.specs.Lists.{params, name, optional_list, optional_list_in}
use Rattle.tv_phrases.specs.declared.kinds.Brackets.TheVariants as brackets
use Rattle.tv_phrases.specs.declared.kinds.Item.TheVariants as item
use Rattle.tv_formula.specs.Grammar.{Begins, Lacks, IsFormula, name_form}
use Rattle.tv_tree.specs.Forms.{NameForm, SetForm, SNamed, SMembers, SParen, SPlus, SMinus, Form, Nest}
use Rattle.tv_tree.specs.Forms.{Single, Foreach, Nests, no_nest, with_nest, DeclForm, DSet, DPred, DRule}
use Rattle.tv_tree.specs.Forms.{PieceForm, Quoted, Spelled, UpdateForm, PartForm, PCaption, PFocus, PPre}
use Rattle.tv_tree.specs.Forms.{PMessage, PNew, PRetain, PBlock, ActionForm, EdgeForm, ProgramForm}
use Rattle.tv_tree.specs.declared.trees.PropWord.{PropWord}
use Rattle.tv_parse.specs.declared.kinds.DeclKind.{DeclKind}
use Rattle.tv_parse.specs.declared.kinds.DeclKind.TheVariants as decl
use Rattle.tv_parse.specs.Kinds.{decl_kind, part_kind, prop_item, begins_decl, begins_update, begins_formula}
use Rattle.tv_parse.specs.Kinds.{kind_of, may_follow}
use Rattle.tv_phrases.specs.Repeated.{begins_with}
use Rattle.tv_phrases.specs.Repeated.{Repeated, Joined}

-- sets; a front may have further sets behind it
abbrev mutual
  pub IsSetTerm : List SpecToken → SetForm → List SpecToken → Type 0
  IsSetTerm ts (SNamed w) rest = first identifier_item ts ≡ taken w rest
  IsSetTerm ts (SMembers xs) rest = optional_list_in brackets.Curly item.Identifier ts ≡ taken xs rest
  IsSetTerm ts (SParen s) rest =
      (us vs : List SpecToken) × Begins (codes "(") ts us × IsSetFront us s vs × Lacks (codes "+") vs
      × Lacks (codes "-") vs × Begins (codes ")") vs rest
  IsSetTerm ts (SPlus s t) rest = ⊥
  IsSetTerm ts (SMinus s t) rest = ⊥

  pub IsSetFront : List SpecToken → SetForm → List SpecToken → Type 0
  IsSetFront ts (SNamed w) rest = first identifier_item ts ≡ taken w rest
  IsSetFront ts (SMembers xs) rest = optional_list_in brackets.Curly item.Identifier ts ≡ taken xs rest
  IsSetFront ts (SParen s) rest =
      (us vs : List SpecToken) × Begins (codes "(") ts us × IsSetFront us s vs × Lacks (codes "+") vs
      × Lacks (codes "-") vs × Begins (codes ")") vs rest
  IsSetFront ts (SPlus s t) rest =
      (us vs : List SpecToken) × IsSetFront ts s us × Begins (codes "+") us vs × IsSetTerm vs t rest
  IsSetFront ts (SMinus s t) rest =
      (us vs : List SpecToken) × IsSetFront ts s us × Begins (codes "-") us vs × IsSetTerm vs t rest

abbrev pub IsSet : List SpecToken → SetForm → List SpecToken → Type 0
IsSet ts s rest = IsSetFront ts s rest × Lacks (codes "+") rest × Lacks (codes "-") rest

-- from behind `foreach` to its brace
abbrev pub IsHead : List SpecToken → List ℕ → SetForm → List SpecToken → Type 0
IsHead ts var members rest = (us vs ws xs ys : List SpecToken)
    × Begins (codes "(") ts us × (first identifier_item us ≡ taken var vs) × Begins (codes "in") vs ws
    × IsSet ws members xs × Begins (codes ")") xs ys × Begins (codes "{") ys rest

-- what stands by itself, or in a foreach, any number of times
module _ {X : Type 0} (begins : List SpecToken → Bool)
    (IsSingle : List SpecToken → X → List SpecToken → Type 0) where
  abbrev mutual
    pub IsNest : List SpecToken → Nest X → List SpecToken → Type 0
    IsNest ts (Single x) rest = Lacks (codes "foreach") ts × IsSingle ts x rest
    IsNest ts (Foreach var members body) rest =
        (us vs ws : List SpecToken) × Begins (codes "foreach") ts us × IsHead us var members vs
        × AreNests vs body ws × Begins (codes "}") ws rest

    pub AreNests : List SpecToken → Nests X → List SpecToken → Type 0
    AreNests ts no_nest rest = IsFalse (begins ts) × (rest ≡ ts)
    AreNests ts (with_nest d ds) rest =
        (us : List SpecToken) × IsTrue (begins ts) × IsNest ts d us × AreNests us ds rest

-- a name with its parameters
abbrev pub IsSignature : List SpecToken → NameForm → List (List ℕ) → List SpecToken → Type 0
IsSignature ts n xs rest =
    (us : List SpecToken) × (w : List ℕ × List (List ℕ)) × (name ts ≡ taken w us) × (n ≡ name_form w)
    × (params us ≡ taken xs rest)

abbrev pub begins_prop : List SpecToken → Bool
begins_prop ts = is_some (first prop_item ts)

abbrev pub IsProp : List SpecToken → PropWord → List SpecToken → Type 0
IsProp ts p rest = first prop_item ts ≡ taken p rest

abbrev pub AreProps : List SpecToken → List PropWord → List SpecToken → Type 0
AreProps ts ps rest = Repeated begins_prop IsProp ts ps rest

-- `=` may stand here, and is taken where it does
abbrev pub IsOptional : List ℕ → List SpecToken → List SpecToken → Type 0
IsOptional mark ts rest = Begins mark ts rest ⊎ (Lacks mark ts × (rest ≡ ts))

-- the rest of a predicate's declaration: the definition where there is one, and the properties
abbrev pub IsPredEnd : List SpecToken → Option Form → List PropWord → List SpecToken → Type 0
IsPredEnd ts None ps rest = AreProps ts ps rest
IsPredEnd ts (Some f) ps rest =
    (us vs : List SpecToken) × Begins (codes "=") ts us × IsFormula us f vs × AreProps vs ps rest

abbrev pub pred_kind : Option Form → DeclKind
pred_kind None = decl.Core
pred_kind (Some f) = decl.Defined

abbrev pub IsDecl : List SpecToken → DeclForm → List SpecToken → Type 0
IsDecl ts (DSet w s) rest =
    (us vs ws : List SpecToken) × (first decl_kind ts ≡ taken decl.Set us)
    × (first identifier_item us ≡ taken w vs) × IsOptional (codes "=") vs ws × IsSet ws s rest
IsDecl ts (DPred d) rest =
    (us vs : List SpecToken) × (first decl_kind ts ≡ taken (pred_kind d.body) us)
    × IsSignature us d.name d.params vs × IsPredEnd vs d.body d.props rest
IsDecl ts (DRule f g) rest =
    (us vs ws : List SpecToken) × (first decl_kind ts ≡ taken decl.Rule us) × IsFormula us f vs
    × Begins (codes "==>") vs ws × IsFormula ws g rest

abbrev pub AreDecls : List SpecToken → Nests DeclForm → List SpecToken → Type 0
AreDecls ts ds rest = AreNests begins_decl IsDecl ts ds rest

abbrev pub IsUpdate : List SpecToken → UpdateForm → List SpecToken → Type 0
IsUpdate ts u rest =
    (us vs : List SpecToken) × IsSignature ts u.name u.params us × Begins (codes "=") us vs
    × IsFormula vs u.body rest

abbrev pub AreUpdates : List SpecToken → Nests UpdateForm → List SpecToken → Type 0
AreUpdates ts us rest = AreNests begins_update IsUpdate ts us rest

abbrev pub IsPiece : List SpecToken → PieceForm → List SpecToken → Type 0
IsPiece ts (Quoted s) rest = first text_item ts ≡ taken s rest
IsPiece ts (Spelled s) rest = first identifier_item ts ≡ taken s rest

abbrev pub ArePieces : List SpecToken → List PieceForm → List SpecToken → Type 0
ArePieces ts ps rest = Joined (codes "+") IsPiece ts ps rest

-- formulas with commas between them, taken exactly where a formula can begin
abbrev pub AreFormulas : List SpecToken → List Form → List SpecToken → Type 0
AreFormulas ts [] rest = IsFalse (begins_formula ts) × (rest ≡ ts)
AreFormulas ts (f ∷ fs) rest = IsTrue (begins_formula ts) × Joined (codes ",") IsFormula ts (f ∷ fs) rest

-- a part, from behind its first token
abbrev pub IsPart : List SpecToken → PartForm → List SpecToken → Type 0
IsPart ts (PCaption ps) rest = ArePieces ts ps rest
IsPart ts (PFocus fs) rest =
    (us vs : List SpecToken) × Begins (codes "{") ts us × AreFormulas us fs vs × Begins (codes "}") vs rest
IsPart ts (PPre f) rest = IsFormula ts f rest
IsPart ts (PMessage f ps) rest =
    (us vs : List SpecToken) × IsFormula ts f us × Begins (codes "->") us vs
    × IsTrue (is_some (first text_item vs)) × ArePieces vs ps rest
IsPart ts PNew rest = rest ≡ ts
IsPart ts (PRetain f) rest = IsFormula ts f rest
IsPart ts (PBlock us) rest = (vs : List SpecToken) × AreUpdates ts us vs × Begins (codes "}") vs rest

-- parts behind others, each a message or the first of its kind
abbrev pub AreParts : List PartForm → List SpecToken → List PartForm → List SpecToken → Type 0
AreParts before ts [] rest = (first part_kind ts ≡ None) × (rest ≡ ts)
AreParts before ts (p ∷ ps) rest =
    (us vs : List SpecToken) × (first part_kind ts ≡ taken (kind_of p) us)
    × IsTrue (may_follow before (kind_of p)) × IsPart us p vs × AreParts (before ++ p ∷ []) vs ps rest

abbrev pub IsAction : List SpecToken → ActionForm → List SpecToken → Type 0
IsAction ts a rest =
    (us vs ws xs ys : List SpecToken) × Begins (codes "%action") ts us
    × (first identifier_item us ≡ taken a.name vs) × (params vs ≡ taken a.params ws)
    × Begins (codes "{") ws xs × AreParts [] xs a.parts ys × Begins (codes "}") ys rest

abbrev pub IsEdge : List SpecToken → EdgeForm → List SpecToken → Type 0
IsEdge ts e rest =
    (us vs ws : List SpecToken) × (first word_item ts ≡ taken e.from us)
    × (first identifier_item us ≡ taken e.action vs) × (params vs ≡ taken e.arguments ws)
    × (first word_item ws ≡ taken e.to rest)

abbrev pub begins_edge : List SpecToken → Bool
begins_edge ts = is_some (first word_item ts)

-- a third `%%` and the words behind it, up to the end of the text
abbrev pub IsTail : List SpecToken → Option (List (List ℕ)) → Type 0
IsTail ts None = Lacks (codes "%%") ts × (ts ≡ [])
IsTail ts (Some words) =
    (us : List SpecToken) × Begins (codes "%%") ts us × (optional_list word_item us ≡ taken words [])

-- the tokens are those of this program
abbrev pub IsProgram : List SpecToken → ProgramForm → Type 0
IsProgram ts t =
    (us vs ws xs ys : List SpecToken) × AreDecls ts t.decls us × Begins (codes "%%") us vs
    × Repeated (begins_with (codes "%action")) IsAction vs t.actions ws × Begins (codes "%%") ws xs
    × Repeated begins_edge IsEdge xs t.edges ys × IsTail ys t.tail
