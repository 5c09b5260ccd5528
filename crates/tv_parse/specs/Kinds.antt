-- What the first token of a declaration, a part of an action, or a property tells.
use Rattle.std.specs.Prelude.{ℕ, List, [], ◌∷◌, Bool, true, false, not, ◌||◌, Option, Some, None, is_some}
use Rattle.std.specs.Prelude.{if◌then◌else◌, codes}
use Rattle.std.specs.Str.{bytes_eq}
use Rattle.tv_lex.specs.Token.{SpecToken}
use Rattle.tv_phrases.specs.Tokens.{first, identifier_item}
use Rattle.tv_tree.specs.Forms.{PartForm, PCaption, PFocus, PPre, PMessage, PNew, PRetain, PBlock}
use Rattle.tv_tree.specs.declared.trees.PropWord.{PropWord}
use Rattle.tv_tree.specs.declared.trees.PropWord.TheVariants.{Unique, Function, Invfunction, Abs, Nonabs}
use Rattle.tv_tree.specs.declared.trees.PropWord.TheVariants.{Transitive, Reflexive, Symmetric, Boxed}
use Rattle.tv_tree.specs.declared.trees.PropWord.TheVariants.{Pointer}
use Rattle.tv_parse.specs.declared.kinds.DeclKind.{DeclKind}
use Rattle.tv_parse.specs.declared.kinds.DeclKind.TheVariants as decl
use Rattle.tv_parse.specs.declared.kinds.PartKind.{PartKind}
use Rattle.tv_parse.specs.declared.kinds.PartKind.TheVariants as part
use Rattle.tv_phrases.specs.Repeated.{begins_with}

-- the value beside a spelling in a table
abbrev pub looked_up : {X : Type 0} → List (List ℕ × X) → List ℕ → Option X
looked_up [] w = None
looked_up ((mark, x) ∷ table) w = if bytes_eq w mark then Some x else looked_up table w

-- a declaration, foreach aside, by its directive
abbrev pub decl_marks : List (List ℕ × DeclKind)
decl_marks =
    (codes "%s", decl.Set) ∷ (codes "%p", decl.Core) ∷ (codes "%i", decl.Defined) ∷ (codes "%r", decl.Rule)
    ∷ []

abbrev pub decl_kind : SpecToken → Option DeclKind
decl_kind t = looked_up decl_marks t.bytes

-- a part of an action
abbrev pub part_marks : List (List ℕ × PartKind)
part_marks =
    (codes "%t", part.Caption) ∷ (codes "%f", part.Focus) ∷ (codes "%p", part.Pre)
    ∷ (codes "%message", part.Message) ∷ (codes "%new", part.New) ∷ (codes "%retain", part.Retain)
    ∷ (codes "{", part.Block) ∷ []

abbrev pub part_kind : SpecToken → Option PartKind
part_kind t = looked_up part_marks t.bytes

-- a property
abbrev pub prop_words : List (List ℕ × PropWord)
prop_words =
    (codes "unique", Unique) ∷ (codes "function", Function) ∷ (codes "invfunction", Invfunction)
    ∷ (codes "abs", Abs) ∷ (codes "nonabs", Nonabs) ∷ (codes "transitive", Transitive)
    ∷ (codes "reflexive", Reflexive) ∷ (codes "symmetric", Symmetric) ∷ (codes "box", Boxed)
    ∷ (codes "pointer", Pointer) ∷ []

abbrev pub prop_item : SpecToken → Option PropWord
prop_item t = looked_up prop_words t.bytes

-- the first token can begin such a phrase
abbrev pub begins_decl : List SpecToken → Bool
begins_decl ts = is_some (first decl_kind ts) || begins_with (codes "foreach") ts

abbrev pub begins_update : List SpecToken → Bool
begins_update ts = is_some (first identifier_item ts) || begins_with (codes "foreach") ts

abbrev pub begins_formula : List SpecToken → Bool
begins_formula ts =
    begins_with (codes "!") ts
    || (begins_with (codes "(") ts || (begins_with (codes "0") ts || (begins_with (codes "1") ts
    || (begins_with (codes "1/2") ts || (begins_with (codes "E") ts || (begins_with (codes "A") ts
    || (begins_with (codes "TC") ts || is_some (first identifier_item ts))))))))

-- the kind of a part
abbrev pub kind_of : PartForm → PartKind
kind_of (PCaption ps) = part.Caption
kind_of (PFocus fs) = part.Focus
kind_of (PPre f) = part.Pre
kind_of (PMessage f ps) = part.Message
kind_of PNew = part.New
kind_of (PRetain f) = part.Retain
kind_of (PBlock us) = part.Block

abbrev pub same_kind : PartKind → PartKind → Bool
same_kind part.Caption part.Caption = true
same_kind part.Focus part.Focus = true
same_kind part.Pre part.Pre = true
same_kind part.Message part.Message = true
same_kind part.New part.New = true
same_kind part.Retain part.Retain = true
same_kind part.Block part.Block = true
same_kind _ _ = false

-- one of the parts is of this kind
unfoldable pub has_kind : PartKind → List PartForm → Bool
has_kind kind [] = false
has_kind kind (p ∷ ps) = same_kind kind (kind_of p) || has_kind kind ps

-- a further part of this kind may stand behind these: a message, or the first of its kind
abbrev pub may_follow : List PartForm → PartKind → Bool
may_follow before kind = same_kind part.Message kind || not (has_kind kind before)
