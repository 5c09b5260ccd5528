-- The grammar of formulas. In the order in which they bind, the loosest first:
--
--   Formula = Iff [`?` Formula `:` Formula]
--   Iff     = Imp { `<->` Imp }                      grouped from the left
--   Imp     = Or [`->` Imp]                          the arrow is not taken where a string stands behind it
--   Or      = And { `|` And }                        grouped from the left
--   And     = Unary { `&` Unary }                    grouped from the left
--   Unary   = `!` Unary
--           | (`E` or `A`) `(` identifiers `)` Formula
--           | `TC` `(` identifier `,` identifier `)` `(` identifier `,` identifier `)` Formula
--           | `(` Formula `)`
--           | `0` | `1` | `1/2` | identifier (`==` or `!=`) identifier
--           | name `(` [identifiers] `)` | name (`*` or `+`) `(` identifier `,` identifier `)`
--
-- What is optional or repeated is taken exactly where the token at its place can begin it.
use Rattle.std.specs.Prelude.{◌≡◌, ℕ, List, Option, Some, None, codes}
use Rattle.tv_lex.specs.Token.{SpecToken}
use Rattle.tv_phrases.specs.Reading.{taken, ◌>>=◌, choose}
use Rattle.tv_phrases.specs.Tokens.{after, first, identifier_item, text_item}
pub use Rattle.tv_phrases.specs.Tokens.{Begins, Lacks}
use Rattle.tv_phrases.specs.Lists.{variables, params, name, pair}
use Rattle.tv_tree.specs.Forms.{NameForm, Form, FZero, FOne, FHalf, FSame, FDiffer, FAtom, FStar, FPlus}
use Rattle.tv_tree.specs.Forms.{FParen, FNot, FAnd, FOr, FImp, FIff, FCond, FExists, FForall, FTc}
use Rattle.tv_formula.specs.declared.binder.Binder.{Binder}
use Rattle.tv_formula.specs.declared.binder.Binder.TheVariants.{Exists, Forall, Closure}
use Rattle.tv_formula.specs.declared.link.Link.{Link}
use Rattle.tv_formula.specs.declared.link.Link.TheVariants.{Iff, Or, And}

-- a formula; the parts that a connective joins; what may stand behind a left part; an implication; the rest
pub data Production : Type 0 where
  Whole Imp Unary : Production
  Joined : Link → Production
  Behind : Link → Form → Production

abbrev pub mark_of : Link → List ℕ
mark_of Iff = codes "<->"
mark_of Or = codes "|"
mark_of And = codes "&"

abbrev pub join : Link → Form → Form → Form
join Iff f g = FIff f g
join Or f g = FOr f g
join And f g = FAnd f g

-- what a connective joins
abbrev pub operand : Link → Production
operand Iff = Imp
operand Or = Joined And
operand And = Unary

abbrev pub name_form : List ℕ × List (List ℕ) → NameForm
name_form n = record { first = n.0; brackets = n.1 }

-- formulas without formulas in them
pub data Leaf : List SpecToken → Form → List SpecToken → Type 0 where
  zero_leaf : (ts rest : List SpecToken) → Begins (codes "0") ts rest → Leaf ts FZero rest
  one_leaf : (ts rest : List SpecToken) → Begins (codes "1") ts rest → Leaf ts FOne rest
  half_leaf : (ts rest : List SpecToken) → Begins (codes "1/2") ts rest → Leaf ts FHalf rest
  same_leaf : (ts us vs rest : List SpecToken) (v w : List ℕ) → first identifier_item ts ≡ taken v us
      → Begins (codes "==") us vs → first identifier_item vs ≡ taken w rest → Leaf ts (FSame v w) rest
  differ_leaf : (ts us vs rest : List SpecToken) (v w : List ℕ) → first identifier_item ts ≡ taken v us
      → Begins (codes "!=") us vs → first identifier_item vs ≡ taken w rest → Leaf ts (FDiffer v w) rest
  atom_leaf : (ts us rest : List SpecToken) (n : List ℕ × List (List ℕ)) (xs : List (List ℕ))
      → name ts ≡ taken n us → params us ≡ taken xs rest → Leaf ts (FAtom (name_form n) xs) rest
  star_leaf : (ts us vs rest : List SpecToken) (n : List ℕ × List (List ℕ)) (x : List ℕ × List ℕ)
      → name ts ≡ taken n us → Begins (codes "*") us vs → pair vs ≡ taken x rest
      → Leaf ts (FStar (name_form n) x.0 x.1) rest
  plus_leaf : (ts us vs rest : List SpecToken) (n : List ℕ × List (List ℕ)) (x : List ℕ × List ℕ)
      → name ts ≡ taken n us → Begins (codes "+") us vs → pair vs ≡ taken x rest
      → Leaf ts (FPlus (name_form n) x.0 x.1) rest

-- an arrow that an implication takes, one that no string stands behind, and the tokens behind it
unfoldable pub arrow : List SpecToken → Option (List SpecToken)
arrow ts = after (codes "->") ts >>= λ us. choose (first text_item us) (Some us) (λ text. None)

-- the formula that binds variables in this body
abbrev pub over : Binder → Form → Form
over (Exists xs) f = FExists xs f
over (Forall xs) f = FForall xs f
over (Closure from to left right) f = FTc from to left right f

-- what stands before the body of a quantifier or a closure
pub data Binds : List SpecToken → Binder → List SpecToken → Type 0 where
  binds_some : (ts us rest : List SpecToken) (xs : List (List ℕ)) → Begins (codes "E") ts us
      → variables us ≡ taken xs rest → Binds ts (Exists xs) rest
  binds_all : (ts us rest : List SpecToken) (xs : List (List ℕ)) → Begins (codes "A") ts us
      → variables us ≡ taken xs rest → Binds ts (Forall xs) rest
  binds_pairs : (ts us vs rest : List SpecToken) (x y : List ℕ × List ℕ) → Begins (codes "TC") ts us
      → pair us ≡ taken x vs → pair vs ≡ taken y rest → Binds ts (Closure x.0 x.1 y.0 y.1) rest

-- the tokens begin with the production's formula, and `rest` is what stands behind it
pub data Reads : Production → List SpecToken → Form → List SpecToken → Type 0 where
  cond : (ts us vs ws xs rest : List SpecToken) (f g h : Form) → Reads (Joined Iff) ts f us
      → Begins (codes "?") us vs → Reads Whole vs g ws → Begins (codes ":") ws xs → Reads Whole xs h rest
      → Reads Whole ts (FCond f g h) rest
  no_cond : (ts rest : List SpecToken) (f : Form) → Reads (Joined Iff) ts f rest → Lacks (codes "?") rest
      → Reads Whole ts f rest
  joined : (link : Link) (part : Production) (ts us rest : List SpecToken) (f g : Form) → operand link ≡ part
      → Reads part ts f us → Reads (Behind link f) us g rest → Reads (Joined link) ts g rest
  further : (link : Link) (part : Production) (ts us vs rest : List SpecToken) (f g both h : Form)
      → Begins (mark_of link) ts us → operand link ≡ part → Reads part us g vs → join link f g ≡ both
      → Reads (Behind link both) vs h rest → Reads (Behind link f) ts h rest
  no_further : (link : Link) (ts : List SpecToken) (f : Form) → Lacks (mark_of link) ts
      → Reads (Behind link f) ts f ts
  imp : (ts us vs rest : List SpecToken) (f g : Form) → Reads (Joined Or) ts f us → arrow us ≡ Some vs
      → Reads Imp vs g rest → Reads Imp ts (FImp f g) rest
  no_imp : (ts rest : List SpecToken) (f : Form) → Reads (Joined Or) ts f rest → arrow rest ≡ None
      → Reads Imp ts f rest
  negation : (ts us rest : List SpecToken) (f : Form) → Begins (codes "!") ts us → Reads Unary us f rest
      → Reads Unary ts (FNot f) rest
  binding : (ts us rest : List SpecToken) (binder : Binder) (f g : Form) → Binds ts binder us
      → Reads Whole us f rest → over binder f ≡ g → Reads Unary ts g rest
  parentheses : (ts us vs rest : List SpecToken) (f : Form) → Begins (codes "(") ts us → Reads Whole us f vs
      → Begins (codes ")") vs rest → Reads Unary ts (FParen f) rest
  leaf : (ts rest : List SpecToken) (f : Form) → Leaf ts f rest → Reads Unary ts f rest

-- the tokens begin with this formula, in front of `rest`
abbrev pub IsFormula : List SpecToken → Form → List SpecToken → Type 0
IsFormula ts f rest = Reads Whole ts f rest

-- they begin with none
abbrev pub NoFormula : List SpecToken → Type 0
NoFormula ts = (f : Form) (rest : List SpecToken) → ¬ IsFormula ts f rest
