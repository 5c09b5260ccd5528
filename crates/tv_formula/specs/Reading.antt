-- How formulas are read, as functions on lists of tokens with a bound on the depth. That they read the
-- grammar is proved.
use Rattle.std.specs.Prelude.{ℕ, zero, suc, ◌+◌, ◌*◌, List, length, Bool, ◌||◌, if◌then◌else◌, is_some, None}
use Rattle.std.specs.Prelude.{codes}
use Rattle.tv_lex.specs.Token.{SpecToken}
use Rattle.tv_phrases.specs.Reading.{Reading, taken, ◌>>=◌, choose}
use Rattle.tv_phrases.specs.Tokens.{after, first, identifier_item}
use Rattle.tv_phrases.specs.Lists.{variables, params, name, pair}
use Rattle.tv_tree.specs.Forms.{NameForm, Form, FZero, FOne, FHalf, FSame, FDiffer, FAtom, FStar, FPlus}
use Rattle.tv_tree.specs.Forms.{FParen, FNot, FImp, FCond}
use Rattle.tv_formula.specs.declared.binder.Binder.{Binder}
use Rattle.tv_formula.specs.declared.binder.Binder.TheVariants.{Exists, Forall, Closure}
use Rattle.tv_formula.specs.declared.link.Link.{Link}
use Rattle.tv_formula.specs.declared.link.Link.TheVariants.{Iff, Or}
use Rattle.tv_formula.specs.Grammar.{Production, Whole, Imp, Unary, Joined, Behind, mark_of, join, operand}
use Rattle.tv_formula.specs.Grammar.{name_form, arrow, over}

abbrev pub Reader : Type 0
Reader = Production → List SpecToken → Reading Form

-- the right side of an equality or inequality
unfoldable pub compared : (List ℕ → List ℕ → Form) → List ℕ → List SpecToken → Reading Form
compared make v ts = first identifier_item ts >>= λ w. taken (make v w.0) w.1

unfoldable pub applied : NameForm → List SpecToken → Reading Form
applied n ts = params ts >>= λ xs. taken (FAtom n xs.0) xs.1

unfoldable pub closed : (NameForm → List ℕ → List ℕ → Form) → NameForm → List SpecToken → Reading Form
closed make n ts = pair ts >>= λ x. taken (make n x.0.0 x.0.1) x.1

-- what stands behind a predicate's name
unfoldable pub behind_name : NameForm → List SpecToken → Reading Form
behind_name n ts =
    choose (after (codes "*") ts) (choose (after (codes "+") ts) (applied n ts) (closed FPlus n))
    (closed FStar n)

unfoldable pub predicate : List SpecToken → Reading Form
predicate ts = name ts >>= λ n. behind_name (name_form n.0) n.1

-- what begins with an identifier
unfoldable pub named : List SpecToken → Reading Form
named ts =
    first identifier_item ts >>= λ w. choose (after (codes "==") w.1)
    (choose (after (codes "!=") w.1) (predicate ts) (compared FDiffer w.0)) (compared FSame w.0)

unfoldable pub leaf_reading : List SpecToken → Reading Form
leaf_reading ts =
    choose (after (codes "0") ts) (choose (after (codes "1") ts)
    (choose (after (codes "1/2") ts) (named ts) (taken FHalf)) (taken FOne)) (taken FZero)

unfoldable pub negated : Reader → List SpecToken → Reading Form
negated read ts = read Unary ts >>= λ x. taken (FNot x.0) x.1

abbrev pub begins_binder : List SpecToken → Bool
begins_binder ts =
    is_some (after (codes "E") ts) || is_some (after (codes "A") ts) || is_some (after (codes "TC") ts)

unfoldable pub existence : List SpecToken → Reading Binder
existence ts = variables ts >>= λ xs. taken (Exists xs.0) xs.1

unfoldable pub universality : List SpecToken → Reading Binder
universality ts = variables ts >>= λ xs. taken (Forall xs.0) xs.1

unfoldable pub transitive : List SpecToken → Reading Binder
transitive ts = do
  x ← pair ts
  y ← pair x.1
  taken (Closure x.0.0 x.0.1 y.0.0 y.0.1) y.1

unfoldable pub binder : List SpecToken → Reading Binder
binder ts =
    choose (after (codes "E") ts)
    (choose (after (codes "A") ts) (after (codes "TC") ts >>= transitive) universality) existence

unfoldable pub bound : Reader → List SpecToken → Reading Form
bound read ts = do
  b ← binder ts
  f ← read Whole b.1
  taken (over b.0 f.0) f.1

unfoldable pub grouped : Reader → List SpecToken → Reading Form
grouped read ts = do
  f ← read Whole ts
  rest ← after (codes ")") f.1
  taken (FParen f.0) rest

unfoldable pub unary_step : Reader → List SpecToken → Reading Form
unary_step read ts =
    choose (after (codes "!") ts) (choose (after (codes "(") ts)
    (if begins_binder ts then bound read ts else leaf_reading ts) (grouped read)) (negated read)

unfoldable pub imp_step : Reader → List SpecToken → Reading Form
imp_step read ts =
    read (Joined Or) ts >>= λ f. choose (arrow f.1) (taken f.0 f.1)
    (λ us. read Imp us >>= λ g. taken (FImp f.0 g.0) g.1)

unfoldable pub joined_step : Reader → Link → List SpecToken → Reading Form
joined_step read link ts = read (operand link) ts >>= λ f. read (Behind link f.0) f.1

unfoldable pub behind_step : Reader → Link → Form → List SpecToken → Reading Form
behind_step read link f ts =
    choose (after (mark_of link) ts) (taken f ts)
    (λ us. read (operand link) us >>= λ g. read (Behind link (join link f g.0)) g.1)

-- the two branches of a conditional
unfoldable pub chosen : Reader → Form → List SpecToken → Reading Form
chosen read f ts = do
  g ← read Whole ts
  us ← after (codes ":") g.1
  h ← read Whole us
  taken (FCond f g.0 h.0) h.1

unfoldable pub whole_step : Reader → List SpecToken → Reading Form
whole_step read ts =
    read (Joined Iff) ts >>= λ f. choose (after (codes "?") f.1) (taken f.0 f.1) (chosen read f.0)

abbrev pub step : Reader → Production → List SpecToken → Reading Form
step read Whole ts = whole_step read ts
step read Imp ts = imp_step read ts
step read Unary ts = unary_step read ts
step read (Joined link) ts = joined_step read link ts
step read (Behind link f) ts = behind_step read link f ts

-- a reading at most this deep
unfoldable pub reading : ℕ → Reader
reading zero p ts = None
reading (suc n) p ts = step (reading n) p ts

-- a depth that suffices
abbrev pub enough : List SpecToken → ℕ
enough ts = 6 * length ts + 6

-- a formula at the front of the tokens
unfoldable pub formula_reading : List SpecToken → Reading Form
formula_reading ts = reading (enough ts) Whole ts
