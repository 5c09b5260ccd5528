-- The predicates of a flat program, their definitions, and its rules.
use Rattle.std.specs.Prelude.{ℕ, Bool, true, false, not, ◌||◌, ◌==◌, nat_lt, nat_le, List, [], ◌∷◌, ◌++◌}
use Rattle.std.specs.Prelude.{length, map, fold, Option, Some, None, Ok, Err, is_some, if◌then◌else◌}
use Rattle.std.specs.List.{list_all}
use Rattle.tv_tree.specs.Forms as tree
use Rattle.tv_tree.specs.Names.{is_among, name_text}
use Rattle.tv_tree.specs.declared.trees.PropWord.{PropWord}
use Rattle.tv_tree.specs.declared.trees.PropWord.TheVariants.{Unique, Function, Invfunction, Abs, Nonabs}
use Rattle.tv_tree.specs.declared.trees.PropWord.TheVariants.{Transitive, Reflexive, Symmetric, Boxed}
use Rattle.tv_tree.specs.declared.trees.PropWord.TheVariants.{Pointer}
use Rattle.tv_model.specs.declared.program.Props.{Props}
use Rattle.tv_model.specs.Form.{Form, FZero, FAtom, FSame, FNot}
pub use Rattle.tv_model.specs.Form.{mentioned}
use Rattle.tv_model.specs.Program.{PredForm, KindForm, KCore, KDefined, RuleForm, HeadForm, HNever, HAtom}
use Rattle.tv_model.specs.Program.{no_props}
use Rattle.tv_model.specs.Program.{HSame}
use Rattle.tv_names.specs.declared.refusal.ResolveError.TheVariants.{DefinitionCycle, NameTwice, ArityWrong}
use Rattle.tv_names.specs.declared.refusal.ResolveError.TheVariants.{ArityTooLarge, Reserved, TooMany}
use Rattle.tv_names.specs.declared.refusal.ResolveError.TheVariants.{HeadForm as BadHead}
use Rattle.tv_names.specs.declared.place.Others.TheVariants.{Any, Never}
use Rattle.tv_names.specs.Refusal.{◌>>=◌, OrRefused, refused_if, one_by_one, each}
use Rattle.tv_names.specs.Symbols.{SymbolForm, is_reserved, symbol_of}
use Rattle.tv_names.specs.Naming.{declared_all, no_names}
use Rattle.tv_names.specs.Picks.{flags_of}
use Rattle.tv_names.specs.Resolving.{PlaceForm, resolved}
use Rattle.tv_vocab.specs.Cycles.{has_cycle}

abbrev pub twice : List (List ℕ) → Bool
twice [] = false
twice (x ∷ xs) = is_among xs x || twice xs

-- ---- properties

-- the property may stand at this arity
abbrev pub fits : ℕ → PropWord → Bool
fits arity Unique = arity == 1
fits arity Abs = true
fits arity Nonabs = true
fits arity Boxed = true
fits arity Pointer = true
fits arity other = arity == 2

abbrev pub with_prop : Props → PropWord → Props
with_prop props Unique = record props { unique = true }
with_prop props Function = record props { function = true }
with_prop props Invfunction = record props { invfunction = true }
with_prop props Transitive = record props { transitive = true }
with_prop props Reflexive = record props { reflexive = true }
with_prop props Symmetric = record props { symmetric = true }
with_prop props other = props

abbrev pub props_of : List PropWord → Props
props_of words = fold with_prop no_props words

abbrev pub abs_after : Bool → PropWord → Bool
abs_after on Abs = true
abs_after on Nonabs = false
abs_after on other = on

-- of `abs` and `nonabs` the last counts; without either, a predicate is one of abstraction
abbrev pub abs_of : List PropWord → Bool
abs_of words = fold abs_after true words

-- only a predicate of one variable can be kept out of abstraction: elsewhere the two words have no effect
abbrev pub abs_at : (arity : ℕ) → List PropWord → Bool
abs_at arity words = if arity == 1 then abs_of words else true

-- ---- predicates

-- the arity of a predicate that may be declared under this name behind these
unfoldable pub symbol_checked : List SymbolForm → (name : List ℕ) → tree.PredForm → OrRefused ℕ
symbol_checked seen name d = do
  a ← refused_if (is_reserved name) Reserved
  b ← refused_if (is_some (symbol_of name seen)) NameTwice
  c ← refused_if (nat_lt 2 (length d.params)) ArityTooLarge
  e ← refused_if (twice d.params) NameTwice
  f ← refused_if (not (list_all (fits (length d.params)) d.props)) ArityWrong
  g ← refused_if (nat_le 512 (length seen)) TooMany
  Ok (length d.params)

-- the predicates, and one more that is declared behind them
unfoldable pub with_symbol : List SymbolForm → tree.PredForm → OrRefused (List SymbolForm)
with_symbol seen d = do
  arity ← symbol_checked seen (name_text d.name) d
  Ok (seen ++ record { name = name_text d.name; arity = arity } ∷ [])

-- the predicates, numbered in the order of their declarations
abbrev pub symbols : List tree.PredForm → OrRefused (List SymbolForm)
symbols ds = one_by_one with_symbol [] ds

-- ---- definitions

-- where only these variables may be free
abbrev pub over : List SymbolForm → List ℕ → PlaceForm
over symbols vars = record { symbols = symbols; with_new = false; known = flags_of vars; others = Never }

-- where any variables may be free
abbrev pub anywhere : List SymbolForm → PlaceForm
anywhere symbols = record { symbols = symbols; with_new = false; known = flags_of []; others = Any }

unfoldable pub definition : List SymbolForm → List (List ℕ) → tree.Form → OrRefused KindForm
definition symbols params body = do
  vars ← declared_all params no_names
  f ← resolved (over symbols vars.0) body vars.1
  Ok (KDefined vars.0 f.0)

abbrev pub kind : List SymbolForm → List (List ℕ) → Option tree.Form → OrRefused KindForm
kind symbols params None = Ok KCore
kind symbols params (Some body) = definition symbols params body

-- the number of a predicate's variables, which are two at most
abbrev pub arity_of : List (List ℕ) → ℕ
arity_of [] = 0
arity_of (v ∷ []) = 1
arity_of (v ∷ w ∷ more) = 2

unfoldable pub predicate : List SymbolForm → tree.PredForm → OrRefused PredForm
predicate symbols d = do
  k ← kind symbols d.params d.body
  Ok (record {
    name = name_text d.name;
    arity = arity_of d.params;
    kind = k;
    abs = abs_at (arity_of d.params) d.props;
    props = props_of d.props;
  })

-- the predicates that a predicate's definition mentions
abbrev pub mentioned_by : KindForm → List ℕ
mentioned_by KCore = []
mentioned_by (KDefined vars body) = mentioned body

abbrev pub uses_of : List PredForm → List (List ℕ)
uses_of preds = map (λ d. mentioned_by d.kind) preds

-- the predicates with their definitions, where no definition rests on itself
unfoldable pub vocabulary : List tree.PredForm → OrRefused (List SymbolForm × List PredForm)
vocabulary decls = do
  known ← symbols decls
  preds ← each (predicate known) decls
  sound ← refused_if (has_cycle (uses_of preds)) DefinitionCycle
  Ok (known, preds)

-- ---- rules

abbrev pub negated_head : Form → OrRefused HeadForm
negated_head (FAtom q vars) = Ok (HAtom false q vars)
negated_head (FSame v w) = Ok (HSame false v w)
negated_head f = Err BadHead

-- what a head's formula demands: `0`, an atom, an equality, or the negation of one of the two
abbrev pub head_of : Form → OrRefused HeadForm
head_of FZero = Ok HNever
head_of (FAtom q vars) = Ok (HAtom true q vars)
head_of (FSame v w) = Ok (HSame true v w)
head_of (FNot f) = negated_head f
head_of f = Err BadHead

unfoldable pub rule : List SymbolForm → (body head : tree.Form) → OrRefused RuleForm
rule symbols body head = do
  f ← resolved (anywhere symbols) body no_names
  g ← resolved (anywhere symbols) head f.1
  h ← head_of g.0
  Ok (record { body = f.0; head = h })
