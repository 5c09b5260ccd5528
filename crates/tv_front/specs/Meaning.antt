-- What the text of a program means. It is cut into tokens; these are the tokens of a tree; the tree has a
-- flat form, in which sets, foreach and parameters are put in; and the flat form says a program, in which
-- names are numbers. The first of these steps that can't be taken refuses the text.
use Rattle.std.specs.Prelude.{◌≡◌, ℕ, Bool, true, false, List, Option, Some, None, Ok, Err, IfSome}
use Rattle.tv_tree.specs.Steps.{Unless}
use Rattle.tv_expand.specs.Outcome.{is_memory as expansion_memory}
use Rattle.tv_names.specs.Refusal.{is_memory as resolution_memory}
use Rattle.tv_lex.specs.Token.{SpecToken, spec_tokens}
use Rattle.tv_lex.specs.Pieces.{Reads}
use Rattle.tv_lex.specs.Places.{IsTokenPlace}
use Rattle.tv_lex.specs.declared.token.Token.{Token}
use Rattle.tv_lex.specs.declared.token.Place.{Place}
use Rattle.tv_lex.specs.declared.token.LexError.{LexError}
use Rattle.tv_lex.specs.declared.token.LexError.TheVariants as lexing
use Rattle.tv_phrases.specs.declared.error.SyntaxError.{SyntaxError}
use Rattle.tv_phrases.specs.declared.error.SyntaxError.TheVariants as parsing
use Rattle.tv_phrases.specs.Refused.{syntax_place}
use Rattle.tv_parse.specs.Height.{IsTooDeep}
use Rattle.tv_parse.specs.Grammar.{IsProgram}
use Rattle.tv_tree.specs.Forms.{ProgramForm as TreeForm}
use Rattle.tv_flat.specs.FlatForm.{FlatForm}
use Rattle.tv_expand.specs.Expansion.{expansion}
use Rattle.tv_expand.specs.declared.error.ExpandError.{ExpandError}
use Rattle.tv_model.specs.Program.{ProgramForm}
use Rattle.tv_names.specs.declared.refusal.ResolveError.{ResolveError}
use Rattle.tv_vocab.specs.Resolution.{program}
use Rattle.tv_front.specs.declared.fault.ProgramFault.{ProgramFault}
use Rattle.tv_front.specs.declared.fault.ProgramFault.TheVariants.{Lexing, Parsing, Expansion, Resolution}

-- the text is cut into these tokens
abbrev pub HasTokens : List ℕ → List SpecToken → Type 0
HasTokens text ts = (tokens : List Token) × Reads text (Ok tokens) × (ts ≡ spec_tokens text tokens)

-- the text's tokens are those of this tree, and at most 200 constructs are open at one place
abbrev pub HasTree : List ℕ → TreeForm → Type 0
HasTree text t = (ts : List SpecToken) × HasTokens text ts × (¬ IsTooDeep ts) × IsProgram ts t

-- the text's tree has this flat form
abbrev pub HasFlatForm : List ℕ → FlatForm → Type 0
HasFlatForm text f = (t : TreeForm) × HasTree text t × (expansion t ≡ Ok f)

-- the text means this program
abbrev pub Means : List ℕ → ProgramForm → Type 0
Means text p = (f : FlatForm) × HasFlatForm text f × (program f ≡ Ok p)

-- The text has tokens, and they have no tree for this: over 200 constructs are open at one place, else they
-- are those of no program.
abbrev pub IsRefusedParsing : List ℕ → SyntaxError → Type 0
IsRefusedParsing text parsing.TooDeep = (ts : List SpecToken) × HasTokens text ts × IsTooDeep ts
IsRefusedParsing text (parsing.Syntax place) =
    (ts : List SpecToken) × HasTokens text ts × (¬ IsTooDeep ts) × ((t : TreeForm) → ¬ IsProgram ts t)
IsRefusedParsing text parsing.Memory = ⊥

-- the text has a tree, and its expansion is refused for this
abbrev pub IsRefusedExpansion : List ℕ → ExpandError → Type 0
IsRefusedExpansion text e = (t : TreeForm) × HasTree text t × (expansion t ≡ Err e)

-- the text has a flat form, and its resolution is refused for this
abbrev pub IsRefusedResolution : List ℕ → ResolveError → Type 0
IsRefusedResolution text e = (f : FlatForm) × HasFlatForm text f × (program f ≡ Err e)

abbrev pub is_memory_of_lexing : LexError → Bool
is_memory_of_lexing lexing.Memory = true
is_memory_of_lexing e = false

abbrev pub is_memory_of_parsing : SyntaxError → Bool
is_memory_of_parsing parsing.Memory = true
is_memory_of_parsing e = false

-- the text means no program, and this is why
abbrev pub IsRefused : List ℕ → ProgramFault → Type 0
IsRefused text (Lexing e) = Reads text (Err e)
IsRefused text (Parsing e) = IsRefusedParsing text e
IsRefused text (Expansion e) = IsRefusedExpansion text e
IsRefused text (Resolution e) = IsRefusedResolution text e

-- memory ran out in a stage
abbrev pub is_memory : ProgramFault → Bool
is_memory (Lexing e) = is_memory_of_lexing e
is_memory (Parsing e) = is_memory_of_parsing e
is_memory (Expansion e) = expansion_memory e
is_memory (Resolution e) = resolution_memory e

-- why a call gives no program: the text is refused for this, or memory ran out
abbrev pub IsProgramCause : List ℕ → ProgramFault → Type 0
IsProgramCause text fault = Unless (is_memory fault) (IsRefused text fault)

abbrev pub start_of_text : Place
start_of_text = record { line = 1; column = 1 }

abbrev pub at_start : SyntaxError → SyntaxError
at_start (parsing.Syntax place) = parsing.Syntax start_of_text
at_start other = other

-- the refusal, wherever it stands
abbrev pub without_place : ProgramFault → ProgramFault
without_place (Parsing e) = Parsing (at_start e)
without_place other = other

-- the place that the refusal tells
abbrev pub program_place : ProgramFault → Option Place
program_place (Parsing e) = syntax_place e
program_place other = None

-- it is that of the start of one of the text's tokens, or of the end of the text
abbrev pub StopsInText : List ℕ → ProgramFault → Type 0
StopsInText text fault =
    IfSome (program_place fault)
    (λ place. (tokens : List Token) × Reads text (Ok tokens) × IsTokenPlace text tokens place)
