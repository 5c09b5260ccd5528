-- Where the control edges of a program stand in its text.
use Rattle.std.specs.Prelude.{◌≡◌, ◌≢◌, ℕ, ◌<◌, List, [], ◌∷◌, ◌++◌, codes, length}
use Rattle.std.specs.Prelude.{slice_index}
use Rattle.tv_formula.specs.Grammar.{Begins}
use Rattle.tv_lex.specs.Token.{SpecToken, spec_tokens}
use Rattle.tv_lex.specs.declared.token.Token.{Token}
use Rattle.tv_parse.specs.Grammar.{AreDecls, IsAction, IsEdge}
use Rattle.tv_phrases.specs.Repeated.{Repeated, begins_with}
use Rattle.tv_tree.specs.Forms.{EdgeForm, ProgramForm}

-- the tokens `rest` stand behind the declarations and the actions of the program, and the two `%%`
abbrev pub StandBehindActions : List SpecToken → ProgramForm → (rest : List SpecToken) → Type 0
StandBehindActions ts program rest = (us vs ws : List SpecToken) × AreDecls ts program.decls us
    × Begins (codes "%%") us vs × Repeated (begins_with (codes "%action")) IsAction vs program.actions ws
    × Begins (codes "%%") ws rest

-- The tokens of a text begin with these edges, one behind the other, and the first token of each starts at
-- the place with its number. Behind an edge stand the tokens that are left when its own are taken away.
abbrev pub AreEdgesAt : (text : List ℕ) → List Token → List EdgeForm → (places : List ℕ) → Type 0
AreEdgesAt text tokens [] [] = Unit {0}
AreEdgesAt text tokens (edge ∷ edges) (place ∷ places) = (first : Token) × (more behind : List Token)
    × (tokens ≡ first ∷ (more ++ behind)) × (first.start ≡ place)
    × IsEdge (spec_tokens text tokens) edge (spec_tokens text behind) × AreEdgesAt text behind edges places
AreEdgesAt text tokens edges places = ⊥

-- the edges of the program stand at these places, behind its declarations and actions
abbrev pub HasEdgesAt : (text : List ℕ) → List Token → ProgramForm → (places : List ℕ) → Type 0
HasEdgesAt text tokens program places = (front rest : List Token) × (tokens ≡ front ++ rest)
    × StandBehindActions (spec_tokens text tokens) program (spec_tokens text rest)
    × AreEdgesAt text rest program.edges places

-- a byte of the text stands there, and it is no line feed
abbrev pub IsOnLine : (text : List ℕ) → (place : ℕ) → Type 0
IsOnLine text place = (place < length text) × (slice_index text place ≢ 10)
