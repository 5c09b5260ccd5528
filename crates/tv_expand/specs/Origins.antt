-- From which declarations the rules of a flat form come. The declarations of rules have marks, in the order
-- in which they are written; say where they stand.
use Rattle.std.specs.Prelude.{◌≡◌, ℕ, ◌+◌, List, [], ◌∷◌, ◌++◌, Result, Ok, drop, get_or, length}
use Rattle.tv_tree.specs.Forms.{Nest, Single, Foreach, Nests, no_nest, with_nest, DeclForm, DSet, DPred}
use Rattle.tv_tree.specs.Forms.{DRule, ProgramForm}
use Rattle.tv_flat.specs.FlatForm.{FlatForm}
use Rattle.tv_flat.specs.Replaced.{Binding}
use Rattle.tv_expand.specs.declared.error.ExpandError.{ExpandError}
use Rattle.tv_expand.specs.Outcome.{◌>>=◌}
use Rattle.tv_expand.specs.Sets.{Sets}
use Rattle.tv_expand.specs.Expansion.{Declared, declared, expansion, limits, nothing_declared, unrolled}

-- how many rules are written in a declaration
abbrev pub written_once : DeclForm → ℕ
written_once (DSet name members) = 0
written_once (DPred p) = 0
written_once (DRule f g) = 1

abbrev mutual
  pub written_in : Nest DeclForm → ℕ
  written_in (Single d) = written_once d
  written_in (Foreach var members body) = written body

  pub written : Nests DeclForm → ℕ
  written no_nest = 0
  written (with_nest d ds) = written_in d + written ds

-- Each declaration with the marks of the rules that are written from there on. The body of a foreach has the
-- same marks for each member.
abbrev mutual
  pub marked_nest : (marks : List ℕ) → Nest DeclForm → Nest (List ℕ × DeclForm)
  marked_nest marks (Single d) = Single (marks, d)
  marked_nest marks (Foreach var members body) = Foreach var members (marked marks body)

  pub marked : (marks : List ℕ) → Nests DeclForm → Nests (List ℕ × DeclForm)
  marked marks no_nest = no_nest
  marked marks (with_nest d ds) = with_nest (marked_nest marks d) (marked (drop (written_in d) marks) ds)

-- what is declared so far, and for each rule the mark of the declaration that it comes from
pub record Noted : Type 0 where
  pub declared : Declared
  pub origins : List ℕ

abbrev pub sets_noted : Noted → Sets
sets_noted s = s.declared.sets

-- a rule has its own mark, the first of those from there on
abbrev pub own_origins : (marks : List ℕ) → DeclForm → List ℕ
own_origins marks (DSet name members) = []
own_origins marks (DPred p) = []
own_origins marks (DRule f g) = get_or marks 0 0 ∷ []

abbrev pub declared_from : Binding → List ℕ × DeclForm → Noted → Result Noted ExpandError
declared_from b d s =
    declared b d.1 s.declared >>= λ made.
    Ok (record { declared = made; origins = s.origins ++ own_origins d.0 d.1 })

abbrev pub all_noted : Binding → Nests (List ℕ × DeclForm) → Noted → Result Noted ExpandError
all_noted = unrolled sets_noted declared_from

abbrev pub nothing_noted : Noted
nothing_noted = record { declared = nothing_declared limits; origins = [] }

-- for each rule of the flat form, in order, the mark of the declaration that it comes from
abbrev pub rule_origins : (marks : List ℕ) → ProgramForm → Result (List ℕ) ExpandError
rule_origins marks t = all_noted [] (marked marks t.decls) nothing_noted >>= λ s. Ok s.origins

-- where a program has a flat form, each rule of it has an origin
abbrev pub EachRuleHasOrigin : Type 0
EachRuleHasOrigin = (marks : List ℕ) (t : ProgramForm) (f : FlatForm) → expansion t ≡ Ok f
    → (origins : List ℕ) × (rule_origins marks t ≡ Ok origins) × (length origins ≡ length f.rules)
