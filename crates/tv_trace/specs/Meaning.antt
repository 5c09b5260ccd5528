-- What a trace means: moves on a program.
use Rattle.std.specs.Prelude.{⊤, ◌≡◌, ◌<◌, List, [], ◌∷◌, length, Ok, Option, Some, None, All, IfSome}
use Rattle.tv_lex.specs.Token.{SpecToken}
use Rattle.tv_model.specs.declared.program.Program.{Program}
use Rattle.tv_model.specs.declared.program.Vocab.{Vocab}
use Rattle.tv_structure_form.specs.StructureForm.{StructureForm}
use Rattle.tv_tvs.specs.Meaning.{struct_meant}
use Rattle.tv_tvs.specs.Targets.{IsRead}
use Rattle.tv_tvs.specs.Tree.{StructTree}
use Rattle.tv_trace.specs.Grammar.{IsTrace}
use Rattle.tv_trace.specs.Tree.{StepTree}
use Rattle.tv_trace.specs.declared.trace.Move.{Move}
use Rattle.tv_trace.specs.declared.trace.Trace.{Trace}

-- the structure that a text means, where one is written
abbrev pub AreMeant : Vocab → Option StructTree → Option StructureForm → Type 0
AreMeant vocab None None = ⊤
AreMeant vocab None (Some s) = ⊥
AreMeant vocab (Some t) None = ⊥
AreMeant vocab (Some t) (Some s) = struct_meant vocab.preds t ≡ Ok s

-- the step's edge is one of the program's, its structure means one, and the move has what is written
pub record IsMove (program : Program) (step : StepTree) (move : Move) : Type 0 where
  pub known : step.edge < length program.edges
  pub edge : move.edge ≡ step.edge
  pub picks : move.picks ≡ step.picks
  pub values : AreMeant program.vocab step.values move.values

-- one move for each step, in order
abbrev pub AreMoves : Program → List StepTree → List Move → Type 0
AreMoves program [] [] = ⊤
AreMoves program [] (move ∷ moves) = ⊥
AreMoves program (step ∷ steps) [] = ⊥
AreMoves program (step ∷ steps) (move ∷ moves) = IsMove program step move × AreMoves program steps moves

-- the tokens are a trace on the program, and this is what it means
pub record MeansTrace (program : Program) (tokens : List SpecToken) (trace : Trace) : Type 0 where
  pub steps : List StepTree
  pub are : IsTrace tokens steps
  pub moves : AreMoves program steps trace.moves

-- the tokens are no trace on the program
abbrev pub IsNoTrace : Program → List SpecToken → Type 0
IsNoTrace program tokens = (trace : Trace) → ¬ MeansTrace program tokens trace

-- an edge of the program, and, where there is one, a structure over the vocabulary without a mark
abbrev pub IsMoveOn : Program → Vocab → Move → Type 0
IsMoveOn program vocab move = (move.edge < length program.edges) × IfSome move.values (IsRead vocab)

abbrev pub IsTraceOn : Program → Trace → Type 0
IsTraceOn program trace = All (IsMoveOn program program.vocab) trace.moves
