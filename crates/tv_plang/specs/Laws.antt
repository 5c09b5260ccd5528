-- Laws of texts of the pointer language, as statements.
use Rattle.std.specs.Prelude.{◌≡◌, ◌≢◌, List}
use Rattle.tv_lex.specs.Token.{SpecToken, HaveOneMeaning}
use Rattle.tv_model.specs.Program.{ProgramForm}
use Rattle.tv_plang.specs.Meaning.{IsSourceCause, MeansProgram}
use Rattle.tv_plang.specs.declared.error.SourceError.{SourceError}
use Rattle.tv_plang.specs.declared.error.SourceError.TheVariants.{Syntax, Memory}

-- the refusal, wherever it stands
abbrev pub without_place : SourceError → SourceError
without_place (Syntax place) = Syntax (record { line = 1; column = 1 })
without_place other = other

-- tokens mean one program at most, and none where they are refused for more than lack of memory
pub record HaveOneProgram : Type 0 where
  pub one : HaveOneMeaning MeansProgram
  pub unrefused : (ts : List SpecToken) (p : ProgramForm) (fault : SourceError) → MeansProgram ts p
      → fault ≢ Memory → ¬ IsSourceCause ts fault

-- tokens are refused for one reason, its place and lack of memory aside
abbrev pub HaveOneRefusal : Type 0
HaveOneRefusal =
    (ts : List SpecToken) (d e : SourceError) → d ≢ Memory → e ≢ Memory → IsSourceCause ts d
    → IsSourceCause ts e → without_place d ≡ without_place e
