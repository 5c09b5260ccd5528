-- What a text of the pointer language means, and why it is refused.
use Rattle.std.specs.Prelude.{◌≡◌, List, Option, Some, None}
use Rattle.tv_lex.specs.Token.{SpecToken}
use Rattle.tv_lex.specs.declared.token.Place.{Place}
use Rattle.tv_model.specs.Program.{ProgramForm}
use Rattle.tv_source.specs.Forms.{SourceForm}
use Rattle.tv_source.specs.Valid.{IsSource}
use Rattle.tv_plang_laws.specs.Compiled.{IsSmall, compiled}
use Rattle.tv_plang_laws.specs.Laws.{NullsAreToldBy, RunsAreRunsOf}
use Rattle.tv_source_names.specs.Outcome as reading
use Rattle.tv_source_names.specs.Outcome.{MeansSource}
use Rattle.tv_source_names.specs.declared.error.SourceReadError.TheVariants as read
use Rattle.tv_plang.specs.declared.error.SourceError.{SourceError}
use Rattle.tv_plang.specs.declared.error.SourceError.TheVariants.{TooDeep, Syntax, Reserved, NameTwice}
use Rattle.tv_plang.specs.declared.error.SourceError.TheVariants.{NameUnknown, TooMany, Memory}

-- the tokens are those of a source program, which is valid, and this is what it is compiled to, within the
-- limits
pub record MeansProgram (ts : List SpecToken) (program : ProgramForm) : Type 0 where
  pub source : SourceForm
  pub meant : MeansSource ts source
  pub valid : IsSource source
  pub is : program ≡ compiled source
  pub small : IsSmall program

-- the tokens are those of a source program that is compiled to one past the limits
pub record IsTooLarge (ts : List SpecToken) : Type 0 where
  pub source : SourceForm
  pub meant : MeansSource ts source
  pub large : ¬ IsSmall (compiled source)

-- what the source program of the tokens does, the program does; and where it meets null in a dereference, a
-- message is true
pub record DoesAsSource (ts : List SpecToken) (program : ProgramForm) : Type 0 where
  pub runs : (p : SourceForm) → MeansSource ts p → RunsAreRunsOf program p
  pub nulls : (p : SourceForm) → MeansSource ts p → NullsAreToldBy program p

-- why tokens mean no program
abbrev pub IsSourceCause : List SpecToken → SourceError → Type 0
IsSourceCause ts TooDeep = reading.IsReadCause ts read.TooDeep
IsSourceCause ts (Syntax place) = reading.IsReadCause ts (read.Syntax place)
IsSourceCause ts Reserved = reading.IsReadCause ts read.Reserved
IsSourceCause ts NameTwice = reading.IsReadCause ts read.NameTwice
IsSourceCause ts NameUnknown = reading.IsReadCause ts read.NameUnknown
IsSourceCause ts TooMany = IsTooLarge ts
IsSourceCause ts Memory = Unit {0}

-- the place that the error tells
abbrev pub source_place : SourceError → Option Place
source_place (Syntax place) = Some place
source_place other = None
