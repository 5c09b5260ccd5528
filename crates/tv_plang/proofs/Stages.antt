-- The stages of a compilation, put together.
use Rattle.std.proofs.Common.{ℕ, ◌≡◌, List, sym, subst}
use Rattle.tv_plang.specs.declared.whole.CompileError.{CompileError}
use Rattle.tv_plang.specs.declared.whole.CompileError.TheVariants as compiling
use Rattle.tv_lex.specs.Places.{StopsAtToken}
use Rattle.tv_lex.specs.Token.{SpecToken, HaveOneMeaning}
use Rattle.tv_lex.specs.declared.token.Token.{Token}
use Rattle.tv_model.specs.Program.{ProgramForm}
use Rattle.tv_source.specs.Forms.{SourceForm}
use Rattle.tv_source.specs.Valid.{IsSource}
use Rattle.tv_plang_laws.specs.Compiled.{IsSmall, compiled}
use Rattle.tv_plang_laws.specs.Laws.{NullsAreToldBy, RunsAreRunsOf}
use Rattle.tv_source_names.specs.Outcome as reading
use Rattle.tv_source_names.specs.Outcome.{MeansSource}
use Rattle.tv_source_names.specs.declared.error.SourceReadError.{SourceReadError}
use Rattle.tv_source_names.specs.declared.error.SourceReadError.TheVariants as read
use Rattle.tv_plang.specs.Errors.{of_compiling, of_reading}
use Rattle.tv_plang.specs.Meaning.{DoesAsSource, IsSourceCause, MeansProgram, source_place}
use Rattle.tv_plang.specs.declared.error.SourceError.{SourceError}

cause-of_reading : (ts : List SpecToken) (e : SourceReadError) → reading.IsReadCause ts e → IsSourceCause ts (of_reading e)
cause-of_reading ts read.TooDeep cause = cause
cause-of_reading ts (read.Syntax place) cause = cause
cause-of_reading ts read.Reserved cause = cause
cause-of_reading ts read.NameTwice cause = cause
cause-of_reading ts read.NameUnknown cause = cause
cause-of_reading ts read.Memory cause = tt

stop-of_reading : (text : List ℕ) (tokens : List Token) (e : SourceReadError) → StopsAtToken reading.reading_place text tokens e
    → StopsAtToken source_place text tokens (of_reading e)
stop-of_reading text tokens (read.Syntax place) stop = stop
stop-of_reading text tokens other stop = tt

pub reading_refused : (ts : List SpecToken) (e : SourceReadError) (fault : SourceError) → fault ≡ of_reading e → reading.IsReadCause ts e → IsSourceCause ts fault
reading_refused ts e fault is cause = subst (IsSourceCause ts) (sym is) (cause-of_reading ts e cause)

pub reading_stopped : (text : List ℕ) (tokens : List Token) (e : SourceReadError) (fault : SourceError) → fault ≡ of_reading e
    → StopsAtToken reading.reading_place text tokens e → StopsAtToken source_place text tokens fault
reading_stopped text tokens e fault is stop = subst (StopsAtToken source_place text tokens) (sym is) (stop-of_reading text tokens e stop)

cause-of_compiling : (ts : List SpecToken) (s : SourceForm) (e : CompileError) → MeansSource ts s → (e ≡ compiling.TooMany → ¬ IsSmall (compiled s))
    → IsSourceCause ts (of_compiling e)
cause-of_compiling ts s compiling.TooMany meant large = record { source = s; meant = meant; large = large refl_too_many }
  where
    refl_too_many : compiling.TooMany ≡ compiling.TooMany
    refl_too_many = cc
cause-of_compiling ts s compiling.Memory meant large = tt

pub compiling_refused : (ts : List SpecToken) (s : SourceForm) (e : CompileError) (fault : SourceError) → fault ≡ of_compiling e → MeansSource ts s
    → (e ≡ compiling.TooMany → ¬ IsSmall (compiled s)) → IsSourceCause ts fault
compiling_refused ts s e fault is meant large = subst (IsSourceCause ts) (sym is) (cause-of_compiling ts s e meant large)

stop-of_compiling : (text : List ℕ) (tokens : List Token) (e : CompileError) → StopsAtToken source_place text tokens (of_compiling e)
stop-of_compiling text tokens compiling.TooMany = tt
stop-of_compiling text tokens compiling.Memory = tt

pub compiling_stopped : (text : List ℕ) (tokens : List Token) (e : CompileError) (fault : SourceError) → fault ≡ of_compiling e
    → StopsAtToken source_place text tokens fault
compiling_stopped text tokens e fault is = subst (StopsAtToken source_place text tokens) (sym is) (stop-of_compiling text tokens e)

pub program_meant : (ts : List SpecToken) (s : SourceForm) (program : ProgramForm) → MeansSource ts s → IsSource s → program ≡ compiled s
    → IsSmall program → MeansProgram ts program
program_meant ts s program meant valid is small = record { source = s; meant = meant; valid = valid; is = is; small = small }

pub does_as_source : HaveOneMeaning MeansSource → (ts : List SpecToken) (s : SourceForm) (program : ProgramForm) → MeansSource ts s
    → RunsAreRunsOf program s → NullsAreToldBy program s → DoesAsSource ts program
does_as_source one ts s program meant runs nulls = record {
  runs = λ p is. subst (RunsAreRunsOf program) (one ts s p meant is) runs;
  nulls = λ p is. subst (NullsAreToldBy program) (one ts s p meant is) nulls;
}
