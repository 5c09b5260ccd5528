-- What is found of a source program.
use Rattle.std.proofs.Common.{ℕ, List, Option, None, Some, Ok, subst}
use Rattle.tv_lex.specs.Token.{SpecToken}
use Rattle.tv_listing.specs.declared.analysis.Analysis.{Analysis}
use Rattle.tv_model.specs.Program.{program_of}
use Rattle.tv_outside.specs.Told.{Held}
use Rattle.tv_plang.specs.Meaning.{MeansProgram}
use Rattle.tv_plang_laws.specs.Compiled.{IsSmall}
use Rattle.tv_source_laws.specs.Laws.{CoveredRunsCoverSources}
use Rattle.tv_texts.specs.Files.{IsSourceFile}
use Rattle.tv_top.specs.Answers.{IsFound, IsSourceSound, CoversSourceFile}
use Rattle.tv_top.specs.Meaning.{Task}
use Rattle.tv_step_laws.specs.Closed.{CoversRuns}

-- what covers the runs of the compiled program covers those of the source program
sound : CoveredRunsCoverSources → (task : Task) (max : ℕ) (a : Analysis) (ts : List SpecToken)
    → MeansProgram ts (program_of task.program) → IsFound task max a → IsSourceSound task a ts
sound law task max a ts m found = record {
  source = m.source;
  meant = m.meant;
  is = m.is;
  covers = law m.source task.mode task.initial a.listing a.messages m.valid (subst IsSmall m.is m.small)
      (subst (λ p. CoversRuns p task.mode task.initial a.listing a.messages) m.is found.sound);
}

pub source_covered : CoveredRunsCoverSources → (told : Option Held) (source : List ℕ) (task : Task) (max : ℕ) (a : Analysis)
    → IsSourceFile told source (Ok task.program) → IsFound task max a → CoversSourceFile told source task a
source_covered law None source task max a file found = tt
source_covered law (Some held) source task max a file found =
    (file.0, file.1, (file.2.1.0, file.2.1.1, sound law task max a _ file.2.1.2 found))
