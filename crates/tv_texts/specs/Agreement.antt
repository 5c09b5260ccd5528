-- Answers that are one and the same, but for the place that a refusal carries.
use Rattle.std.specs.Prelude.{◌≡◌, Result, Ok, Err}
use Rattle.tv_front.specs.Meaning.{without_place, start_of_text}
use Rattle.tv_model.specs.Program.{program_of}
use Rattle.tv_model.specs.declared.program.Program.{Program}
use Rattle.tv_plang.specs.Laws.{without_place as without_source_place}
use Rattle.tv_status.specs.declared.status.FileKind.{FileKind}
use Rattle.tv_status.specs.declared.status.FileKind.TheVariants as kind
use Rattle.tv_tvs.specs.declared.error.TvsError.{TvsError}
use Rattle.tv_tvs.specs.declared.error.TvsError.TheVariants as refusal

-- the refusal of structures, wherever it stands
abbrev pub at_start : TvsError → TvsError
at_start (refusal.Syntax place) = refusal.Syntax start_of_text
at_start e = e

-- the kind of fault, wherever it stands
abbrev pub placeless : FileKind → FileKind
placeless (kind.Program fault) = kind.Program (without_place fault)
placeless (kind.Structures e) = kind.Structures (at_start e)
placeless (kind.ReportForm place) = kind.ReportForm start_of_text
placeless (kind.TraceForm place) = kind.TraceForm start_of_text
placeless (kind.Source e) = kind.Source (without_source_place e)
placeless other = other

-- both say the same program, wherever its parts lie in memory
abbrev pub SameProgram : Program → Program → Type 0
SameProgram p q = program_of p ≡ program_of q

-- the same meaning, or the same refusal but for its place
abbrev pub Agree : {A : Type 0} → (A → A → Type 0) → Result A FileKind → Result A FileKind → Type 0
Agree Same (Ok a) (Ok b) = Same a b
Agree Same (Ok a) (Err f) = ⊥
Agree Same (Err e) (Ok b) = ⊥
Agree Same (Err e) (Err f) = placeless e ≡ placeless f

-- what the one gives agrees with what the other gives
abbrev pub GiveOne : {A : Type 0} → (A → A → Type 0) → (Gives Others : Result A FileKind → Type 0) → Type 0
GiveOne {A} Same Gives Others = (a b : Result A FileKind) → Gives a → Others b → Agree Same a b
