-- What the files of a command mean: a program, initial structures, and for `check` a report; or the first of
-- them that means nothing.
use Rattle.std.specs.Prelude.{ℕ, ◌≡◌, ◌⊎◌, Bool, true, false, List, Option, IsSome, Result, Ok, Err}
use Rattle.tv_demo.specs.Texts.{program_text, lists_text}
use Rattle.tv_delta_laws.specs.Differences.{IsDifferenced}
use Rattle.tv_listing.specs.declared.analysis.Analysis.{Analysis}
use Rattle.tv_model.specs.Program.{program_of}
use Rattle.tv_model.specs.declared.program.Mode.{Mode}
use Rattle.tv_model.specs.declared.program.Mode.TheVariants.{Given}
use Rattle.tv_model.specs.declared.program.Program.{Program}
use Rattle.tv_outside.specs.Told.{Held, HoldsName}
use Rattle.tv_status.specs.declared.status.FileKind.{FileKind}
use Rattle.tv_status.specs.declared.status.Role.{Role}
use Rattle.tv_status.specs.declared.status.Role.TheVariants as role
use Rattle.tv_structure_form.specs.StructureForm.{StructureForm}
use Rattle.tv_texts.specs.Files.{IsProgramFile, LacksFile, IsInitialFile, IsStartFile, IsTraceFile}
use Rattle.tv_texts.specs.Files.{IsReportFile, IsSourceFile}
use Rattle.tv_texts.specs.Meaning.{MeansProgram, MeansInitial}
use Rattle.tv_trace.specs.declared.trace.Trace.{Trace}
use Rattle.tv_words.specs.Words.{CommandForm, Analyzes, Checks, Demos, Joins, Replays, Sources, Spells}

-- the words spell such a command
abbrev pub Commands : List (List ℕ) → (CommandForm → Type 0) → Type 0
Commands words IsSuch = (command : CommandForm) × Spells words command × IsSuch command

-- ---- the files of a command

-- the named file, with its includes put in, means this program, or, with `delta`, one of which differencing
-- makes it; or it is refused so
abbrev pub IsTakenProgram : (delta : Bool) → Option Held → (name : List ℕ) → Result Program FileKind → Type 0
IsTakenProgram false told name answer = IsProgramFile told name answer
IsTakenProgram true told name (Ok program) = (read : Program) × IsProgramFile told name (Ok read)
    × IsDifferenced (program_of read) (program_of program)
IsTakenProgram true told name (Err kind) = IsProgramFile told name (Err kind)

-- PROGRAM means this program, or is refused so; a demo makes its text itself, and SOURCE is compiled
abbrev pub GivesProgram : Option Held → CommandForm → Result Program FileKind → Type 0
GivesProgram told (Analyzes program initial max mode delta) answer = IsTakenProgram delta told program answer
GivesProgram told (Checks program initial report mode maps delta) answer =
    IsTakenProgram delta told program answer
GivesProgram told (Demos number) answer = MeansProgram (program_text number) answer
GivesProgram told (Joins program initial max mode) answer = IsProgramFile told program answer
GivesProgram told (Replays program initial start trace report) answer = IsProgramFile told program answer
GivesProgram told (Sources source initial max) answer = IsSourceFile told source answer

-- INITIAL means these structures over the program's vocabulary, or is refused so
abbrev pub GivesInitial : Option Held → CommandForm → Program → Result (List StructureForm) FileKind → Type 0
GivesInitial told (Analyzes program initial max mode delta) meant answer =
    IsInitialFile told initial meant answer
GivesInitial told (Checks program initial report mode maps delta) meant answer =
    IsInitialFile told initial meant answer
GivesInitial told (Demos number) meant answer = MeansInitial meant lists_text answer
GivesInitial told (Joins program initial max mode) meant answer = IsInitialFile told initial meant answer
GivesInitial told (Replays program initial start trace report) meant answer =
    IsInitialFile told initial meant answer
GivesInitial told (Sources source initial max) meant answer = IsInitialFile told initial meant answer

-- START, which `replay` alone has, means this heap over the program's vocabulary, or is refused so
abbrev pub GivesStart : Option Held → CommandForm → Program → Result StructureForm FileKind → Type 0
GivesStart told (Replays program initial start trace report) meant answer =
    IsStartFile told start meant answer
GivesStart told other meant answer = ⊥

-- TRACE, which `replay` alone has, is this trace on the program, or is refused so
abbrev pub GivesTrace : Option Held → CommandForm → Program → Result Trace FileKind → Type 0
GivesTrace told (Replays program initial start trace report) meant answer =
    IsTraceFile told trace meant answer
GivesTrace told other meant answer = ⊥

-- REPORT, which `check` and `replay` have, is this report on the program, or is refused so
abbrev pub GivesReport : Option Held → CommandForm → Program → Result Analysis FileKind → Type 0
GivesReport told (Checks program initial report mode maps delta) meant answer =
    IsReportFile told report meant answer
GivesReport told (Replays program initial start trace report) meant answer =
    IsReportFile told report meant answer
GivesReport told other meant answer = ⊥

abbrev pub mode_of : CommandForm → Mode
mode_of (Analyzes program initial max mode delta) = mode
mode_of (Checks program initial report mode maps delta) = mode
mode_of (Joins program initial max mode) = mode
mode_of other = Given

-- what a command works on
pub record Task : Type 0 where
  pub program : Program
  pub initial : List StructureForm
  pub mode : Mode

-- PROGRAM and INITIAL mean this program and these initial structures, and the command has this mode
pub record FilesMean (told : Option Held) (command : CommandForm) (task : Task) : Type 0 where
  pub program : GivesProgram told command (Ok task.program)
  pub initial : GivesInitial told command task.program (Ok task.initial)
  pub mode : task.mode ≡ mode_of command

-- START and TRACE mean something, where the command has them
abbrev pub HasStartAndTrace : Option Held → CommandForm → Program → Type 0
HasStartAndTrace told (Replays program initial start trace report) meant =
    (s : StructureForm) × IsStartFile told start meant (Ok s)
    × ((t : Trace) × IsTraceFile told trace meant (Ok t))
HasStartAndTrace told other meant = Unit {0}

-- the file that the program comes from
abbrev pub program_role : CommandForm → Role
program_role (Sources source initial max) = role.Source
program_role other = role.Program

-- the file of this role is the first that means nothing, for this reason
abbrev pub IsRefused : Option Held → CommandForm → Role → FileKind → Type 0
IsRefused told command role.Initial kind =
    (program : Program) × GivesProgram told command (Ok program)
    × GivesInitial told command program (Err kind)
IsRefused told command role.Start kind =
    (task : Task) × FilesMean told command task × GivesStart told command task.program (Err kind)
IsRefused told command role.Trace kind = (task : Task) × FilesMean told command task
    × ((s : StructureForm) × GivesStart told command task.program (Ok s))
    × GivesTrace told command task.program (Err kind)
IsRefused told command role.Report kind = (task : Task) × FilesMean told command task
    × HasStartAndTrace told command task.program × GivesReport told command task.program (Err kind)
IsRefused told command other kind = (program_role command ≡ other) × GivesProgram told command (Err kind)

-- ---- files that aren't there

abbrev pub LacksProgram : Option Held → CommandForm → Type 0
LacksProgram told (Analyzes program initial max mode delta) = LacksFile told program
LacksProgram told (Checks program initial report mode maps delta) = LacksFile told program
LacksProgram told (Demos number) = ⊥
LacksProgram told (Joins program initial max mode) = LacksFile told program
LacksProgram told (Replays program initial start trace report) = LacksFile told program
LacksProgram told (Sources source initial max) = ¬ HoldsName told source

abbrev pub LacksInitial : Option Held → CommandForm → Type 0
LacksInitial told (Analyzes program initial max mode delta) = ¬ HoldsName told initial
LacksInitial told (Checks program initial report mode maps delta) = ¬ HoldsName told initial
LacksInitial told (Demos number) = ⊥
LacksInitial told (Joins program initial max mode) = ¬ HoldsName told initial
LacksInitial told (Replays program initial start trace report) = ¬ HoldsName told initial
LacksInitial told (Sources source initial max) = ¬ HoldsName told initial

-- the first of the files behind INITIAL that means nothing isn't there
abbrev pub LacksLater : Option Held → CommandForm → Program → Type 0
LacksLater told (Checks program initial report mode maps delta) meant = ¬ HoldsName told report
LacksLater told (Replays program initial start trace report) meant = (¬ HoldsName told start)
    ⊎ ((((s : StructureForm) × IsStartFile told start meant (Ok s)) × (¬ HoldsName told trace))
    ⊎ (HasStartAndTrace told (Replays program initial start trace report) meant × (¬ HoldsName told report)))
LacksLater told other meant = ⊥

-- the first file that means nothing isn't there: an operand, or a file that PROGRAM includes and that is come
-- to before any refusal
abbrev pub IsMissing : Option Held → CommandForm → Type 0
IsMissing told command = LacksProgram told command
    ⊎ (((program : Program) × GivesProgram told command (Ok program) × LacksInitial told command)
    ⊎ ((task : Task) × FilesMean told command task × LacksLater told command task.program))

-- each operand that names a file is there, and so is each file that PROGRAM includes and that is come to
-- before any refusal
abbrev pub HoldsFiles : Option Held → CommandForm → Type 0
HoldsFiles told (Analyzes program initial max mode delta) =
    (¬ LacksFile told program) × HoldsName told initial
HoldsFiles told (Checks program initial report mode maps delta) =
    (¬ LacksFile told program) × HoldsName told initial × HoldsName told report
HoldsFiles told (Demos number) = Unit {0}
HoldsFiles told (Joins program initial max mode) = (¬ LacksFile told program) × HoldsName told initial
HoldsFiles told (Replays program initial start trace report) = (¬ LacksFile told program)
    × HoldsName told initial × HoldsName told start × HoldsName told trace × HoldsName told report
HoldsFiles told (Sources source initial max) = HoldsName told source × HoldsName told initial

-- it is told what the files of the command hold; a demo has none
abbrev pub IsTold : Option Held → CommandForm → Type 0
IsTold told (Demos number) = Unit {0}
IsTold told other = IsSome told
