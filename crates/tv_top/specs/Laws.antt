-- Laws of commands, as statements.
use Rattle.std.specs.Prelude.{ℕ, ◌≡◌, ◌≢◌, ◌≤◌, List, Bool, false, Some, Ok, length}
use Rattle.tv_judge.specs.Judged.{Case}
use Rattle.tv_judge.specs.Verdicts.{IsVerdict}
use Rattle.tv_judge.specs.declared.verdict.Verdict.{Verdict}
use Rattle.tv_lex.specs.Bytes.{longest_text}
use Rattle.tv_model.specs.Valid.{IsValid}
use Rattle.tv_outside.specs.Told.{Held, content_of}
use Rattle.tv_model.specs.declared.program.Mode.{Mode}
use Rattle.tv_model.specs.declared.program.Mode.TheVariants.{Given}
use Rattle.tv_model.specs.declared.program.Program.{Program}
use Rattle.tv_status.specs.declared.status.Status.{Status}
use Rattle.tv_status.specs.declared.status.Status.TheVariants.{Done, Memory}
use Rattle.tv_texts.specs.Files.{IsProgramFile, IsSourceFile}
use Rattle.tv_top.specs.Call.{IsAnswerTo, CallsFor}
use Rattle.tv_top.specs.Kept.{KeepsFile, KeepsProgram}
use Rattle.tv_top.specs.One.{AreOne, HasEnded}
use Rattle.tv_top.specs.Work.{IsBounded}
use Rattle.tv_words.specs.Words.{CommandForm, Analyzes, Checks, Joins, Sources, Spells}

-- the numbers that words spell are within their limits
abbrev pub CommandsAreBounded : Type 0
CommandsAreBounded =
    (words : List (List ℕ)) (command : CommandForm) → Spells words command → IsBounded command

-- where REPORT holds the report that `analyze` wrote, the files that the call came to hold what they held,
-- the mode is the same, and both have `--delta` or neither, `check` is called to accept it; so also where
-- REPORT was written over, if it is none of these files
abbrev pub ReportsAreAccepted : Type 0
ReportsAreAccepted = (words again : List (List ℕ)) (held later : Held)
    (program initial report text : List ℕ) (max : ℕ) (mode : Mode) (maps delta : Bool)
    → Spells words (Analyzes program initial max mode delta)
    → Spells again (Checks program initial report mode maps delta)
    → IsAnswerTo words (Some held) Done text
    → KeepsProgram held later program → KeepsFile held later initial → content_of later report ≡ Some text
    → length text ≤ longest_text → CallsFor again (Some later) Done

-- the same of the report that `join` wrote
abbrev pub JoinedReportsAreAccepted : Type 0
JoinedReportsAreAccepted = (words again : List (List ℕ)) (held later : Held)
    (program initial report text : List ℕ) (max : ℕ) (mode : Mode) (maps : Bool)
    → Spells words (Joins program initial max mode)
    → Spells again (Checks program initial report mode maps false)
    → IsAnswerTo words (Some held) Done text
    → KeepsProgram held later program → KeepsFile held later initial → content_of later report ≡ Some text
    → length text ≤ longest_text → CallsFor again (Some later) Done

-- and of the report that `source` wrote, where PROGRAM means the program that SOURCE is compiled to
abbrev pub SourceReportsAreAccepted : Type 0
SourceReportsAreAccepted = (words again : List (List ℕ)) (held later : Held)
    (source initial program report text : List ℕ) (max : ℕ) (maps : Bool)
    → Spells words (Sources source initial max)
    → Spells again (Checks program initial report Given maps false)
    → IsAnswerTo words (Some held) Done text → KeepsFile held later initial
    → ((p : Program) → IsSourceFile (Some held) source (Ok p) → IsProgramFile (Some later) program (Ok p))
    → content_of later report ≡ Some text → length text ≤ longest_text → CallsFor again (Some later) Done

-- calls with the same words on steady files that hold the same have one answer, where their sinks don't fail
-- and memory suffices
abbrev pub AnswersAreOne : Type 0
AnswersAreOne = (words : List (List ℕ)) (held : Held) (a b : Status) (text other : List ℕ)
    → HasEnded words held a text → HasEnded words held b other → a ≢ Memory → b ≢ Memory
    → AreOne a b text other

-- a report on a valid program has one verdict, and one list of maps where it is accepted
abbrev pub VerdictsAreOne : Type 0
VerdictsAreOne =
    (c : Case) → IsValid c.program → (v w : Verdict) → IsVerdict c v → IsVerdict c w → v ≡ w
