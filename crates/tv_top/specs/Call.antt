-- Why a call ends as it does.
use Rattle.std.specs.Prelude.{◌≡◌, ◌⊎◌, ℕ, List, Option}
use Rattle.tv_outside.specs.Told.{Held}
use Rattle.tv_status.specs.declared.status.Status.{Status}
use Rattle.tv_status.specs.declared.status.Status.TheVariants.{Done, Rejected, Stuck, Usage, FileFault}
use Rattle.tv_status.specs.declared.status.Status.TheVariants.{Structures, TooManySplits, TooManyIndividuals}
use Rattle.tv_status.specs.declared.status.Status.TheVariants.{ReadFault, WriteFault, Memory}
use Rattle.tv_texts.specs.Agreement.{placeless}
use Rattle.tv_top.specs.Answers.{IsAnswer, IsRejected, CanBeDone, CanRun, StopsIn, ReachesTooMuch}
use Rattle.tv_top.specs.Answers.{MeetsBudget}
use Rattle.tv_top.specs.Meaning.{Task, Commands, FilesMean, IsRefused, IsMissing, HoldsFiles, IsTold}
use Rattle.tv_top.specs.declared.fault.Fault.{Fault}
use Rattle.tv_top.specs.declared.fault.Fault.TheVariants as fault
use Rattle.tv_step_laws.specs.Budgets.{MeetsSplits, MeetsIndividuals}
use Rattle.tv_words.specs.Words.{CommandForm, SpellsNothing}

-- the text is what these words and files call for with this status
abbrev pub IsAnswerTo : List (List ℕ) → Option Held → Status → List ℕ → Type 0
IsAnswerTo words told status text = Commands words (λ command. IsAnswer told command status text)

-- why a command gives no text; `rose` says that the count of the files' faults rose
abbrev pub IsCommandCause : Option Held → CommandForm → (rose steady : Type 0) → Fault → Type 0
IsCommandCause told command rose steady fault.Usage = ⊥
IsCommandCause told command rose steady (fault.FileFault role kind) = IsRefused told command role kind
IsCommandCause told command rose steady (fault.Structures max) = ReachesTooMuch told command max
IsCommandCause told command rose steady fault.TooManySplits = MeetsBudget told command MeetsSplits
IsCommandCause told command rose steady fault.TooManyIndividuals = MeetsBudget told command MeetsIndividuals
IsCommandCause told command rose steady fault.ReadFault = rose × (steady → IsMissing told command)
IsCommandCause told command rose steady fault.Memory = Unit {0}

-- Why there is no text: the words spell no command; memory ran out; or the command that they spell gives
-- none.
abbrev pub IsCause : List (List ℕ) → Option Held → (rose steady : Type 0) → Fault → Type 0
IsCause words told rose steady fault.Usage = SpellsNothing words
IsCause words told rose steady fault.Memory = Unit {0}
IsCause words told rose steady other = Commands words
    (λ command. IsCommandCause told command rose steady other)

-- why the call ends so; what stands behind `Done`, `Rejected` and `Stuck` is said by what the output took
abbrev pub EndsFor : (Fault → Type 0) → (write_rose : Type 0) → Status → Type 0
EndsFor IsCause write_rose Done = Unit {0}
EndsFor IsCause write_rose (Rejected r) = Unit {0}
EndsFor IsCause write_rose (Stuck step why) = Unit {0}
EndsFor IsCause write_rose Usage = IsCause fault.Usage
EndsFor IsCause write_rose (FileFault role kind) = IsCause (fault.FileFault role kind)
EndsFor IsCause write_rose (Structures max) = IsCause (fault.Structures max)
EndsFor IsCause write_rose TooManySplits = IsCause fault.TooManySplits
EndsFor IsCause write_rose TooManyIndividuals = IsCause fault.TooManyIndividuals
EndsFor IsCause write_rose ReadFault = IsCause fault.ReadFault
EndsFor IsCause write_rose WriteFault = write_rose
EndsFor IsCause write_rose Memory = IsCause fault.Memory

-- ---- which ending is due

-- what the files of the command hold calls for this ending
abbrev pub CommandCallsFor : Option Held → CommandForm → Status → Type 0
CommandCallsFor told command Done = (task : Task) × FilesMean told command task × CanBeDone told command task
CommandCallsFor told command (Rejected r) = (task : Task) × FilesMean told command task
    × IsRejected told command task r
CommandCallsFor told command (Stuck step why) = (task : Task) × FilesMean told command task
    × StopsIn told command task step why
CommandCallsFor told command (FileFault role kind) = IsRefused told command role kind
CommandCallsFor told command other = ⊥

-- the words, and the files that tell what they hold, call for this ending
abbrev pub CallsFor : List (List ℕ) → Option Held → Status → Type 0
CallsFor words told Usage = SpellsNothing words
CallsFor words told due = Commands words (λ command. IsTold told command × CommandCallsFor told command due)

-- what the files of `replay` hold calls for a replay, to whatever end
abbrev pub CallsForRun : List (List ℕ) → Option Held → Type 0
CallsForRun words told = Commands words (λ command. IsTold told command
    × ((task : Task) × FilesMean told command task × CanRun told command task))

-- how a replay ends
abbrev pub IsRunEnding : Status → Type 0
IsRunEnding Done = Unit {0}
IsRunEnding (Stuck step why) = Unit {0}
IsRunEnding other = ⊥

-- an ending that may stand in the place of any other
abbrev pub IsExcuse : Status → Type 0
IsExcuse ReadFault = Unit {0}
IsExcuse WriteFault = Unit {0}
IsExcuse Memory = Unit {0}
IsExcuse other = ⊥

-- the ending, wherever in a file a fault stands
abbrev pub without_place : Status → Status
without_place (FileFault role kind) = FileFault role (placeless kind)
without_place other = other

-- the call ends as it is called for, or there is such an excuse
pub record EndsDuly (words : List (List ℕ)) (told : Option Held) (status : Status)
    (excuse : Type 0) : Type 0 where
  -- whatever ending is called for, this is the one, the place of a fault aside
  pub due : (due : Status) → CallsFor words told due → (without_place status ≡ without_place due) ⊎ excuse
  -- and a replay that is called for is done or stuck
  pub run : CallsForRun words told → IsRunEnding status ⊎ excuse

-- this holds unless a read or a write failed
abbrev pub UnlessFault : Status → Type 0 → Type 0
UnlessFault ReadFault P = Unit {0}
UnlessFault WriteFault P = Unit {0}
UnlessFault other P = P

-- the files of the command are there
abbrev pub HoldsOperands : List (List ℕ) → Option Held → Type 0
HoldsOperands words told = Commands words (HoldsFiles told)
