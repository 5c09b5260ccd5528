-- What a call finds and gives.
use Rattle.std.specs.Prelude.{ℕ, List, Option, Result, Ok, Err}
use Rattle.tv_outside.specs.Told.{Held}
use Rattle.tv_status.specs.declared.status.Status.TheVariants as status
use Rattle.tv_explain.specs.Answers.{FilesMeanSuch, IsAnswer, IsStopped, IsUnwritten}
use Rattle.tv_explain.specs.Delivery.{IsDelivered}
use Rattle.tv_explain.specs.Meaning.{HoldsFiles, IsMissing, IsRefused}
use Rattle.tv_explain.specs.declared.fault.Answer.{Answer}
use Rattle.tv_explain.specs.declared.fault.Ending.{Ending}
use Rattle.tv_explain.specs.declared.fault.Ending.TheVariants.{As}
use Rattle.tv_explain.specs.declared.fault.Fault.{Fault}
use Rattle.tv_explain.specs.declared.fault.Fault.TheVariants.{Usage, FileFault}
use Rattle.tv_explain.specs.declared.fault.Fault.TheVariants.{NotWritten, ReadFault, Memory}
use Rattle.tv_explain_words.specs.Words.{CommandForm, Spells, SpellsNothing}

-- the words spell such a command
abbrev pub Commands : List (List ℕ) → (CommandForm → Type 0) → Type 0
Commands words IsSuch = (command : CommandForm) × Spells words command × IsSuch command

-- the answer is what these words and files call for
abbrev pub IsAnswerTo : List (List ℕ) → Option Held → Answer → Type 0
IsAnswerTo words told answer = Commands words (λ command. IsAnswer told command answer)

-- why a command gives no answer; `rose` says that the count of the files' faults rose
abbrev pub IsCommandCause : Option Held → CommandForm → (rose steady : Type 0) → Fault → Type 0
IsCommandCause told command rose steady Usage = ⊥
IsCommandCause told command rose steady (FileFault role kind) = IsRefused told command role kind
IsCommandCause told command rose steady ReadFault = rose × (steady → IsMissing told command)
IsCommandCause told command rose steady Memory = Unit {0}
IsCommandCause told command rose steady (NotWritten why) = IsUnwritten told command why
IsCommandCause told command rose steady other =
    FilesMeanSuch told command (λ of inputs. IsStopped command of inputs other)

-- Why there is no answer: the words spell no command; memory ran out; or the command that they spell gives
-- none.
abbrev pub IsCause : List (List ℕ) → Option Held → (rose steady : Type 0) → Fault → Type 0
IsCause words told rose steady Usage = SpellsNothing words
IsCause words told rose steady Memory = Unit {0}
IsCause words told rose steady other = Commands words
    (λ command. IsCommandCause told command rose steady other)

-- what is found: the answer that is called for, or why there is none
abbrev pub IsFound : List (List ℕ) → Option Held → (rose steady : Type 0) → Result Answer Fault → Type 0
IsFound words told rose steady (Ok answer) = IsAnswerTo words told answer
IsFound words told rose steady (Err fault) = IsCause words told rose steady fault

-- the call found what is called for, and gave it
pub record IsEnded (words : List (List ℕ)) (told : Option Held) (read_rose steady out_rose err_rose : Type 0)
    (out_old out_new err_old err_new : Option (List ℕ)) (ending : Ending) : Type 0 where
  pub found : Result Answer Fault
  pub is : IsFound words told read_rose steady found
  pub gives : IsDelivered found ending out_rose err_rose out_old out_new err_old err_new

-- this holds at any answer but a read fault
abbrev pub UnlessReadFault : {T : Type 0} → Result T Fault → Type 0 → Type 0
UnlessReadFault (Ok found) P = P
UnlessReadFault (Err ReadFault) P = Unit {0}
UnlessReadFault (Err other) P = P

-- this holds unless a read or a write failed
abbrev pub UnlessFault : Ending → Type 0 → Type 0
UnlessFault (As status.ReadFault) P = Unit {0}
UnlessFault (As status.WriteFault) P = Unit {0}
UnlessFault other P = P

-- the files of the command are there
abbrev pub HoldsOperands : List (List ℕ) → Option Held → Type 0
HoldsOperands words told = Commands words (HoldsFiles told)
