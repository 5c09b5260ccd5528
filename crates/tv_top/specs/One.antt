-- What the words and what the names hold fix of a call's answer.
use Rattle.std.specs.Prelude.{◌≡◌, ◌⊎◌, ℕ, List, [], Some}
use Rattle.tv_lex.specs.declared.token.Place.{Place}
use Rattle.tv_outside.specs.Told.{Held}
use Rattle.tv_status.specs.Status.{file_fault_text, text_of}
use Rattle.tv_status.specs.declared.status.FileKind.{FileKind}
use Rattle.tv_status.specs.declared.status.Role.{Role}
use Rattle.tv_status.specs.declared.status.Status.{Status}
use Rattle.tv_status.specs.declared.status.Status.TheVariants.{Structures, TooManySplits, TooManyIndividuals}
use Rattle.tv_status.specs.declared.status.Teller.TheVariants.{Analyzer}
use Rattle.tv_top.specs.Call.{EndsFor, IsAnswerTo, IsCause, without_place}
use Rattle.tv_top.specs.Delivery.{OutTook}

-- a call with these words on steady files that hold this, whose sinks don't fail, ended so for its cause, and
-- standard output took this text
pub record HasEnded (words : List (List ℕ)) (held : Held) (status : Status) (text : List ℕ) : Type 0 where
  pub cause : EndsFor (IsCause words (Some held) (Unit {0}) (Unit {0})) ⊥ status
  pub took : OutTook status (IsAnswerTo words (Some held)) ⊥ ⊥ (Some []) (Some text)

-- a limit was passed
abbrev pub IsLimit : Status → Type 0
IsLimit (Structures max) = Unit {0}
IsLimit TooManySplits = Unit {0}
IsLimit TooManyIndividuals = Unit {0}
IsLimit other = ⊥

-- the lines of both statuses for the standard error are one; or they tell one fault at two places
abbrev pub AreToldAlike : (a b : Status) → Type 0
AreToldAlike a b = (text_of a ≡ text_of b)
    ⊎ ((role : Role) × (kind : FileKind) × (p q : Place)
    × (text_of a ≡ file_fault_text Analyzer role kind (Some p))
    × (text_of b ≡ file_fault_text Analyzer role kind (Some q)))

-- both statuses are one, places aside, and so are the texts, those for the standard error too; or both calls
-- passed a limit, whichever they came to first
abbrev pub AreOne : (a b : Status) → (text other : List ℕ) → Type 0
AreOne a b text other = (IsLimit a × IsLimit b)
    ⊎ ((without_place a ≡ without_place b) × (text ≡ other) × AreToldAlike a b)
