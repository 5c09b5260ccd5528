-- The greatest values of messages so far.
use Rattle.std.specs.Prelude.{ℕ, ◌≡◌, ◌≢◌, ◌<◌, ◌==◌, ◌⊎◌, ◌↔◌, List, [], ◌∷◌, if◌then◌else◌, slice_index_or}
use Rattle.std.specs.Prelude.{AllPairs, Contains}
use Rattle.tv_kleene.specs.declared.K3.{K3}
use Rattle.tv_kleene.specs.declared.K3.TheVariants.{No, Half, Yes}
use Rattle.tv_kleene.specs.Kleene.{larger_of}
use Rattle.tv_listing.specs.declared.analysis.MessageLine.{MessageLine}
use Rattle.tv_work.specs.Analyzed.{IsBefore}

-- the value of a message, No where nothing was told of it
abbrev pub told_value : List (List K3) → (edge number : ℕ) → K3
told_value told edge number = slice_index_or (slice_index_or told edge []) number No

-- the values of messages of an edge are told beside those before
abbrev pub IsNoted : (edge : ℕ) → (values : List K3) → (old new : List (List K3)) → Type 0
IsNoted edge values old new = (e number : ℕ) → told_value new e number
    ≡ (if e == edge then larger_of (slice_index_or values number No) (told_value old e number) else told_value
    old e number)

-- the value of a message is told beside that before
abbrev pub IsRaised : (number : ℕ) → (value : K3) → (old new : List K3) → Type 0
IsRaised number value old new = (n : ℕ) → slice_index_or new n No
    ≡ (if n == number then larger_of value (slice_index_or old n No) else slice_index_or old n No)

-- the line tells the value of its message, and this isn't No
pub record IsTold (told : List (List K3)) (line : MessageLine) : Type 0 where
  pub value : line.value ≡ told_value told line.edge line.number
  pub some : line.value ≢ No

-- the line comes before one of that edge and number
abbrev pub ComesBefore : (edge number : ℕ) → MessageLine → Type 0
ComesBefore edge number line = (line.edge < edge) ⊎ ((line.edge ≡ edge) × (line.number < number))

-- the lines up to that edge and number, in order
pub record AreLinesTo (told : List (List K3)) (edge number : ℕ) (lines : List MessageLine) : Type 0 where
  pub each : (line : MessageLine) → Contains lines line ↔ (IsTold told line × ComesBefore edge number line)
  pub ordered : AllPairs IsBefore lines

-- all lines, in order
pub record AreLines (told : List (List K3)) (lines : List MessageLine) : Type 0 where
  pub each : (line : MessageLine) → Contains lines line ↔ IsTold told line
  pub ordered : AllPairs IsBefore lines

-- the line of a value, none where it is No
abbrev pub line_of : (edge number : ℕ) → K3 → List MessageLine
line_of edge number No = []
line_of edge number Half = record { edge = edge; number = number; value = Half } ∷ []
line_of edge number Yes = record { edge = edge; number = number; value = Yes } ∷ []
