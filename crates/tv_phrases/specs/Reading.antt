-- Readings: functions that take a phrase off the front of the tokens, and give its value and the tokens
-- behind it.
use Rattle.std.specs.Prelude.{◌≡◌, List, Option, Some, None, Result, Ok, Err}
pub use Rattle.tv_lex.specs.Options.{◌>>=◌}
use Rattle.tv_lex.specs.Token.{SpecToken}
use Rattle.tv_phrases.specs.declared.error.PhraseError.{PhraseError}
use Rattle.tv_phrases.specs.declared.error.PhraseError.TheVariants.{Unexpected, Memory}

-- a phrase's value and the tokens behind it, or None where the tokens don't begin with such a phrase
abbrev pub Reading : Type 0 → Type 0
Reading X = Option (X × List SpecToken)

-- a value, and the tokens behind its phrase
abbrev pub taken : {X : Type 0} → X → List SpecToken → Reading X
taken x rest = Some (x, rest)

-- the value where there is one, else the other answer
abbrev pub choose : {A B : Type 0} → Option A → B → (A → B) → B
choose None none some = none
choose (Some x) none some = some x

-- what an answer says of a reading: its value, or that there is none; lack of memory says nothing
abbrev pub Told : PhraseError → Type 0 → Type 0
Told (Unexpected at) none = none
Told Memory none = Unit {0}

abbrev pub GivesReading : {R X : Type 0} → (R → X) → Result R PhraseError → Option X → Type 0
GivesReading view (Ok x) read = read ≡ Some (view x)
GivesReading view (Err fault) read = Told fault (read ≡ None)

-- the same of an answer that is never lack of memory
abbrev pub Refuses : PhraseError → Type 0 → Type 0
Refuses (Unexpected at) none = none
Refuses Memory none = ⊥

abbrev pub Takes : {R X : Type 0} → (R → X) → Result R PhraseError → Option X → Type 0
Takes view (Ok x) read = read ≡ Some (view x)
Takes view (Err fault) read = Refuses fault (read ≡ None)
