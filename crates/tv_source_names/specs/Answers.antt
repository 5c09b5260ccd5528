-- What the parts of the reader answer.
use Rattle.std.specs.Prelude.{◌≡◌, Result, Ok, Err}
use Rattle.tv_source_names.specs.declared.error.SourceReadError.{SourceReadError}
use Rattle.tv_source_names.specs.declared.error.SourceReadError.TheVariants.{TooDeep, Syntax, Reserved}
use Rattle.tv_source_names.specs.declared.error.SourceReadError.TheVariants.{NameTwice, NameUnknown, Memory}

-- what is refused is what the meaning refuses; lack of memory says nothing
abbrev pub RefusesSource : {X : Type 0} → SourceReadError → Result X SourceReadError → Type 0
RefusesSource TooDeep meaning = ⊥
RefusesSource (Syntax place) meaning = ⊥
RefusesSource Reserved meaning = meaning ≡ Err Reserved
RefusesSource NameTwice meaning = meaning ≡ Err NameTwice
RefusesSource NameUnknown meaning = meaning ≡ Err NameUnknown
RefusesSource Memory meaning = Unit {0}

-- what was answered, seen by view, is what the meaning gives
abbrev pub Answers : {R X : Type 0} → (R → X) → Result R SourceReadError → Result X SourceReadError → Type 0
Answers view (Ok x) meaning = meaning ≡ Ok (view x)
Answers view (Err e) meaning = RefusesSource e meaning
