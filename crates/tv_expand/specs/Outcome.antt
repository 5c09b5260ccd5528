-- Steps that may be refused, one after the other.
use Rattle.std.specs.Prelude.{Bool, true, false, List, [], ◌∷◌, Result, Ok}
use Rattle.tv_tree.specs.Steps as steps
pub use Rattle.tv_tree.specs.Steps.{◌>>=◌}
use Rattle.tv_expand.specs.declared.error.ExpandError.{ExpandError}
use Rattle.tv_expand.specs.declared.error.ExpandError.TheVariants.{Memory}

-- a step for each item of a list, in order, up to the first that is refused
abbrev pub each : {A S : Type 0} → (A → S → Result S ExpandError) → List A → S → Result S ExpandError
each step [] s = Ok s
each step (x ∷ xs) s = step x s >>= each step xs

-- lack of memory, of which the definition says nothing
abbrev pub is_memory : ExpandError → Bool
is_memory Memory = true
is_memory e = false

-- what a call refused is what the definition refuses, unless memory ran out
abbrev pub FailsExpansion : {Y : Type 0} → ExpandError → Result Y ExpandError → Type 0
FailsExpansion e out = steps.Fails is_memory e out

-- what a call answered, seen by view, is what the definition gives, unless memory ran out
abbrev pub GivesExpansion : {X Y : Type 0} → (X → Y) → Result X ExpandError → Result Y ExpandError → Type 0
GivesExpansion view answer out = steps.Gives is_memory view answer out
