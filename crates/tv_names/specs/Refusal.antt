-- Steps that may be refused, one after the other: the first refusal decides.
use Rattle.std.specs.Prelude.{Bool, true, false, List, [], ◌∷◌, ◌++◌, Result, Ok}
use Rattle.tv_tree.specs.Steps as steps
pub use Rattle.tv_tree.specs.Steps.{◌>>=◌, refused_if, or_refused}
use Rattle.tv_names.specs.declared.refusal.ResolveError.{ResolveError}
use Rattle.tv_names.specs.declared.refusal.ResolveError.TheVariants.{Memory}

-- what a step gives, or why it is refused
abbrev pub OrRefused : Type 0 → Type 0
OrRefused A = Result A ResolveError

-- lack of memory, of which the definition says nothing
abbrev pub is_memory : ResolveError → Bool
is_memory Memory = true
is_memory e = false

-- the refusal is the one that is defined, unless memory ran out
abbrev pub Refuses : {Y : Type 0} → ResolveError → OrRefused Y → Type 0
Refuses e defined = steps.Fails is_memory e defined

-- what a function returned, seen by view, is what is defined, unless memory ran out
abbrev pub GivesOrRefuses : {X Y : Type 0} → (X → Y) → OrRefused X → OrRefused Y → Type 0
GivesOrRefuses view answer defined = steps.Gives is_memory view answer defined

-- each in its order, up to the first refusal
abbrev pub one_by_one : {S A : Type 0} → (S → A → OrRefused S) → S → List A → OrRefused S
one_by_one step s [] = Ok s
one_by_one step s (x ∷ xs) = step s x >>= λ t. one_by_one step t xs

abbrev pub put_behind : {A B : Type 0} → (A → OrRefused B) → List B → A → OrRefused (List B)
put_behind step done x = step x >>= λ y. Ok (done ++ y ∷ [])

-- what each gives, in their order, up to the first refusal
abbrev pub each : {A B : Type 0} → (A → OrRefused B) → List A → OrRefused (List B)
each step xs = one_by_one (put_behind step) [] xs
