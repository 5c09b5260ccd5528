-- Steps that may be refused, one after the other, for any reasons of refusal.
use Rattle.std.specs.Prelude.{◌≡◌, Bool, true, false, Option, Some, None, Result, Ok, Err, if◌then◌else◌}

-- the next step, where nothing was refused so far
infixl 10 ◌>>=◌
abbrev pub ◌>>=◌ : {A B E : Type 0} → Result A E → (A → Result B E) → Result B E
Ok x >>= f = f x
Err e >>= f = Err e

-- goes on only where the flag is false
abbrev pub refused_if : {E : Type 0} → Bool → E → Result (Unit {0}) E
refused_if wrong e = if wrong then Err e else Ok tt

-- refused for this reason where there is nothing
abbrev pub or_refused : {A E : Type 0} → Option A → E → Result A E
or_refused None e = Err e
or_refused (Some x) e = Ok x

-- a claim that is made only where the flag is false
abbrev pub Unless : Bool → Type 0 → Type 0
Unless true P = Unit {0}
Unless false P = P

-- What a call refused is what its definition refuses. Of lack of memory, which no definition knows, nothing
-- is said.
abbrev pub Fails : {Y E : Type 0} → (E → Bool) → E → Result Y E → Type 0
Fails is_memory e out = Unless (is_memory e) (out ≡ Err e)

-- what a call answered, seen by `view`, is what its definition gives, unless memory ran out
abbrev pub Gives : {X Y E : Type 0} → (E → Bool) → (X → Y) → Result X E → Result Y E → Type 0
Gives is_memory view (Ok x) out = out ≡ Ok (view x)
Gives is_memory view (Err e) out = Fails is_memory e out
