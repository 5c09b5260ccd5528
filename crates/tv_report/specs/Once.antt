-- Lists whose elements have keys that differ, and sets of the keys that were seen.
use Rattle.std.specs.Prelude.{◌≡◌, ◌≢◌, ◌⊎◌, Bool, true, false, List, [], ◌∷◌, ◌++◌, map, All, AllPairs}
use Rattle.std.specs.Prelude.{Contains}

-- each element is good, and no two have one key
abbrev pub AreOnce : {X K : Type 0} → (X → Type 0) → (X → K) → List X → Type 0
AreOnce Good key xs = All Good xs × AllPairs ◌≢◌ (map key xs)

-- whether a key is new: it is put behind the others then, and is one of them otherwise
abbrev pub IsSeen : {K : Type 0} → (old new : List K) → K → Bool → Type 0
IsSeen old new k true = (¬ Contains old k) × (new ≡ old ++ k ∷ [])
IsSeen old new k false = Contains old k

-- an element that can stand behind those with the old keys, and one that can't
abbrev pub GoesOn : {X K : Type 0} → (X → Type 0) → (X → K) → (old new : List K) → X → Type 0
GoesOn Good key old new x = Good x × IsSeen old new (key x) true

abbrev pub Breaks : {X K : Type 0} → (X → Type 0) → (X → K) → (old : List K) → X → Type 0
Breaks Good key old x = (¬ Good x) ⊎ Contains old (key x)
