-- What files and sinks tell of their bytes. An untold meaning is `None`, and nothing is said of it.
use Rattle.std.specs.Prelude.{◌≡◌, ℕ, ◌<◌, List, [], ◌∷◌, ◌++◌, length, Option, Some, None, IsSome}
use Rattle.std.specs.Prelude.{if◌then◌else◌}
use Rattle.std.specs.Str.{bytes_eq}

-- a finite map from names to bytes; of two pairs with one name the first counts
abbrev pub Held : Type 0
Held = List (List ℕ × List ℕ)

-- what a name holds
abbrev pub content_of : Held → List ℕ → Option (List ℕ)
content_of [] name = None
content_of (pair ∷ held) name = if bytes_eq pair.0 name then Some pair.1 else content_of held name

-- it is told what the names hold, and this one holds something
abbrev pub HoldsName : Option Held → List ℕ → Type 0
HoldsName None name = ⊥
HoldsName (Some held) name = IsSome (content_of held name)

-- the name holds these bytes, where that is told
abbrev pub IsContent : Option Held → List ℕ → List ℕ → Type 0
IsContent None name bytes = Unit {0}
IsContent (Some held) name bytes = content_of held name ≡ Some bytes

-- the name holds more than this many bytes, where that is told
abbrev pub IsLonger : Option Held → List ℕ → ℕ → Type 0
IsLonger None name limit = Unit {0}
IsLonger (Some held) name limit =
    (bytes : List ℕ) × (content_of held name ≡ Some bytes) × (limit < length bytes)

-- the current file is this name's, at its first byte: where it is told what the names hold, the name holds
-- something, and that is what is left
abbrev pub BeginsAt : Option Held → List ℕ → Option (List ℕ) → Type 0
BeginsAt None name left = Unit {0}
BeginsAt (Some held) name left = (bytes : List ℕ) × (content_of held name ≡ Some bytes) × (left ≡ Some bytes)

-- what is left began with these bytes, and they are gone from it
abbrev pub GaveFront : Option (List ℕ) → Option (List ℕ) → List ℕ → Type 0
GaveFront None new bytes = Unit {0}
GaveFront (Some left) new bytes = (rest : List ℕ) × (left ≡ bytes ++ rest) × (new ≡ Some rest)

-- nothing is left, where that is told
abbrev pub AtEnd : Option (List ℕ) → Type 0
AtEnd None = Unit {0}
AtEnd (Some left) = left ≡ []

-- what is taken with these bytes behind it
abbrev pub appended : Option (List ℕ) → List ℕ → Option (List ℕ)
appended None bytes = None
appended (Some taken) bytes = Some (taken ++ bytes)

-- a front of the bytes was taken
abbrev pub TookFront : Option (List ℕ) → Option (List ℕ) → List ℕ → Type 0
TookFront old new bytes = (front rest : List ℕ) × (bytes ≡ front ++ rest) × (new ≡ appended old front)
