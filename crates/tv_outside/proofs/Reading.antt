-- A file that is read piece by piece.
use Rattle.std.proofs.Common.{◌≡◌, ◌≤◌, ℕ, List, ◌++◌, length, Option, Some, None}
use Rattle.tv_outside.specs.Told.{Held, content_of}

-- of what the name holds these bytes were read, and this is left
abbrev pub Reads : Option Held → List ℕ → List ℕ → Option (List ℕ) → Type 0
Reads None name bytes left = Unit {0}
Reads (Some held) name bytes left =
    (rest : List ℕ) × (content_of held name ≡ Some (bytes ++ rest)) × (left ≡ Some rest)

-- what a file that is being read keeps
pub record IsReading (told : Option Held) (name bytes : List ℕ) (left : Option (List ℕ)) (given_now limit : ℕ) : Type 0 where
  pub reads : Reads told name bytes left
  pub given : given_now ≡ length bytes
  pub within : length bytes ≤ limit
