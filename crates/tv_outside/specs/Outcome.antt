-- What a reading of a whole name says, answer by answer.
use Rattle.std.specs.Prelude.{◌≡◌, ℕ, ◌+◌, ◌≤◌, ◌⊎◌, List, length, Option, Result, Ok, Err}
use Rattle.std.specs.declared.vec.Vec.{Vec}
use Rattle.std.specs.declared.alloc.Global.{Global}
use Rattle.tv_outside.specs.declared.read.ReadError.{ReadError}
use Rattle.tv_outside.specs.declared.read.ReadError.TheVariants.{Failed, TooLong, Memory}
use Rattle.tv_outside.specs.Count.{Rose}
use Rattle.tv_outside.specs.Told.{Held, HoldsName, IsLonger}

-- Why a name wasn't read: a fault was counted, and on steady files the name holds nothing; or it holds more
-- than the limit; or lack of memory, of which nothing is said.
abbrev pub ReadCause : ReadError → Option Held → List ℕ → ℕ → Type 0 → ℕ → ℕ → Type 0
ReadCause Failed told name limit steady old new = Rose old new × (steady → ¬ HoldsName told name)
ReadCause TooLong told name limit steady old new = IsLonger told name limit
ReadCause Memory told name limit steady old new = Unit {0}

-- How many bytes the files gave after the name was begun. At `Failed` the begin may have failed, and then the
-- number is the old one.
abbrev pub ReadsAtMost : Result (Vec ℕ Global) ReadError → ℕ → ℕ → ℕ → Type 0
ReadsAtMost (Ok bytes) limit old new = (new ≡ length bytes.items) × (new ≤ limit)
ReadsAtMost (Err Failed) limit old new = (new ≡ old) ⊎ (new ≤ limit)
ReadsAtMost (Err TooLong) limit old new = new ≡ limit + 1
ReadsAtMost (Err Memory) limit old new = new ≤ limit

-- this holds at any answer but `Failed`
abbrev pub UnlessFailed : {T : Type 0} → Result T ReadError → Type 0 → Type 0
UnlessFailed (Ok value) P = P
UnlessFailed (Err Failed) P = Unit {0}
UnlessFailed (Err TooLong) P = P
UnlessFailed (Err Memory) P = P
