-- What is written to the writer of a sink.
use Rattle.std.specs.Prelude.{ℕ, ◌≤◌, List, length, take, Option}
use Rattle.std.specs.Io.KnownBytes.{Appends}

-- the bytes that the writer has, where they are known, grew by a front of these
abbrev pub AppendsFront : (old new : Option (List ℕ)) → List ℕ → Type 0
AppendsFront old new bytes = (n : ℕ) × (n ≤ length bytes) × Appends old new (take n bytes)
