-- Definitions that wait for those inside them.
use Rattle.std.specs.Prelude.{ℕ, zero, suc, ◌≡◌, ◌+◌, ◌*◌, ◌≤◌, List, [], ◌∷◌, length}
use Rattle.tv_model.specs.Form.{vars_of}
use Rattle.tv_model.specs.Program.{program_of}
use Rattle.tv_delta.specs.Opening.{Starts}
use Rattle.tv_delta.specs.declared.opening.Opening.{Opening}
use Rattle.tv_delta.specs.declared.atoms.Start.TheVariants.{Inside}
use Rattle.tv_delta.specs.declared.lowest.Waiting.{Waiting}
use Rattle.tv_delta.specs.declared.lowest.Sight.{Sight}
use Rattle.tv_delta.specs.declared.lowest.Sight.TheVariants.{Known, Opened}

-- the atom has the delta of the definition that is opened, and few atoms are left in it
pub record IsWaiting (o : Opening) (w : Waiting) : Type 0 where
  pub starts : Starts o (length (program_of o.program.now).preds) w.atom.pred.0 (vars_of w.atom.args)
      (Inside w.opened)
  pub few : length w.left.items ≤ 65536

abbrev pub IsSight : Opening → (room : ℕ) → Sight → Type 0
IsSight o room (Known formed) = Unit {0}
IsSight o room (Opened w) = IsWaiting o w × (w.room ≡ room)

-- More than all that may be opened inside a definition with so much room: as many as it has atoms, at most
-- 65,536, each with less room.
abbrev pub power : ℕ → ℕ
power zero = 1
power (suc room) = 65538 * power room

-- what is left to be looked at
abbrev pub weight : List Waiting → ℕ
weight [] = 0
weight (w ∷ stack) = (length w.left.items + 1) * power w.room + weight stack
