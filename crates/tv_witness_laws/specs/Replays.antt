-- Replays whose states show a run, all of them small.
use Rattle.std.specs.Prelude.{ℕ, ◌≤◌, List, [], ◌∷◌, All, IsSome}
use Rattle.tv_model.specs.declared.program.Mode.{Mode}
use Rattle.tv_model.specs.declared.program.Mode.TheVariants.{Given, Recompute}
use Rattle.tv_replay_laws.specs.Runs.{IsUnbroken, MeetsRules}
use Rattle.tv_replay_laws.specs.declared.state.State.{State}

abbrev pub last_shown : State → List State → State
last_shown x [] = x
last_shown x (y ∷ later) = last_shown y later

abbrev pub IsSmallState : (cells : ℕ) → State → Type 0
IsSmallState cells x = x.heap.size ≤ cells

-- where updates are taken as given, nothing is broken; where definitions are evaluated anew, only those of
-- the first state count
abbrev pub IsUnbrokenIn : Mode → State → List State → Type 0
IsUnbrokenIn Given first later = All IsUnbroken (first ∷ later)
IsUnbrokenIn Recompute first later = IsUnbroken first

-- the replay begins with a heap of an initial structure, and nothing speaks against its being a run
pub record IsAcceptedReplay (mode : Mode) (first : State) (later : List State) : Type 0 where
  pub initial : IsSome first.initial
  pub rules : All MeetsRules (first ∷ later)
  pub unbroken : IsUnbrokenIn mode first later
