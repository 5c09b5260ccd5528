-- What a move leads to, and why it can't be made.
use Rattle.std.specs.Prelude.{ℕ, Option, ⊤}
use Rattle.std.specs.Option.{option_map}
use Rattle.tv_model.specs.Program.{ProgramForm}
use Rattle.tv_renaming_laws.specs.Renamed.{renamed}
use Rattle.tv_replay_laws.specs.Judged.{AgreesAt, IsFirst}
use Rattle.tv_replay_laws.specs.Next.{middle_of, kept_individual, picked_by}
use Rattle.tv_replay_laws.specs.Stuck.{IsFirstFailure, Moves, Standing, Taken}
use Rattle.tv_replay_step.specs.declared.moved.Halt.{Halt}
use Rattle.tv_replay_step.specs.declared.moved.Halt.TheVariants.{Memory, Stuck}
use Rattle.tv_replay_step.specs.declared.moved.Moved.{Moved}
use Rattle.tv_trace.specs.declared.trace.Move.{Move}
use Rattle.tv_two_valued.specs.TwoValued.{heap_of}

-- where the step leads
abbrev pub standing_of : Moved → Standing
standing_of x = record { node = x.node; heap = x.heap }

-- the number of the predicate that is broken
abbrev pub broken_by : Moved → Option ℕ
broken_by x = option_map (λ p. p.0) x.broken

-- the move is made, this is where it leads, and the first given update that isn't so at it
pub record IsMoved (p : ProgramForm) (move : Move) (at : Standing) (x : Moved) : Type 0 where
  pub moves : Moves p move at (standing_of x)
  pub broken : IsFirst p.preds
      (AgreesAt moves.taken.action (picked_by moves.taken.action.picks move.picks)
      (middle_of moves.taken.action.fresh at.heap)
      (renamed (kept_individual moves.kept) (heap_of x.heap)))
      (broken_by x)

-- the move can't be made, for that reason, the first that holds
abbrev pub Halts : ProgramForm → Move → Standing → Halt → Type 0
Halts p move at (Stuck why) = (t : Taken p move) × IsFirstFailure at move t why
Halts p move at Memory = ⊤
