use Rattle.std.proofs.Common.{◌≡◌, Some}
use Rattle.std.specs.Prelude.{All}
use Rattle.tv_trace.specs.Meaning.{IsMoveOn}
use Rattle.tv_trace.specs.Reading.{moves_meant}
use Rattle.tv_trace.specs.Views.{step_marks}
use Rattle.tv_trace.proofs.read.moves.Given as goal

abbrev pub invariant-loop-step : goal.invariant-loop-step
invariant-loop-step l = record {
  meant : moves_meant l.program l.reader (step_marks l.bytes l.yielded) ≡ Some l.moves;
  kept : All (IsMoveOn l.program l.reader) l.moves;
}
