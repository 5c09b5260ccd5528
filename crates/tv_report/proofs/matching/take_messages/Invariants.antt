use Rattle.std.proofs.Common.{◌≡◌, map}
use Rattle.tv_model.specs.Program.{program_of}
use Rattle.tv_report.specs.Lines.{IsMessageLine, message_key}
use Rattle.tv_report.specs.Once.{AreOnce}
use Rattle.tv_report.proofs.matching.take_messages.Given as goal

abbrev pub invariant-loop : goal.invariant-loop
invariant-loop l = record {
  seen : l.seen.keys ≡ map message_key l.lines;
  kept : AreOnce (IsMessageLine (program_of l.program)) message_key l.lines;
}
