use Rattle.std.proofs.Common.{◌≡◌, map}
use Rattle.tv_model.specs.Program.{program_of}
use Rattle.tv_report.specs.Lines.{message_key, AreMessageLines}
use Rattle.tv_report.specs.Views.{message_lines}
use Rattle.tv_report.proofs.lines.message_list.Given as goal

abbrev pub invariant-loop-found : goal.invariant-loop-found
invariant-loop-found l = record {
  seen : l.seen.keys ≡ map message_key (message_lines l.yielded);
  lines : l.lines ≡ message_lines l.yielded;
  kept : AreMessageLines (program_of l.program) (message_lines l.yielded);
}
