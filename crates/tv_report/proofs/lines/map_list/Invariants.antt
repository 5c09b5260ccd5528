use Rattle.std.proofs.Common.{◌≡◌, map}
use Rattle.tv_model.specs.Program.{program_of}
use Rattle.tv_report.specs.Lines.{map_key, AreMapLines}
use Rattle.tv_report.specs.Views.{map_lines}
use Rattle.tv_report.proofs.lines.map_list.Given as goal

abbrev pub invariant-loop-found : goal.invariant-loop-found
invariant-loop-found l = record {
  seen : l.seen.keys ≡ map map_key (map_lines l.yielded);
  lines : l.lines ≡ map_lines l.yielded;
  kept : AreMapLines (program_of l.program) l.listing (map_lines l.yielded);
}
