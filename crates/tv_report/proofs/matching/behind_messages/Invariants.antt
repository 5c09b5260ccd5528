use Rattle.std.proofs.Common.{◌≡◌, ◌++◌, take}
use Rattle.std.specs.List.{flat_map}
use Rattle.tv_model.specs.Program.{program_of}
use Rattle.tv_report.specs.Text.{message_text}
use Rattle.tv_report.proofs.matching.behind_messages.Given as goal

abbrev pub invariant-loop-line : goal.invariant-loop-line
invariant-loop-line l = l.bytes ≡ flat_map (message_text (program_of l.program)) (take l.line-index l.lines) ++ l.rest
