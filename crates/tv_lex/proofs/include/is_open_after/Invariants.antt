use Rattle.std.proofs.Common.{◌≡◌, take}
use Rattle.std.specs.List.{fold}
use Rattle.tv_lex.specs.Include.{next_scan, scan_start}
use Rattle.tv_lex.proofs.include.is_open_after.Given as goal

abbrev pub invariant-loop-b : goal.invariant-loop-b
invariant-loop-b l = l.scan ≡ fold next_scan (scan_start l.inside) (take l.b-index l.line)
