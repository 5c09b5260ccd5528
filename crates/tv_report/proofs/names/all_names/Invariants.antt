use Rattle.std.proofs.Common.{◌≡◌, take}
use Rattle.tv_tvs.specs.Views.{names_of}
use Rattle.tv_report.proofs.names.all_names.Given as goal

abbrev pub invariant-loop-name : goal.invariant-loop-name
invariant-loop-name l = names_of l.found.keys ≡ take l.name-index l.names
