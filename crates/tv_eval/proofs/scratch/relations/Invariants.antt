use Rattle.std.proofs.Common.{◌≡◌, replicate}
use Rattle.tv_eval.specs.Formulas.{sizes_of}
use Rattle.tv_eval.proofs.scratch.relations.Given as goal

abbrev pub invariant-loop : goal.invariant-loop
invariant-loop l = sizes_of l.rooms.items ≡ replicate l.counter l.size
