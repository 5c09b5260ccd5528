-- Those so far came of the definition.
use Rattle.std.proofs.Common.{All}
use Rattle.tv_model.specs.Program.{kind_of}
use Rattle.tv_rules.specs.Defining.{IsOfDefinition}
use Rattle.tv_rules.proofs.closed.Closed.defining.Given as goal

abbrev pub invariant-loop-number : goal.invariant-loop-number
invariant-loop-number l = All (IsOfDefinition l.self l.p.0 (kind_of l.kind)) l.numbers
