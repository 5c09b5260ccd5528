-- the values so far are found
use Rattle.tv_row.specs.Places.{entry_in}
use Rattle.tv_quantifiers.specs.Rows.{part_at}
use Rattle.tv_quantifiers.proofs.Filled.{FilledTo}
use Rattle.tv_quantifiers.proofs.relation.Relation.part.Given as goal

abbrev pub invariant-loop-i : goal.invariant-loop-i
invariant-loop-i l = FilledTo l.chunk l.i (part_at l.part (entry_in l.self)) l.values
