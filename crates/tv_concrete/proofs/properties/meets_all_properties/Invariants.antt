-- The properties of each predicate so far are met.
use Rattle.std.proofs.Common.{All}
use Rattle.tv_model.specs.Rules.{MeetsRule, property_rules}
use Rattle.tv_concrete.specs.Lists.{heap_of}
use Rattle.tv_concrete.proofs.EachPreds.{FirstPreds}
use Rattle.tv_concrete.proofs.properties.meets_all_properties.Given as goal

abbrev pub invariant-loop-q : goal.invariant-loop-q
invariant-loop-q l = FirstPreds (λ q d. All (MeetsRule (heap_of l.heap)) (property_rules q d.props)) l.preds l.q
