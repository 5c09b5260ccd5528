-- Each tuple so far is as defined.
use Rattle.std.specs.List.{AllWithin}
use Rattle.tv_model.specs.Program.{kind_of}
use Rattle.tv_model.specs.Rules.{MeetsDefinition}
use Rattle.tv_concrete.specs.Lists.{heap_of}
use Rattle.tv_concrete.proofs.shape.is_as_defined.Given as goal

abbrev pub invariant-loop-tuple : goal.invariant-loop-tuple
invariant-loop-tuple l = AllWithin (MeetsDefinition (heap_of l.heap) l.q
    (kind_of l.pred.kind)) l.tuple-items 0 l.tuple-index
