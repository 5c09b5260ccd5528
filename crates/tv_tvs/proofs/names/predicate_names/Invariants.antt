use Rattle.std.proofs.Common.{◌≡◌, map, take}
use Rattle.tv_tree.specs.Names.{names_of}
use Rattle.tv_tvs.proofs.names.predicate_names.Given as goal

abbrev pub invariant-loop-pred : goal.invariant-loop-pred
invariant-loop-pred l = names_of l.names.keys ≡ map (λ pred. pred.name) (take l.pred-index l.preds)
