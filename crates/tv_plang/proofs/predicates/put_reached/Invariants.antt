use Rattle.std.proofs.Common.{◌≡◌, ◌++◌, map}
use Rattle.tv_model.specs.Program.{pred_of}
use Rattle.tv_source.specs.Copies.{source_of}
use Rattle.tv_plang_laws.specs.Compiled.{numbers_below, reach_pred}
use Rattle.tv_plang.proofs.predicates.put_reached.Given as goal

abbrev pub invariant-loop-x : goal.invariant-loop-x
invariant-loop-x l = map pred_of l.out.items ≡ map pred_of l.initial.out.items ++ map (reach_pred (source_of l.source) l.f) (numbers_below l.x)
