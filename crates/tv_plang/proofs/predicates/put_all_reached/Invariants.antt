use Rattle.std.proofs.Common.{◌≡◌, ◌++◌, map, length}
use Rattle.std.specs.List.{flat_map}
use Rattle.tv_model.specs.Program.{pred_of}
use Rattle.tv_source.specs.Copies.{source_of}
use Rattle.tv_plang_laws.specs.Compiled.{numbers_below, reach_pred}
use Rattle.tv_plang.proofs.predicates.put_all_reached.Given as goal

abbrev pub invariant-loop-f : goal.invariant-loop-f
invariant-loop-f l =
    map pred_of l.out.items
    ≡ map pred_of l.initial.out.items
    ++ flat_map (λ f. map (reach_pred (source_of l.source) f) (numbers_below (length (source_of l.source).variables))) (numbers_below l.f)
