use Rattle.std.proofs.Common.{◌≡◌, ◌++◌}
use Rattle.std.specs.Prelude.{codes}
use Rattle.std.specs.List.{flat_map, range_with_len}
use Rattle.tv_show.specs.Line.{individual_text}
use Rattle.tv_show.proofs.line.append_individuals.Given as goal

abbrev pub invariant-loop-u : goal.invariant-loop-u
invariant-loop-u l =
    l.out.items ≡ l.initial.out.items ++ flat_map (λ u. codes "  " ++ individual_text l.preds l.s u) (range_with_len 0 l.u)
