use Rattle.std.proofs.Common.{◌≡◌, drop}
use Rattle.std.specs.Prelude.{◌==◌}
use Rattle.std.specs.List.{list_all}
use Rattle.tv_tvs.specs.Views.{text_arity}
use Rattle.tv_tvs.proofs.build.each_has.Given as goal

abbrev pub invariant-loop-item : goal.invariant-loop-item
invariant-loop-item l =
    list_all (λ item. text_arity item == l.arity) l.items ≡ list_all (λ item. text_arity item == l.arity) (drop l.item-index l.items)
