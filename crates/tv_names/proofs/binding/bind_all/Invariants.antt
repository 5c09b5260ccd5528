use Rattle.std.proofs.Common.{◌≡◌, take}
use Rattle.tv_names.specs.Refusal.{one_by_one}
use Rattle.tv_names.specs.Copies.{naming_of, place_form}
use Rattle.tv_names.specs.Binding.{begun, bind, bound_form}
use Rattle.tv_names.proofs.Loops.{left}
use Rattle.tv_names.proofs.binding.bind_all.Given as goal

-- what the names so far gave, and those that are left, give what all give
abbrev pub invariant-loop-at : goal.invariant-loop-at
invariant-loop-at l =
    one_by_one bind (begun (place_form l.place) (naming_of l.fn.naming)) l.names
    ≡ left bind (λ name. name) (bound_form l.bound (take l.at l.names) (naming_of l.naming)) l.at l.names
