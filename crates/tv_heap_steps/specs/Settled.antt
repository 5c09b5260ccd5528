-- Actions that leave no predicate free.
use Rattle.std.specs.Prelude.{◌≢◌, List, All}
use Rattle.tv_model.specs.Program.{ActionForm, UpdateForm, CFree}

-- no update of the list leaves its predicate free
abbrev pub AreSettled : List UpdateForm → Type 0
AreSettled updates = All (λ w. w.change ≢ CFree) updates

-- no action of the list does
abbrev pub AreAllSettled : List ActionForm → Type 0
AreAllSettled actions = All (λ action. AreSettled action.updates) actions
