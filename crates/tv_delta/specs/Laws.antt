-- Laws of differencing in a program, as statements.
use Rattle.std.specs.Prelude.{ℕ, ◌≡◌, ◌<◌, ◌≤◌, List, Bool, length}
use Rattle.tv_model.specs.Program.{ProgramForm, ActionForm}
use Rattle.tv_model.specs.Valid.{IsValid}
use Rattle.tv_delta_laws.specs.Deltas.{atom_delta}
use Rattle.tv_delta_laws.specs.Putting.{Reserved}

-- No definition rests on itself, so as many as there are predicates, one inside the other, are enough:
-- through more of them no other delta is formed.
abbrev pub DepthIsEnough : Type 0
DepthIsEnough =
    (p : ProgramForm) (action : ActionForm) (r : Reserved) (affected : List Bool) (n q : ℕ) (args : List ℕ)
    → IsValid p → q < length p.preds → length p.preds ≤ n
    → atom_delta n p action r affected q args ≡ atom_delta (length p.preds) p action r affected q args
