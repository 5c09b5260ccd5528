-- What becomes of the value of a defined predicate behind an action (compare Sagiv, Reps and Wilhelm 2002,
-- section 5: predicate-update formulas).
use Rattle.std.specs.Prelude.{ℕ, ◌≡◌, Bool, true, false, Option, None, Some}
use Rattle.tv_model.specs.declared.program.Mode.{Mode}
use Rattle.tv_model.specs.Program.{ActionForm, ProgramForm, UpdateForm}
use Rattle.tv_update_laws.specs.Applied.{AreChanged, update_at}

-- it comes of an update that is written, or it is kept, or it is evaluated anew, by the definition
pub data FateForm : Type 0 where
  Updated : UpdateForm → FateForm
  Kept : FateForm
  EvaluatedAnew : FateForm

-- an update that counts goes before; without one, a value is kept unless its predicate is changed
abbrev pub fate_of : Option UpdateForm → (changed : Bool) → FateForm
fate_of (Some w) changed = Updated w
fate_of None true = EvaluatedAnew
fate_of None false = Kept

-- the fate of the predicate of this number, where these predicates are changed
abbrev pub fate_at : ProgramForm → Mode → ActionForm → (changed : ℕ → Bool) → (q : ℕ) → FateForm
fate_at p mode action changed q = fate_of (update_at p mode action q) (changed q)

-- the fate of the predicate behind the action: what it changes is told by `AreChanged`
abbrev pub HasFate : ProgramForm → Mode → ActionForm → (q : ℕ) → FateForm → Type 0
HasFate p mode action q fate =
    (changed : ℕ → Bool) × AreChanged p mode action changed × (fate ≡ fate_at p mode action changed q)
