-- The words for fates are true, as a statement.
use Rattle.std.specs.Prelude.{ℕ, ◌≡◌, Bool, List, map, All, Contains}
use Rattle.tv_model.specs.declared.program.Mode.{Mode}
use Rattle.tv_model.specs.Form.{Form}
use Rattle.tv_model.specs.Program.{ActionForm, KDefined, ProgramForm}
use Rattle.tv_model.specs.Truth.{Assignment}
use Rattle.tv_model.specs.Valid.{IsValid}
use Rattle.tv_embedding_laws.specs.LogicalStructure.{LogicalStructure}
use Rattle.tv_update_laws.specs.Applied.{IsNew, MovesIndividuals, defined_value, kind_at, updated_value}
use Rattle.tv_plan.specs.Fates.{FateForm, Updated, Kept, EvaluatedAnew, HasFate}

-- what its fate says of the value that the predicate q, which is defined so, has in the new structure at a
-- tuple: where the tuple comes from others, it is what the written update gives for these in the middle
-- structure; or what the predicate had there, and no individual comes or goes; or it is what the definition
-- gives in the new structure
abbrev pub IsAsFated : ActionForm → Assignment → (middle new : LogicalStructure) → (vars : List ℕ) → Form
    → FateForm → (q : ℕ) → (origin tuple : List ℕ) → Type 0
IsAsFated action picks middle new vars body (Updated w) q origin tuple =
    new.value q tuple ≡ updated_value middle picks w origin
IsAsFated action picks middle new vars body Kept q origin tuple =
    (new.value q tuple ≡ middle.value q origin) × (¬ MovesIndividuals action)
IsAsFated action picks middle new vars body EvaluatedAnew q origin tuple =
    new.value q tuple ≡ defined_value new vars body tuple

-- in each new structure that the action gives each defined predicate has values as it is fated
abbrev pub FatesAreTrue : Type 0
FatesAreTrue =
    (p : ProgramForm) → IsValid p → (mode : Mode) (action : ActionForm) (q : ℕ) (fate : FateForm)
    → HasFate p mode action q fate → (vars : List ℕ) (body : Form) → kind_at p q ≡ KDefined vars body
    → (picks : Assignment) (middle : LogicalStructure) (keep : ℕ → Bool) (new : LogicalStructure)
    → (is : IsNew p mode action picks middle keep new)
    → (tuple : List ℕ) → All (Contains new.individuals) tuple
    → IsAsFated action picks middle new vars body fate q (map is.origin tuple) tuple
