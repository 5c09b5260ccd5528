-- The values of a precondition, by rows.
use Rattle.std.specs.Prelude.{ℕ, List, map}
use Rattle.std.specs.List.{range_with_len}
use Rattle.tv_kleene.specs.declared.K3.{K3}
use Rattle.tv_model.specs.Program.{ActionForm}
use Rattle.tv_model.specs.Truth.{Assignment, put}
use Rattle.tv_structure_form.specs.StructureForm.{StructureForm, structure_of}
use Rattle.tv_update_laws.specs.Picks.{precondition_value}

-- the values of the precondition at each individual, put for v
abbrev pub precondition_values : ActionForm → StructureForm → Assignment → (v : ℕ) → List K3
precondition_values action s a v =
    map (λ u. precondition_value (structure_of s) (put a v u) action.pre) (range_with_len 0 s.size)
