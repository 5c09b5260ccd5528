-- What is listed: structures of which no two at a node have one key, each the join of all that were met.
use Rattle.std.specs.Prelude.{ℕ, ◌≡◌, List, Some, slice_get}
use Rattle.tv_model.specs.Program.{ProgramForm}
use Rattle.tv_structure_form.specs.StructureForm.{StructureForm}
use Rattle.tv_join.specs.Keys.{key_of, IsJoinOf, HasKey}

-- the listed structures are the joins by key of those of X, one for each key
pub record AreJoins (p : ProgramForm) (X : StructureForm → Type 0)
    (listed : List StructureForm) : Type 0 where
  pub covered : (s : StructureForm) → X s
      → (i : ℕ) × (t : StructureForm) × (slice_get listed i ≡ Some t) × (key_of p s ≡ key_of p t)
  pub joins : (i : ℕ) (t : StructureForm) → slice_get listed i ≡ Some t
      → IsJoinOf p (HasKey p X (key_of p t)) t
  pub used : (i : ℕ) (t : StructureForm) → slice_get listed i ≡ Some t
      → (s : StructureForm) × HasKey p X (key_of p t) s
  pub own : (i j : ℕ) (s t : StructureForm) → slice_get listed i ≡ Some s → slice_get listed j ≡ Some t
      → key_of p s ≡ key_of p t → i ≡ j
