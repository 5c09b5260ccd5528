-- A law of focus, as a statement.
use Rattle.std.specs.Prelude.{ℕ, ◌≡◌, ◌≢◌, List, [], ◌∷◌, Contains}
use Rattle.tv_kleene.specs.declared.K3.TheVariants.{Half}
use Rattle.tv_model.specs.Form.{Form}
use Rattle.tv_embedding_laws.specs.LogicalStructure.{LogicalStructure}
use Rattle.tv_structure_form.specs.StructureForm.{StructureForm, IsStructure, structure_of}
use Rattle.tv_focus_laws.specs.Choices.{SplitForm, Nothing, Whole, Each}
use Rattle.tv_focus_laws.specs.Counts.{halves_at}
use Rattle.tv_focus_laws.specs.Stages.{atom_at, split_at}
use Rattle.tv_focus_laws.specs.Tables.{AreStage}

-- no value that the split aims at is unknown
abbrev pub IsSharp : LogicalStructure → (pred : ℕ) → SplitForm → Type 0
IsSharp s pred Nothing = Unit {0}
IsSharp s pred Whole = s.value pred [] ≢ Half
IsSharp s pred (Each aim) = (u : ℕ) → Contains s.individuals u → halves_at s pred aim u ≡ 0

-- an atom whose values are known gives the structure itself
abbrev pub SharpAtomsStay : Type 0
SharpAtomsStay =
    (s : StructureForm) (f : Form) (k : ℕ) (ts : List StructureForm) → IsStructure s
    → IsSharp (structure_of s) (atom_at f k).pred (split_at (structure_of s) f k) → AreStage s f k ts
    → ts ≡ s ∷ []
