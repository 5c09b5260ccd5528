-- Structures of which all places are noted.
use Rattle.std.specs.Prelude.{ℕ, ◌≡◌, ◌<◌, List, Some, map, slice_get}
use Rattle.tv_structure_form.specs.StructureForm.{StructureForm}
use Rattle.tv_cover.specs.Glance.{GlanceForm, glance_of}
use Rattle.tv_cover.specs.Noted.{IsNoted}
use Rattle.tv_cover.specs.declared.noted.Noted.{Noted}

-- the first n places are noted for what is said at a glance there
abbrev pub AreIndexedTo : Noted → List GlanceForm → (n : ℕ) → Type 0
AreIndexedTo noted glances n =
    (place : ℕ) (glance : GlanceForm) → place < n → slice_get glances place ≡ Some glance
    → IsNoted noted glance place

-- all places are
abbrev pub AreIndexed : Noted → List GlanceForm → Type 0
AreIndexed noted glances =
    (place : ℕ) (glance : GlanceForm) → slice_get glances place ≡ Some glance → IsNoted noted glance place

-- what the structures say at a glance
abbrev pub glances_of : List StructureForm → List GlanceForm
glances_of structures = map glance_of structures
