-- How values of a predicate changed.
use Rattle.std.specs.Prelude.{ℕ, ◌≡◌, ◌<◌, ◌⊎◌, Bool, true, false, IsTrue, List}
use Rattle.tv_kleene.specs.declared.K3.{K3}
use Rattle.tv_kleene.specs.declared.K3.TheVariants.{No, Yes}
use Rattle.tv_structure_form.specs.StructureForm.{StructureForm, summary_at, value_at}
use Rattle.tv_structure_form.specs.TableForm.{AreIndividuals}
use Rattle.tv_coerce_sets.specs.declared.turned.Turned.{Turned}

-- the structures have the same individuals and the same summaries
pub record AreAlike (s t : StructureForm) : Type 0 where
  pub size : s.size ≡ t.size
  pub summaries : (u : ℕ) → u < s.size → summary_at s u ≡ summary_at t u

-- the predicate has the same values in both
abbrev pub HasSameValues : (pred : ℕ) → (s t : StructureForm) → Type 0
HasSameValues pred s t =
    (tuple : List ℕ) → AreIndividuals s.size tuple → value_at s pred tuple ≡ value_at t pred tuple

-- the definite value that the flag tells
abbrev pub known : Bool → K3
known true = Yes
known false = No

-- where a definite value came, in y for x, or went, the flag for that is set
pub record Tells (turned : Turned) (x y : K3) : Type 0 where
  pub to_yes : y ≡ Yes → (x ≡ Yes) ⊎ IsTrue turned.to_yes
  pub to_no : y ≡ No → (x ≡ No) ⊎ IsTrue turned.to_no
  pub from_yes : x ≡ Yes → (y ≡ Yes) ⊎ IsTrue turned.from_yes
  pub from_no : x ≡ No → (y ≡ No) ⊎ IsTrue turned.from_no

-- so it is with the predicate's values in s and in t
abbrev pub HasTurned : Turned → (pred : ℕ) → (s t : StructureForm) → Type 0
HasTurned turned pred s t =
    (tuple : List ℕ) → AreIndividuals s.size tuple
    → Tells turned (value_at s pred tuple) (value_at t pred tuple)
