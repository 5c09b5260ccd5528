-- What a stage of focus made of a structure.
use Rattle.std.specs.Prelude.{ℕ, ◌≡◌, ◌≤◌, List, [], ◌∷◌, map}
use Rattle.tv_structure_form.specs.StructureForm.{StructureForm, structure_of}
use Rattle.tv_focus_laws.specs.Choices.{SplitForm, Nothing, Whole, Each, choices, sets_in}
use Rattle.tv_focus_laws.specs.Counts.{largest_size}
use Rattle.tv_focus_laws.specs.Written.{chosen_table}
use Rattle.tv_focus_step_laws.specs.Above.{IsAim}
use Rattle.tv_focus.specs.Anchored.{IsAimOver}
use Rattle.tv_focus.specs.Seen.{aim_of}
use Rattle.tv_focus.specs.declared.focused.Choosing.{Choosing}
use Rattle.tv_focus.specs.declared.focused.Focused.{Focused}
use Rattle.tv_focus.specs.declared.focused.Focused.TheVariants.{Same, Choices, Many}

-- the tables of choices that aren't made yet, in order
abbrev pub tables_in : StructureForm → Choosing → List StructureForm
tables_in s c =
    map (chosen_table s c.pred.0 (aim_of c.aim)) (choices (structure_of s) c.pred.0 (aim_of c.aim))

-- the sets are those of the structure's choices, none of which has over 256 copies
pub record IsChoosing (s : StructureForm) (c : Choosing) : Type 0 where
  pub aim : IsAim s c.pred.0 (aim_of c.aim)
  pub over : IsAimOver s c.pred.0 (aim_of c.aim)
  pub sets : c.sets.items ≡ sets_in (structure_of s) c.pred.0 (aim_of c.aim)
  pub small : largest_size (structure_of s) c.pred.0 (aim_of c.aim) ≤ 256

-- the structure that was focused
abbrev pub focused_from : Focused → StructureForm
focused_from (Same s) = s
focused_from (Choices s ts) = s
focused_from (Many s c) = s

-- what became of it, or what its choices stand for, in order
abbrev pub structures_in : Focused → List StructureForm
structures_in (Same s) = s ∷ []
structures_in (Choices s ts) = ts
structures_in (Many s c) = tables_in s c

-- what isn't made yet can be
abbrev pub CanBeMade : Focused → Type 0
CanBeMade (Same s) = Unit {0}
CanBeMade (Choices s ts) = Unit {0}
CanBeMade (Many s c) = IsChoosing s c

-- the split's aim is that of a stage
abbrev pub IsSplitAim : StructureForm → (pred : ℕ) → SplitForm → Type 0
IsSplitAim s pred Nothing = Unit {0}
IsSplitAim s pred Whole = Unit {0}
IsSplitAim s pred (Each aim) = IsAim s pred aim
