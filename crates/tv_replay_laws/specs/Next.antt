-- One step of a heap that is given by a two-valued structure: the new heap is given by a structure again,
-- whose individuals are the kept ones, numbered in their order.
use Rattle.std.specs.Prelude.{ℕ, ◌≡◌, ◌<◌, ◌↔◌, Bool, true, false, List, length, Option, Some, None, AllPairs}
use Rattle.std.specs.Prelude.{Contains, slice_index}
use Rattle.tv_model.specs.Heap.{Heap}
use Rattle.tv_model.specs.Program.{ProgramForm, ActionForm, UpdateForm, CFree}
use Rattle.tv_model.specs.Rules.{blank}
use Rattle.tv_model.specs.Step.{Keeps, StepsThrough, update_for, with_new}
use Rattle.tv_model.specs.Truth.{Assignment, put_all}
use Rattle.tv_structure_form.specs.StructureForm.{StructureForm, IsStructure, arities_of, value_at}
use Rattle.tv_structure_form.specs.TableForm.{AreIndividuals}
use Rattle.tv_two_valued.specs.TwoValued.{IsTwoValued, heap_of}
use Rattle.tv_renaming_laws.specs.Renamed.{renamed}

-- the picked variables, in their order, stand for the chosen individuals
abbrev pub picked_by : (picks chosen : List ℕ) → Assignment
picked_by picks chosen = put_all blank picks chosen

-- the middle heap of a step: the old one, or the old one with a further individual behind the others
abbrev pub middle_of : (fresh : Bool) → StructureForm → Heap
middle_of false s = heap_of s
middle_of true s = with_new (heap_of s) s.size

-- the individuals of the middle heap that the step keeps, in order
pub record AreRetained (action : ActionForm) (picked : Assignment) (s : StructureForm)
    (kept : List ℕ) : Type 0 where
  pub ascending : AllPairs ◌<◌ kept
  pub are : (u : ℕ) → Contains kept u
      ↔ (Contains (middle_of action.fresh s).individuals u
      × Keeps (middle_of action.fresh s) picked action.retain u)

-- individual k of the new heap is the k-th that is kept
abbrev pub kept_individual : (kept : List ℕ) → ℕ → ℕ
kept_individual kept k = slice_index kept k

-- the action leaves the predicate free
abbrev pub IsFreelyUpdated : ActionForm → ℕ → Type 0
IsFreelyUpdated action q = (w : UpdateForm) × (update_for q action.updates ≡ Some w) × (w.change ≡ CFree)

-- each freely updated predicate has the values of the given structure
abbrev pub HasGiven : ActionForm → (values : Option StructureForm) → (new : StructureForm) → Type 0
HasGiven action None new = (q : ℕ) → ¬ IsFreelyUpdated action q
HasGiven action (Some values) new =
    (q : ℕ) → IsFreelyUpdated action q → (tuple : List ℕ) → AreIndividuals new.size tuple
    → value_at new q tuple ≡ value_at values q tuple

-- new is what the action makes of s by the chosen individuals and the given values: a structure over the same
-- predicates, and the step of the model, from the heap of s to that of new, in which individual k is named as
-- the k-th kept individual
pub record IsNext (p : ProgramForm) (action : ActionForm) (chosen : List ℕ) (values : Option StructureForm)
    (s new : StructureForm) (kept : List ℕ) : Type 0 where
  pub are_kept : AreRetained action (picked_by action.picks chosen) s kept
  pub structure : IsStructure new
  pub over : arities_of new ≡ arities_of s
  pub size : new.size ≡ length kept
  pub two_valued : IsTwoValued new
  pub steps : StepsThrough p action (picked_by action.picks chosen) (heap_of s) (middle_of action.fresh s)
      (renamed (kept_individual kept) (heap_of new))
  pub given : HasGiven action values new
