-- Laws of two-valued structures, as statements.
use Rattle.std.specs.Prelude.{ℕ, ◌≡◌, ◌<◌, ◌↔◌, List, map, None, Contains}
use Rattle.tv_kleene.specs.declared.K3.TheVariants.{No, Yes}
use Rattle.tv_model.specs.Form.{Form}
use Rattle.tv_model.specs.Heap.{Holds}
use Rattle.tv_model.specs.Program.{ProgramForm}
use Rattle.tv_model.specs.Rules.{IsHeap}
use Rattle.tv_model.specs.Truth.{Assignment, Truth}
use Rattle.tv_structure_form.specs.StructureForm.{StructureForm, IsStructure, arities_of, value_at}
use Rattle.tv_structure_form.specs.StructureForm.{structure_of}
use Rattle.tv_eval_laws.specs.Laws.{GivesIndividuals}
use Rattle.tv_eval_laws.specs.Value.{value}
use Rattle.tv_two_valued.specs.TwoValued.{IsTwoValued, heap_of}

-- the individuals of a structure's heap are the structure's, and a predicate holds where it is Yes
pub record IsToldBy (s : StructureForm) : Type 0 where
  pub individuals : (u : ℕ) → Contains (heap_of s).individuals u ↔ (u < s.size)
  pub holds : (pred : ℕ) (tuple : List ℕ) → Holds (heap_of s) pred tuple ↔ (value_at s pred tuple ≡ Yes)

-- the structure is over the program's predicates and has no mark
abbrev pub IsOfProgram : ProgramForm → StructureForm → Type 0
IsOfProgram p s = (arities_of s ≡ map (λ d. d.arity) p.preds) × (s.fresh ≡ None)

pub record HeapsAreTold : Type 0 where
  pub told : (s : StructureForm) → IsStructure s → IsToldBy s
  pub heaps : (p : ProgramForm) (s : StructureForm) → IsStructure s → IsOfProgram p s → IsHeap p (heap_of s)

-- the value is Yes where the formula is true, and No where it isn't
pub record TellsTruthOf (s : StructureForm) (a : Assignment) (f : Form) : Type 0 where
  pub yes : value (structure_of s) a f ≡ Yes ↔ Truth (heap_of s) a f
  pub no : value (structure_of s) a f ≡ No ↔ (¬ Truth (heap_of s) a f)

abbrev pub TruthIsTold : Type 0
TruthIsTold =
    (s : StructureForm) (a : Assignment) (f : Form) → IsStructure s → IsTwoValued s
    → GivesIndividuals (heap_of s).individuals f a → TellsTruthOf s a f
