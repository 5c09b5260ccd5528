-- Updates, made one after the other.
use Rattle.std.specs.Prelude.{ℕ, ◌≡◌, ◌<◌, ◌≤◌, List, length, map, Option, None, Some, All, Contains}
use Rattle.std.specs.List.{range_with_len}
use Rattle.tv_kleene.specs.declared.K3.{K3}
use Rattle.tv_model.specs.declared.program.Mode.{Mode}
use Rattle.tv_model.specs.declared.program.Action.{Action}
use Rattle.tv_model.specs.declared.program.Program.{Program}
use Rattle.tv_model.specs.Program.{ProgramForm, RetainForm, UpdateForm, ChangeForm, CFree, CTo, action_of}
use Rattle.tv_model.specs.Program.{program_of}
use Rattle.tv_model.specs.Step.{update_for}
use Rattle.tv_model.specs.Truth.{Assignment}
use Rattle.tv_model.specs.Valid.{IsValid}
use Rattle.tv_embedding_laws.specs.LogicalStructure.{LogicalStructure}
use Rattle.tv_struct.specs.declared.analysis.StageError.{StageError}
use Rattle.tv_struct.specs.declared.analysis.StageError.TheVariants.{Splits, Individuals, Memory}
use Rattle.tv_structure_form.specs.Halves.{row_halves}
use Rattle.tv_structure_form.specs.TableForm.{AreIndividuals}
use Rattle.tv_structure_form.specs.StructureForm.{StructureForm, IsOver, structure_of, value_at}
use Rattle.tv_struct.specs.StructureRows.{HasArity}
use Rattle.tv_eval.specs.AssignmentForm.{IsAssigned}
use Rattle.tv_eval.specs.ScratchForm.{ScratchForm, IsMadeFor}
use Rattle.tv_update_laws.specs.Applied.{keep_value, updated_value, used_update, kind_at}
use Rattle.tv_update.specs.Rows.{IsLike, CanFill}

-- of these updates, that of the predicate q, if it counts
abbrev pub used_in : ProgramForm → Mode → List UpdateForm → ℕ → Option UpdateForm
used_in p mode updates q = used_update mode (kind_at p q) (update_for q updates)

-- the value that the update gives at the tuple, or else k
abbrev pub updated_or : (middle : LogicalStructure) → Assignment → Option UpdateForm → (tuple : List ℕ) → K3
    → K3
updated_or middle picks None tuple k = k
updated_or middle picks (Some w) tuple k = updated_value middle picks w tuple

-- t is s, in which the updates are made that count, all read in the middle structure
pub record AreMade (p : ProgramForm) (mode : Mode) (middle : StructureForm) (picks : Assignment)
    (updates : List UpdateForm) (s t : StructureForm) : Type 0 where
  pub like : IsLike s t
  pub values : (q : ℕ) (tuple : List ℕ) → AreIndividuals s.size tuple
      → value_at t q tuple
      ≡ updated_or (structure_of middle) picks (used_in p mode updates q) tuple (value_at s q tuple)

-- the formula of the change, if it has one, can be evaluated at all tuples for its variables
abbrev pub CanChange : StructureForm → List (Option ℕ) → (vars : List ℕ) → ScratchForm → ChangeForm → Type 0
CanChange s places vars room CFree = Unit {0}
CanChange s places vars room (CTo f) = CanFill s places vars room f

-- so can that of the update, which has a variable for each place of its predicate
pub record CanMake (s : StructureForm) (places : List (Option ℕ)) (room : ScratchForm)
    (w : UpdateForm) : Type 0 where
  pub arity : HasArity s w.pred (length w.vars)
  pub change : CanChange s places w.vars room w.change

-- the action of the program can be applied to the structure, with this room
pub record CanApply (program : Program) (action : Action) (places : List (Option ℕ)) (s : StructureForm)
    (room : ScratchForm) : Type 0 where
  pub valid : IsValid (program_of program)
  pub is_action : Contains (program_of program).actions (action_of action)
  pub over : IsOver program.vocab s
  pub small : s.size ≤ 256
  pub picks : All (IsAssigned s.size places) (action_of action).picks
  pub made : IsMadeFor (program_of program) 256 room

-- the values of the retain formula, individual by individual
abbrev pub keep_values : StructureForm → Assignment → Option RetainForm → List K3
keep_values s picks retain = map (keep_value (structure_of s) picks retain) (range_with_len 0 s.size)

-- why nothing is made of the middle structure: too many unknown values, or lack of memory
abbrev pub IsPrepareCause : List K3 → StageError → Type 0
IsPrepareCause values Splits = 12 < row_halves values
IsPrepareCause values Individuals = ⊥
IsPrepareCause values Memory = Unit {0}
