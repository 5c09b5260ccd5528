-- What an analysis is asked.
use Rattle.std.specs.Prelude.{ℕ, ◌≡◌, List, length, All}
use Rattle.tv_model.specs.declared.program.Mode.{Mode}
use Rattle.tv_model.specs.Program.{ProgramForm, program_of}
use Rattle.tv_model.specs.Valid.{IsValid}
use Rattle.tv_step.specs.EngineForm.{EngineForm}
use Rattle.tv_structure_form.specs.StructureForm.{StructureForm, IsOver}
use Rattle.tv_work.specs.Leaving.{AreLeaving}
use Rattle.tv_work.specs.Reach.{Point, IsReached, IsReachedWithin}
use Rattle.tv_work.specs.declared.task.Task.{Task}

-- a program, a mode and initial structures, and how many structures may be listed
pub record TaskForm : Type 0 where
  pub program : ProgramForm
  pub mode : Mode
  pub initial : List StructureForm
  pub max : ℕ

abbrev pub task_of : Task → TaskForm
task_of x = record { program = program_of x.program.now; mode = x.mode; initial = x.initial.now; max = x.max }

-- the points that are reached
abbrev pub reached_in : TaskForm → Point → Type 0
reached_in t = IsReached t.program t.mode t.initial

-- those that are reached through listed ones
abbrev pub reached_within : TaskForm → (listing : List (List StructureForm)) → Point → Type 0
reached_within t = IsReachedWithin t.program t.mode t.initial

-- the program is valid, the stepper is that of the program and the mode, the edges are listed by their
-- sources, and the initial structures are over the vocabulary
pub record IsReady (x : Task) (stepper : EngineForm) : Type 0 where
  pub valid : IsValid (program_of x.program.now)
  pub made : stepper ≡ record { program = x.program.now; mode = x.mode }
  pub leaving : AreLeaving (program_of x.program.now).edges (length (program_of x.program.now).nodes)
      x.leaving.now
  pub initial : All (IsOver x.program.now.vocab) x.initial.now
