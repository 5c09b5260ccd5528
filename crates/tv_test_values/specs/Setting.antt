-- What a formula of a program is to its tests.
use Rattle.std.specs.Prelude.{ℕ, ◌≡◌, ◌<◌, ◌≤◌, ◌⊎◌}
use Rattle.tv_model.specs.declared.program.Program.{Program}
use Rattle.tv_model.specs.Form.{Form, IsFree, height}
use Rattle.tv_model.specs.Program.{program_of}
use Rattle.tv_model.specs.Valid.{IsFormula}
use Rattle.tv_eval.specs.ScratchForm.{program_height}

-- the formula is one of the program's, and speaks of these two variables
pub record IsSetting (program : Program) (v w : ℕ) (f : Form) : Type 0 where
  pub formula : IsFormula (program_of program) f
  pub height : height f ≤ program_height (program_of program)
  pub variables : (v < 32) × (w < 32)
  pub over : (x : ℕ) → IsFree x f → (x ≡ v) ⊎ (x ≡ w)
