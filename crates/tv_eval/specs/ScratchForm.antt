-- What a scratch has room for.
use Rattle.std.specs.Prelude.{ℕ, ◌≡◌, ◌≤◌, ◌+◌}
use Rattle.tv_model.specs.Form.{Form}
use Rattle.tv_model.specs.Program.{ProgramForm}
pub use Rattle.tv_quantifiers.specs.Heights.{deepest, kind_height, change_height, pre_height, retain_height}
pub use Rattle.tv_quantifiers.specs.Heights.{action_height, program_height}
use Rattle.tv_eval.specs.Formulas.{nesting}

-- a scratch: how deep closures may be nested, and how many individuals a structure may have
pub record ScratchForm : Type 0 where
  pub levels : ℕ
  pub size : ℕ

-- the scratch has room for the formula in structures of n individuals
pub record HasScratchFor (scratch : ScratchForm) (f : Form) (n : ℕ) : Type 0 where
  pub closures : nesting f ≤ scratch.levels
  pub individuals : n ≤ scratch.size

-- a scratch made for the program: closures may be nested as deep as its highest formula is high, and four
-- deeper
pub record IsMadeFor (p : ProgramForm) (n : ℕ) (scratch : ScratchForm) : Type 0 where
  pub closures : scratch.levels ≡ program_height p + 4
  pub individuals : scratch.size ≡ n
