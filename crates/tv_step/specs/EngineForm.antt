-- What an engine is made for.
use Rattle.tv_model.specs.declared.program.Mode.{Mode}
use Rattle.tv_model.specs.declared.program.Program.{Program}

-- a program, and what counts of its actions' updates
pub record EngineForm : Type 0 where
  pub program : Program
  pub mode : Mode
