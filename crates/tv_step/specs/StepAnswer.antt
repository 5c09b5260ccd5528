-- What the answer of an abstract step says.
use Rattle.std.specs.Prelude.{ℕ, Result, IfOk, IfErr, OnOk, All}
use Rattle.tv_model.specs.declared.program.Mode.{Mode}
use Rattle.tv_model.specs.Program.{ProgramForm}
use Rattle.tv_structure_form.specs.StructureForm.{StructureForm}
use Rattle.tv_struct.specs.declared.analysis.StageError.{StageError}
use Rattle.tv_step_laws.specs.Budgets.{KeepsBudgets, IsStepCause}
use Rattle.tv_step_laws.specs.Settled.{IsSettled}
use Rattle.tv_step_laws.specs.Sound.{KeepsNewHeaps, TellsMessages}
use Rattle.tv_step_laws.specs.Transfer.{AreResults, AreMessageValues}
use Rattle.tv_step.specs.declared.step.StepOut.{StepOut}

-- the answer is the step of the structure along the edge: its results, which are settled and keep the heaps
-- that a step makes, and the values of the messages, which tell the truth; and it is an error exactly where
-- the budgets are exceeded, or memory is wanting
pub record AnswersStep (p : ProgramForm) (mode : Mode) (edge : ℕ) (s : StructureForm)
    (answer : Result StepOut StageError) : Type 0 where
  pub results : IfOk answer (λ out. AreResults p mode edge s out.results)
  pub values : IfOk answer (λ out. AreMessageValues p edge s out.messages)
  pub settled : IfOk answer (λ out. All (IsSettled p) out.results)
  pub heaps : IfOk answer (λ out. KeepsNewHeaps p mode edge s out.results)
  pub truths : IfOk answer (λ out. TellsMessages p edge s out.messages)
  pub budgets : OnOk answer (KeepsBudgets p edge s)
  pub cause : IfErr answer (IsStepCause p edge s)
