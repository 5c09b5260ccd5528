-- Laws for those who evaluate the formulas of a program, as statements.
use Rattle.std.specs.Prelude.{ℕ, ◌≡◌, ◌≤◌, ◌+◌, List, Some, Contains}
use Rattle.tv_model.specs.declared.program.Program.{Program}
use Rattle.tv_model.specs.Form.{Form, height}
use Rattle.tv_model.specs.Program.{ProgramForm, PredForm, KDefined, RuleForm, CTo, UpdateForm, RetainForm}
use Rattle.tv_model.specs.Program.{MessageForm, ActionForm, program_of}
use Rattle.tv_model.specs.Valid.{IsFormula, IsFormulaOver}
use Rattle.tv_structure_form.specs.StructureForm.{StructureForm, IsOver, arities_of}
use Rattle.tv_eval.specs.ScratchForm.{ScratchForm, HasScratchFor, IsMadeFor, program_height}

-- no formula of the program is higher than n
pub record HasHeightsUpTo (n : ℕ) (p : ProgramForm) : Type 0 where
  pub definitions : (d : PredForm) (vars : List ℕ) (body : Form) → Contains p.preds d
      → d.kind ≡ KDefined vars body
      → height body ≤ n
  pub rules : (rule : RuleForm) → Contains p.rules rule → height rule.body ≤ n
  pub preconditions : (a : ActionForm) (f : Form) → Contains p.actions a → a.pre ≡ Some f → height f ≤ n
  pub focus : (a : ActionForm) (f : Form) → Contains p.actions a → Contains a.focus f → height f ≤ n
  pub messages : (a : ActionForm) (m : MessageForm) → Contains p.actions a → Contains a.messages m
      → height m.cond ≤ n
  pub retains : (a : ActionForm) (r : RetainForm) → Contains p.actions a → a.retain ≡ Some r
      → height r.keep ≤ n
  pub updates : (a : ActionForm) (w : UpdateForm) (f : Form) → Contains p.actions a → Contains a.updates w
      → w.change ≡ CTo f → height f ≤ n

-- no formula of a program is higher than the program
abbrev pub FormulasAreWithinHeight : Type 0
FormulasAreWithinHeight = (p : ProgramForm) → HasHeightsUpTo (program_height p) p

-- a scratch that was made for a program and a size has room for each formula that is at most four higher
-- than the program, in structures of up to that size
abbrev pub MadeScratchesFit : Type 0
MadeScratchesFit =
    (p : ProgramForm) (n m : ℕ) (scratch : ScratchForm) (f : Form) → IsMadeFor p n scratch → height f ≤
    program_height p + 4
    → m ≤ n → HasScratchFor scratch f m

-- a formula of a program can be evaluated in structures over the program's vocabulary
abbrev pub ProgramFormulasAreOver : Type 0
ProgramFormulasAreOver =
    (program : Program) (s : StructureForm) (f : Form) → IsOver program.vocab s
    → IsFormula (program_of program) f
    → IsFormulaOver (arities_of s) f
