-- Structures over a program, as its vocabulary and as its form tell.
use Rattle.std.proofs.Common.{◌≡◌, ◌∙◌, map, sym}
use Rattle.tv_model.specs.declared.program.Program.{Program}
use Rattle.tv_model.specs.Program.{pred_of, program_of}
use Rattle.tv_model.specs.Valid.{program_arities}
use Rattle.tv_model.proofs.Lists.{map-compose}
use Rattle.tv_structure_form.specs.StructureForm.{StructureForm, IsStructure, IsOver}
use Rattle.tv_step_laws.specs.Shaped.{IsShaped}

-- the arities of a program are those of its vocabulary
pub same-arities : (program : Program)
    → program_arities (program_of program) ≡ map (λ pred. pred.arity) program.vocab.preds
same-arities program = map-compose pred_of (λ d. d.arity) program.vocab.preds

pub shaped-over : (program : Program) (s : StructureForm) → IsShaped (program_of program) s
    → IsOver program.vocab s
shaped-over program s shaped = shaped.over ∙ same-arities program

pub over-shaped : (program : Program) (s : StructureForm) → IsOver program.vocab s → IsStructure s
    → IsShaped (program_of program) s
over-shaped program s over is = record {
  over = over ∙ sym (same-arities program);
  planes = is.table.planes;
  summaries = is.summaries;
}
