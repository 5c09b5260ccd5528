use Rattle.std.proofs.Common.{subst, sym}
use Rattle.tv_model.specs.Form.{form_of}
use Rattle.tv_model.specs.Program.{message_of, program_of}
use Rattle.tv_model.specs.Valid.{IsFormulaOver}
use Rattle.tv_trail.proofs.Causing.{condition-is, nobody-assigned}
use Rattle.tv_trail.proofs.cause.condition.Goals as goal

pub value-requires-clause-formula : goal.value-requires-clause-formula
value-requires-clause-formula c =
    subst (λ ns. IsFormulaOver ns (form_of c.args.message.now.cond)) (sym c.requires.shaped.over)
    c.requires.message.0.0

pub value-requires-clause-assigned : goal.value-requires-clause-assigned
value-requires-clause-assigned c =
    nobody-assigned (program_of c.args.stepper.now.program) (message_of c.args.message.now) c.args.s.now.size
    c.new.result c.requires.message

pub value-requires-clause-few : goal.value-requires-clause-few
value-requires-clause-few c = c.size.ensures.kept.table.size

pub returns-clause-value : goal.returns-clause-value
returns-clause-value c =
    condition-is (message_of c.args.message.now) c.args.s.now c.new.result c.value.result c.new.ensures
    c.value.ensures.value
