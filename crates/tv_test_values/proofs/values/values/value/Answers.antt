use Rattle.std.proofs.Common.{arith}
use Rattle.tv_model.specs.Form.{form_of}
use Rattle.tv_model.specs.Program.{program_of}
use Rattle.tv_test_values.proofs.values.values.value.Goals as goal

pub eval-requires-clause-formula : goal.eval-requires-clause-formula
eval-requires-clause-formula c =
    c.program_formulas_are_over.ensures c.args.program.now c.args.s.now (form_of c.args.found.now.formula.now) c.requires.over c.requires.setting.formula

pub eval-requires-clause-fits : goal.eval-requires-clause-fits
eval-requires-clause-fits c =
    c.made_scratches_fit.ensures.fit (program_of c.args.program.now) c.args.s.now.size c.args.s.now.size c.args.scratch.now
    (form_of c.args.found.now.formula.now) c.requires.made (omega (arith, c.requires.setting.height)) (omega arith)
