use Rattle.std.proofs.Common.{sym, subst, arith}
use Rattle.tv_model.specs.Form.{form_of, FExists}
use Rattle.tv_model.specs.Program.{program_of}
use Rattle.tv_eval.specs.Bound.{bound_room}
use Rattle.tv_eval.specs.Formulas.{AreAssigned}
use Rattle.tv_eval.specs.ScratchForm.{HasScratchFor}
use Rattle.tv_test_values.proofs.Settings.{row_assigned}
use Rattle.tv_test_values.proofs.values.values.row_of.Goals as goal

pub row-row-requires-clause-assigned : goal.row-row-requires-clause-assigned
row-row-requires-clause-assigned c =
    subst (λ s. AreAssigned s.size c.first_at.result
    (FExists c.args.found.now.w.0 (form_of c.args.found.now.formula.now))) (sym c.new-e.ensures.structure)
    (row_assigned c.args.program.now c.args.found.now.v.0 c.args.found.now.w.0
    (form_of c.args.found.now.formula.now) c.requires.setting c.args.s.now.size c.first_at.result
    (c.first_at.ensures c.args.s.now.size c.requires.individual))

pub row-row-requires-clause-fits : goal.row-row-requires-clause-fits
row-row-requires-clause-fits c =
    subst (λ s. HasScratchFor (bound_room c.new-e.result) (form_of c.args.found.now.formula.now) s.size) (sym c.new-e.ensures.structure)
    (subst (λ room. HasScratchFor room (form_of c.args.found.now.formula.now) c.args.s.now.size) (sym c.new-e.ensures.room)
    (c.made_scratches_fit.ensures.fit (program_of c.args.program.now) c.args.s.now.size c.args.s.now.size
    c.args.scratch.now (form_of c.args.found.now.formula.now) c.requires.made
    (omega (arith, c.requires.setting.height)) (omega arith)))
