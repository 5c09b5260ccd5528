use Rattle.std.proofs.Common.{length, List, subst, sym}
use Rattle.tv_kleene.specs.declared.K3.{K3}
use Rattle.tv_model.specs.Form.{form_of, vars_of}
use Rattle.tv_structure_form.specs.StructureForm.{StructureForm}
use Rattle.tv_eval.specs.AssignmentForm.{assignment_of}
use Rattle.tv_eval.specs.Bound.{bound_room}
use Rattle.tv_update.specs.Rows.{AreRows, CanFill, rows_for}
use Rattle.tv_update.proofs.RowLaws.{rows_for_are_rows, few_vars}
use Rattle.tv_update.proofs.define.evaluate.Goals as goal

pub fill-filled-requires-clause-can : goal.fill-filled-requires-clause-can
fill-filled-requires-clause-can c =
    let In : StructureForm → Type 0 = λ s.
    CanFill s c.new.result (vars_of c.args.vars) (bound_room c.new-e.result) (form_of c.args.body.now)
    in subst In (sym c.new-e.ensures.structure)
    (subst (λ room. CanFill c.args.t.now c.new.result (vars_of c.args.vars) room (form_of c.args.body.now))
    (sym c.new-e.ensures.room) (c.requires.can c.new.result))

pub put-requires-clause-rows : goal.put-requires-clause-rows
put-requires-clause-rows c =
    let Shaped : List (List K3) → Type 0 = AreRows c.args.t.now.size (length (vars_of c.args.vars))
    in let In : StructureForm → Type 0 = λ s.
    Shaped (rows_for s (assignment_of c.new.result) (vars_of c.args.vars) (form_of c.args.body.now))
    in subst Shaped (sym c.in_ok-filled.ensures.rows)
    (subst In (sym c.new-e.ensures.structure)
    (rows_for_are_rows c.args.t.now (assignment_of c.new.result) (vars_of c.args.vars)
    (form_of c.args.body.now)
    (few_vars c.args.vars)))
