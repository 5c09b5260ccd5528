use Rattle.std.proofs.Common.{List, map, All, sym, subst}
use Rattle.tv_lemmas.proofs.Options.{IfErr-same}
use Rattle.tv_model.specs.declared.formula.Formula.{Formula}
use Rattle.tv_model.specs.Form.{form_of}
use Rattle.tv_model.specs.Program.{program_of}
use Rattle.tv_model.specs.Valid.{IsFormula}
use Rattle.tv_structure_form.specs.StructureForm.{StructureForm}
use Rattle.tv_step.specs.EngineForm.{EngineForm}
use Rattle.tv_step_laws.specs.Budgets.{IsStepCause}
use Rattle.tv_step_laws.specs.Shaped.{IsShaped}
use Rattle.tv_step_laws.specs.Transfer.{AreResults}
use Rattle.tv_stages_laws.specs.declared.record.SlowStep.{SlowStep}
use Rattle.tv_stages_laws.specs.Stages.{AreFocusRows, AreStages, kept_by, places_from}
use Rattle.tv_stages_laws.proofs.Ends.{stages-end}
use Rattle.tv_stages.specs.Tasks.{course_action, task_program}
use Rattle.tv_stages.specs.Turns.{StopsFocus}
use Rattle.tv_stages.proofs.Causes.{focus-cause, update-cause}
use Rattle.tv_stages.proofs.Turning.{kept-shaped, rows-shaped}
use Rattle.tv_stages.proofs.Updating.{focus-formulas}
use Rattle.tv_stages.proofs.stages.slow_step.Goals as goal

pub focus-requires-clause-formulas : goal.focus-requires-clause-formulas
focus-requires-clause-formulas c =
    let p = task_program c.args.x.now
    in subst (λ (fs : List Formula). All (IsFormula p) (map form_of fs)) (sym c.as_slice.ensures)
    (focus-formulas p c.requires.ready.valid c.args.edge (course_action c.in_ok-course.course)
    c.in_ok-course.ensures.action)

pub focus-requires-clause-shaped : goal.focus-requires-clause-shaped
focus-requires-clause-shaped c =
    let p = task_program c.args.x.now
    in subst (All (IsShaped p)) (sym c.in_ok-at_hand.ensures)
    (kept-shaped p c.args.s.now c.in_ok-start.start c.in_ok-start.ensures.fate)

pub returns-in_err-rows-clause-cause : goal.returns-in_err-rows-clause-cause
returns-in_err-rows-clause-cause c =
    let p = task_program c.args.x.now
    in let s = c.args.s.now
    in let fate = c.in_ok-start.start
    in let e = c.in_err-rows.field-0.0
    in IfErr-same (IsStepCause p c.args.edge s) c.from_residual-in_err-rows.result e
    c.from_residual-in_err-rows.ensures.1
    (focus-cause p c.args.edge (course_action c.in_ok-course.course) c.in_ok-course.ensures.action s fate
    c.in_ok-start.ensures.fate e
    (subst (λ (fs : List Formula). StopsFocus p (places_from 0 (map form_of fs)) (kept_by fate) e) c.as_slice.ensures
    (subst (λ (ss : List StructureForm). StopsFocus p (places_from 0 (map form_of c.as_slice.result.now)) ss e)
    c.in_ok-at_hand.ensures c.in_err-rows.ensures.cause)))

pub updates-requires-clause-shaped : goal.updates-requires-clause-shaped
updates-requires-clause-shaped c =
    let p = task_program c.args.x.now
    in let x = c.in_ok-rows.field-0
    in rows-shaped p (places_from 0 (map form_of c.as_slice.result.now)) c.in_ok-at_hand.at_hand x.rows x.at_hand
    c.in_ok-rows.ensures.rows
    (subst (All (IsShaped p)) (sym c.in_ok-at_hand.ensures)
    (kept-shaped p c.args.s.now c.in_ok-start.start c.in_ok-start.ensures.fate))

pub returns-in_err-updates-clause-cause : goal.returns-in_err-updates-clause-cause
returns-in_err-updates-clause-cause c =
    let p = task_program c.args.x.now
    in let s = c.args.s.now
    in let fate = c.in_ok-start.start
    in let x = c.in_ok-rows.field-0
    in let action = course_action c.in_ok-course.course
    in let e = c.in_err-updates.field-0.0
    in IfErr-same (IsStepCause p c.args.edge s) c.from_residual-in_err-updates.result e
    c.from_residual-in_err-updates.ensures.1
    (update-cause p c.args.edge action c.in_ok-course.ensures.action s fate c.in_ok-start.ensures.fate x.rows x.at_hand
    (subst (λ (fs : List Formula). AreFocusRows p (places_from 0 (map form_of fs)) (kept_by fate) x.rows x.at_hand)
    c.as_slice.ensures
    (subst (λ (ss : List StructureForm). AreFocusRows p (places_from 0 (map form_of c.as_slice.result.now)) ss x.rows
    x.at_hand) c.in_ok-at_hand.ensures c.in_ok-rows.ensures.rows))
    e c.in_err-updates.ensures.cause)

pub returns-clause-slow : goal.returns-clause-slow
returns-clause-slow c =
    let p = task_program c.args.x.now
    in let mode = c.args.x.now.mode
    in let s = c.args.s.now
    in let fate = c.in_ok-start.start
    in let x = c.in_ok-rows.field-0
    in let action = course_action c.in_ok-course.course
    in let results = c.in_ok-results.field-0.results
    in let step : SlowStep = record {
      start = fate;
      focus = x.rows;
      updates = c.in_ok-updates.updates;
      results = results;
    }
    in let are : AreResults p mode c.args.edge s results
    = subst (λ (e : EngineForm). AreResults (program_of e.program) e.mode c.args.edge s results)
    c.requires.ready.stepper c.in_ok-results.ensures.step.results
    in let stages : AreStages p mode c.args.edge s step = record {
      action = action;
      its_action = c.in_ok-course.ensures.action;
      begins = c.in_ok-start.ensures.fate;
      at_hand = x.at_hand;
      focused = subst (λ (fs : List Formula). AreFocusRows p (places_from 0 (map form_of fs)) (kept_by fate) x.rows
          x.at_hand) c.as_slice.ensures
          (subst (λ (ss : List StructureForm). AreFocusRows p (places_from 0 (map form_of c.as_slice.result.now)) ss
          x.rows x.at_hand) c.in_ok-at_hand.ensures c.in_ok-rows.ensures.rows);
      updated = c.in_ok-updates.ensures.at_hand;
      each = c.in_ok-updates.ensures.updated;
    }
    in record {
      stages = stages;
      same = stages-end p c.requires.ready.valid mode c.args.edge s step stages results are;
      sorted = are.sorted;
    }
