use Rattle.std.proofs.Common.{◌≡◌, ◌<◌, ◌++◌, ◌∙◌, List, Some, ap, arith, get_or, length, subst, sym, take}
use Rattle.std.proofs.Math.Seq.{take-length}
use Rattle.std.proofs.lemmas.Option.{slice_get-get_or}
use Rattle.std.proofs.lemmas.Result.{err_from_is_err_and}
use Rattle.std.specs.Prelude.{slice_get}
use Rattle.tv_model.specs.Program.{program_of}
use Rattle.tv_model.specs.declared.program.Program.{Program}
use Rattle.tv_stages_laws.specs.Stages.{IsSlowStep}
use Rattle.tv_stages_text.specs.Over.{IsStepOver}
use Rattle.tv_stages_text.specs.Texts.{step_text}
use Rattle.tv_step.specs.EngineForm.{EngineForm}
use Rattle.tv_step_laws.specs.Budgets.{IsStepCause}
use Rattle.tv_structure_form.specs.StructureForm.{IsOver, StructureForm}
use Rattle.tv_explain.specs.Work.{GoesOnWithSteps}
use Rattle.tv_explain.proofs.Causes.{one_stopped}
use Rattle.tv_explain.proofs.Steps.{goes_on}
use Rattle.tv_explain.proofs.answers.append_steps.Goals as goal

pub step-requires-clause-over : goal.step-requires-clause-over
step-requires-clause-over c =
    let s = c.index-structures-number.result in
    let within : c.loop-number.number < length c.args.structures.now
    = omega (arith, c.loop-number-test.true, c.loop-number.auto.number-end) in
    subst (λ (e : EngineForm). IsOver e.program.vocab s) (sym c.loop-number.invariant.0)
    (subst (IsOver c.args.stager.now.program.vocab) (sym c.index-structures-number.is)
    (c.requires.over c.loop-number.number s within))

pub append_step-requires-clause-step : goal.append_step-requires-clause-step
append_step-requires-clause-step c =
    let s = c.index-structures-number.result in
    let step = c.in_ok-step.step in
    let engine = c.args.stager.now in
    let within : c.loop-number.number < length c.args.structures.now
    = omega (arith, c.loop-number-test.true, c.loop-number.auto.number-end) in
    let over = subst (IsOver engine.program.vocab) (sym c.index-structures-number.is)
    (c.requires.over c.loop-number.number s within) in
    let slow = subst (λ (e : EngineForm). IsSlowStep (program_of e.program) e.mode c.args.edge s step)
    c.loop-number.invariant.0 c.in_ok-step.ensures.slow in
    subst (λ (p : Program). IsStepOver p.vocab step) (sym c.requires.program)
    (c.slow_steps_are_over.ensures engine.program engine.mode c.args.edge s step over slow)

pub loop-number-preserved : goal.loop-number-preserved
loop-number-preserved c =
    let s = c.index-structures-number.result in
    let step = c.in_ok-step.step in
    let engine = c.args.stager.now in
    let same = c.loop-number.invariant.0 in
    let within : c.loop-number.number < length c.args.structures.now
    = omega (arith, c.loop-number-test.true, c.loop-number.auto.number-end) in
    let slow = subst (λ (e : EngineForm). IsSlowStep (program_of e.program) e.mode c.args.edge s step) same
    c.in_ok-step.ensures.slow in
    let grown = subst (λ (p : Program). c.append_step.new.out.items
    ≡ c.loop-number.out.items ++ step_text p c.loop-number.number s step) c.requires.program
    c.in_ok-append_step.ensures in (
      c.in_ok-step.ensures.same ∙ same,
      goes_on engine c.args.edge c.args.structures.now c.loop-number.number s step c.args.out.now.items
          c.loop-number.out.items c.append_step.new.out.items within c.index-structures-number.is slow grown
          c.loop-number.invariant.1,
    )

pub returns-in_err-step-clause-cause : goal.returns-in_err-step-clause-cause
returns-in_err-step-clause-cause c =
    let p = err_from_is_err_and c.from_residual.result c.from_residual.ensures.1 in
    let s = c.index-structures-number.result in
    let engine = c.args.stager.now in
    let within : c.loop-number.number < length c.args.structures.now
    = omega (arith, c.loop-number-test.true, c.loop-number.auto.number-end) in
    let at : slice_get c.args.structures.now c.loop-number.number ≡ Some s
    = slice_get-get_or c.args.structures.now c.loop-number.number s within
    ∙ ap Some (sym c.index-structures-number.is) in
    rw (p.1, p.2) (one_stopped (program_of engine.program) c.args.edge c.args.structures.now c.loop-number.number s
    c.in_err-step.field-0.0 at
    (subst (λ (e : EngineForm). IsStepCause (program_of e.program) c.args.edge s c.in_err-step.field-0.0)
    c.loop-number.invariant.0 c.in_err-step.ensures.cause))

pub returns-clause-steps : goal.returns-clause-steps
returns-clause-steps c =
    let ss = c.args.structures.now in
    let all : c.loop-number.number ≡ length ss
    = omega (arith, c.loop-number-test.false, c.loop-number.auto.number-end) in
    subst (λ (xs : List StructureForm). GoesOnWithSteps c.args.stager.now c.args.edge xs c.args.out.now.items
    c.loop-number.out.items) (ap (λ n. take n ss) all ∙ take-length ss) c.loop-number.invariant.1
