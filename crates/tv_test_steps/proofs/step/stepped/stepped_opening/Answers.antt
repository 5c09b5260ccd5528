use Rattle.std.proofs.Common.{◌∙◌, subst, sym}
use Rattle.std.specs.Prelude.{IfSome}
use Rattle.tv_model.specs.Program.{pred_of, program_of}
use Rattle.tv_model.proofs.Lists.{map-compose}
use Rattle.tv_rules.specs.Closing.{closed_rules}
use Rattle.tv_stable_laws.specs.Stable.{IsStable}
use Rattle.tv_structure_form.specs.StructureForm.{IsOver, structure_of}
use Rattle.tv_step_laws.specs.Settled.{IsSettled}
use Rattle.tv_test_steps.proofs.step.stepped.stepped_opening.Goals as goal

pub stable_step-requires-clause-over : goal.stable_step-requires-clause-over
stable_step-requires-clause-over c =
    let program = c.in_ok-stepper.stepper.program
    in let settled = subst (λ found. IfSome found (IsSettled (program_of program))) c.in-Some.is
    c.in_ok-opening.ensures.settled
    in subst (λ stepper. IsOver stepper.program.vocab c.in-Some.t) (sym c.opening.ensures.same)
    (settled.shaped.over ∙ map-compose pred_of (λ d. d.arity) program.vocab.preds)

pub stable_step-requires-clause-stable : goal.stable_step-requires-clause-stable
stable_step-requires-clause-stable c =
    let program = c.in_ok-stepper.stepper.program
    in let settled = subst (λ found. IfSome found (IsSettled (program_of program))) c.in-Some.is
    c.in_ok-opening.ensures.settled
    in subst (λ stepper. IsStable (closed_rules (program_of stepper.program)) (structure_of c.in-Some.t))
    (sym c.opening.ensures.same) settled.stable
