use Rattle.std.proofs.Common.{Option, refl, subst}
use Rattle.std.specs.Prelude.{IfNone, IfSome}
use Rattle.std.proofs.lemmas.Result.{err_from_is_err_and}
use Rattle.tv_model.specs.Program.{program_of}
use Rattle.tv_structure_form.specs.StructureForm.{StructureForm}
use Rattle.tv_trail.specs.Causes.{IsCauseAt}
use Rattle.tv_trail.specs.Over.{IsTrailOver}
use Rattle.tv_trail.specs.Reasons.{LeadsToGreatest, last_of}
use Rattle.tv_trail.specs.declared.cause.Valued.{Valued}
use Rattle.tv_trail.proofs.Ends.{end-cause, trail-over, value-there}
use Rattle.tv_trail.proofs.raised.trail_to_message.Goals as goal

pub cause_of-requires-clause-program : goal.cause_of-requires-clause-program
cause_of-requires-clause-program c = rw (c.in_ok-found.ensures.same, c.in_ok-stepper.ensures) refl

pub cause_of-requires-clause-over : goal.cause_of-requires-clause-over
cause_of-requires-clause-over c =
    let vocab = c.args.program.now.vocab in
    trail-over vocab c.in-Some.found.trail
    (subst (λ (f : Option Valued). IfSome f (λ v. IsTrailOver vocab v.trail)) c.in-Some.is
    c.in_ok-found.ensures.over)

pub cause_of-requires-clause-told : goal.cause_of-requires-clause-told
cause_of-requires-clause-told c =
    let p = program_of c.args.program.now in
    let leads : LeadsToGreatest p c.args.mode c.args.initial.now c.args.edge c.args.number c.in-Some.found.trail
    c.in-Some.found.value
    = subst (λ (f : Option Valued). IfSome f (λ v. LeadsToGreatest p c.args.mode c.args.initial.now c.args.edge
    c.args.number v.trail v.value)) c.in-Some.is c.in_ok-found.ensures.some in
    value-there p c.args.mode c.args.initial.now c.args.edge c.args.number c.in-Some.found.trail
    c.in-Some.found.value leads.shortest

pub cause_of-requires-clause-some : goal.cause_of-requires-clause-some
cause_of-requires-clause-some c =
    let p = program_of c.args.program.now in
    let leads : LeadsToGreatest p c.args.mode c.args.initial.now c.args.edge c.args.number c.in-Some.found.trail
    c.in-Some.found.value
    = subst (λ (f : Option Valued). IfSome f (λ v. LeadsToGreatest p c.args.mode c.args.initial.now c.args.edge
    c.args.number v.trail v.value)) c.in-Some.is c.in_ok-found.ensures.some in
    leads.some

pub returns-in_err-at_hand-clause-cause : goal.returns-in_err-at_hand-clause-cause
returns-in_err-at_hand-clause-cause c =
    let p = program_of c.args.program.now in
    let leads : LeadsToGreatest p c.args.mode c.args.initial.now c.args.edge c.args.number c.in-Some.found.trail
    c.in-Some.found.value
    = subst (λ (f : Option Valued). IfSome f (λ v. LeadsToGreatest p c.args.mode c.args.initial.now c.args.edge
    c.args.number v.trail v.value)) c.in-Some.is c.in_ok-found.ensures.some in
    let q = err_from_is_err_and c.from_residual-in_err-at_hand.result c.from_residual-in_err-at_hand.ensures.1 in
    rw (q.1, q.2) (end-cause p c.args.mode c.args.initial.now c.args.edge c.args.number c.in-Some.found.trail
    c.in-Some.found.value leads.shortest c.args.max c.in_err-at_hand.field-0.0 c.in_err-at_hand.ensures.cause)

pub returns-in_default-2-clause-none : goal.returns-in_default-2-clause-none
returns-in_default-2-clause-none c =
    absurd (subst (λ (f : Option StructureForm). IfNone f ⊥) c.in_default-2.is c.in_ok-at_hand.ensures.none)

pub returns-in_default-2-clause-ends : goal.returns-in_default-2-clause-ends
returns-in_default-2-clause-ends c =
    absurd (subst (λ (f : Option StructureForm). IfNone f ⊥) c.in_default-2.is c.in_ok-at_hand.ensures.none)

pub returns-clause-some : goal.returns-clause-some
returns-clause-some c =
    let p = program_of c.args.program.now in
    record {
      leads = subst (λ (f : Option Valued). IfSome f (λ v. LeadsToGreatest p c.args.mode c.args.initial.now
          c.args.edge c.args.number v.trail v.value)) c.in-Some.is c.in_ok-found.ensures.some;
      cause = subst (λ (f : Option StructureForm). IfSome f (IsCauseAt p c.args.edge c.args.number
          c.in-Some.found.value (last_of c.in-Some.found.trail))) c.in-Some-2.is c.in_ok-at_hand.ensures.some;
    }
