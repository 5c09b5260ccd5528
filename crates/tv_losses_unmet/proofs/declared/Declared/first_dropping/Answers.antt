use Rattle.std.proofs.Common.{All, IfOk, None, Option, Some, subst, sym}
use Rattle.std.specs.Prelude.{Result}
use Rattle.std.specs.declared.alloc.AllocError.{AllocError}
use Rattle.tv_eval.specs.ScratchForm.{ScratchForm}
use Rattle.tv_model.specs.Program.{program_of}
use Rattle.tv_model.specs.declared.program.Program.{Program}
use Rattle.tv_rules.specs.EntryForms.{rules_of}
use Rattle.tv_losses_unmet.specs.Kept.{CanTryOver, of_pred, of_rule}
use Rattle.tv_losses_unmet.specs.Unmet.{IsFirstOf, IsUnmetByEach}
use Rattle.tv_losses_unmet.specs.declared.claim.Claim.{Claim}
use Rattle.tv_losses_unmet.specs.declared.claim.Claim.TheVariants.{Predicate, Rule}
use Rattle.tv_losses_unmet.proofs.First.{first-moved, first-of_none, first-pred, first-rule}
use Rattle.tv_losses_unmet.proofs.Kept.{can-try}
use Rattle.tv_losses_unmet.proofs.declared.Declared.first_dropping.Goals as goal
use Rattle.tv_losses_unmet.proofs.declared.Declared.first_dropping.Goals.{in-None, in-Some-2}

pub first_to_drop-requires-clause-can : goal.first_to_drop-requires-clause-can
first_to_drop-requires-clause-can c =
    let d = c.self.inside in
    subst (All (λ bases. CanTryOver d.program.now d.scratch (rules_of bases))) (sym c.as_slice-preds.ensures.value)
    (can-try d.program.now d.preds.items d.rules.items d.scratch c.self.invariant
    c.closed_rules_can_be_tried.ensures of_pred d.preds.items c.self.invariant.are_preds)

pub returns-in-Some-clause-found : goal.returns-in-Some-clause-found
returns-in-Some-clause-found c =
    let d = c.self.inside in
    let claim = Predicate (record { 0 = c.in-Some.number }) in
    subst (λ (p : Program). IsFirstOf (IsUnmetByEach (program_of p) c.args.structures.now) (Some claim)) c.self.view_is
    (first-pred d.program.now d.preds.items d.rules.items d.scratch c.self.invariant c.args.structures.now
    c.requires.some c.in-Some.number
    (first-moved c.args.structures.now c.as_slice-preds.result.now d.preds.items c.in_ok-number.field-0
    (Some c.in-Some.number) c.as_slice-preds.ensures.value c.in-Some.is c.in_ok-number.ensures.first))

pub first_to_drop-requires-2-clause-can : goal.first_to_drop-requires-2-clause-can
first_to_drop-requires-2-clause-can c =
    let d = c.self.inside in
    subst (λ (scratch : ScratchForm). All (λ bases. CanTryOver d.program.now scratch (rules_of bases))
    c.as_slice-rules.result.now) (sym c.first_to_drop.ensures.scratch)
    (subst (All (λ bases. CanTryOver d.program.now d.scratch (rules_of bases))) (sym c.as_slice-rules.ensures.value)
    (can-try d.program.now d.preds.items d.rules.items d.scratch c.self.invariant
    c.closed_rules_can_be_tried.ensures of_rule d.rules.items c.self.invariant.are_rules))

pub returns-clause-found : goal.returns-clause-found
returns-clause-found c =
    let d = c.self.inside in
    let P = λ (found : Option Claim).
    IsFirstOf (IsUnmetByEach (program_of c.args.self.now) c.args.structures.now) found in
    let preds = first-moved c.args.structures.now c.as_slice-preds.result.now d.preds.items c.in_ok-number.field-0 None
    c.as_slice-preds.ensures.value c.in_default.is c.in_ok-number.ensures.first in
    let moved = first-moved c.args.structures.now c.as_slice-rules.result.now d.rules.items
    c.in_ok-first_to_drop.field-0 in
    elim c.match-branch-4.branch [
      | in-None w ↦
          subst (λ (r : Result (Option Claim) AllocError). IfOk r P) (sym w.result-is)
          (subst (λ (p : Program). IsFirstOf (IsUnmetByEach (program_of p) c.args.structures.now) None) c.self.view_is
          (first-of_none d.program.now d.preds.items d.rules.items d.scratch c.self.invariant c.args.structures.now
          c.requires.some preds
          (moved None c.as_slice-rules.ensures.value w.in-None.is c.in_ok-first_to_drop.ensures.first)))
      | in-Some-2 w ↦
          subst (λ (r : Result (Option Claim) AllocError). IfOk r P) (sym w.result-is)
          (subst (λ (p : Program). IsFirstOf (IsUnmetByEach (program_of p) c.args.structures.now)
          (Some (Rule w.in-Some-2.number))) c.self.view_is
          (first-rule d.program.now d.preds.items d.rules.items d.scratch c.self.invariant c.args.structures.now
          c.requires.some w.in-Some-2.number preds
          (moved (Some w.in-Some-2.number) c.as_slice-rules.ensures.value w.in-Some-2.is
          c.in_ok-first_to_drop.ensures.first)))
    ]
