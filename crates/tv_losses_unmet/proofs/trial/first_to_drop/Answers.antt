use Rattle.std.proofs.Common.{List, refl, sym, subst, arith}
use Rattle.std.proofs.lemmas.Option.{slice_get_read, slice_get_within}
use Rattle.tv_eval.specs.ScratchForm.{ScratchForm}
use Rattle.tv_model.specs.declared.program.Rule.{Rule as Declaration}
use Rattle.tv_rules.specs.EntryForms.{rules_of}
use Rattle.tv_losses_unmet.specs.Kept.{CanTryOver}
use Rattle.tv_losses_unmet.proofs.First.{first-here, none-here}
use Rattle.tv_losses_unmet.proofs.trial.first_to_drop.Goals as goal

pub drop_each-requires-clause-can : goal.drop_each-requires-clause-can
drop_each-requires-clause-can c =
    subst (λ (scratch : ScratchForm).
    CanTryOver c.args.x.now.program.now scratch (rules_of c.index-lists-number.result))
    (sym c.loop-number.invariant.scratch)
    (subst (λ (bases : List Declaration). CanTryOver c.args.x.now.program.now c.args.scratch.now (rules_of bases))
    (sym c.index-lists-number.is)
    (c.requires.can c.loop-number.number c.index-lists-number.result c.loop-number-test.true))

pub returns-then-branch-clause-first : goal.returns-then-branch-clause-first
returns-then-branch-clause-first c =
    first-here c.args.x.now.structures.now c.args.lists.now c.loop-number.number c.index-lists-number.result
    c.in_ok-drop_each.field-0 (slice_get_read c.args.lists.now _ c.loop-number.number c.index-lists-number.result refl
    c.loop-number-test.true c.index-lists-number.is)
    c.in_ok-drop_each.ensures.drop c.if-branch.true c.loop-number.invariant.none

pub loop-number-preserved : goal.loop-number-preserved
loop-number-preserved c = record {
  none = none-here c.args.x.now.structures.now c.args.lists.now c.loop-number.number c.index-lists-number.result
      c.in_ok-drop_each.field-0 (slice_get_read c.args.lists.now _ c.loop-number.number c.index-lists-number.result refl
      c.loop-number-test.true c.index-lists-number.is)
      c.in_ok-drop_each.ensures.drop c.if-branch.false c.loop-number.invariant.none;
  scratch = cc;
}

pub returns-clause-first : goal.returns-clause-first
returns-clause-first c = λ k bases at.
    c.loop-number.invariant.none k bases
    (omega (arith, c.loop-number-test.false, slice_get_within c.args.lists.now k bases at)) at
