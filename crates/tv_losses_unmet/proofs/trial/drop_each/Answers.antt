use Rattle.std.proofs.Common.{List, subst, sym, refl}
use Rattle.std.proofs.lemmas.List.{take_all}
use Rattle.std.proofs.lemmas.List.Elements.{All-more}
use Rattle.tv_rules.specs.EntryForms.{rules_of}
use Rattle.tv_stable_laws.specs.Stable.{HasNoStable}
use Rattle.tv_structure_form.specs.StructureForm.{IsOver, StructureForm, structure_of}
use Rattle.tv_losses_unmet.specs.Kept.{DropEach}
use Rattle.tv_losses_unmet.proofs.trial.drop_each.Goals as goal

pub is_unmet-requires-clause-over : goal.is_unmet-requires-clause-over
is_unmet-requires-clause-over c =
    subst (IsOver c.args.x.now.program.now.vocab) (sym c.s-item.is)
    (c.requires.over c.loop-s.s-index c.s-item.result c.loop-s-test.true)

pub loop-s-preserved : goal.loop-s-preserved
loop-s-preserved c = record {
  drop = All-more (λ s. HasNoStable (rules_of c.args.closed.now) (structure_of s)) c.args.x.now.structures.now
      c.loop-s.s-index c.s-item.result c.loop-s-test.true c.loop-s.invariant.drop
      (subst (λ s. HasNoStable (rules_of c.args.closed.now) (structure_of s)) c.s-item.is
      (c.in_ok-is_unmet.ensures.unmet.0 c.if-not-branch.false));
  scratch = cc;
}

pub returns-clause-drop : goal.returns-clause-drop
returns-clause-drop c = (
  λ t. subst (λ (xs : List StructureForm). DropEach xs (rules_of c.args.closed.now))
      (take_all c.loop-s.s-index c.args.x.now.structures.now c.loop-s-test.false) c.loop-s.invariant.drop,
  λ h. refl,
)
