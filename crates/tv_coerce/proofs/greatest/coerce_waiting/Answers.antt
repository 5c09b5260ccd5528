-- The copies are the structure and the set.
use Rattle.std.proofs.Common.{◌≡◌, Some, subst, sym}
use Rattle.std.specs.Prelude.{IfOk}
use Rattle.tv_rules.specs.EntryForms.{rules_of}
use Rattle.tv_stable_laws.specs.Stable.{IsStable}
use Rattle.tv_structure_form.specs.StructureForm.{StructureForm, structure_of}
use Rattle.tv_coerce.specs.RuleSets.{IsStableBut}
use Rattle.tv_coerce.proofs.greatest.coerce_waiting.Goals as goal

pub coerce_in_place-requires-clause-rest : goal.coerce_in_place-requires-clause-rest
coerce_in_place-requires-clause-rest c =
    subst (λ set. IsStableBut (rules_of c.args.closed.now) set c.in_ok-t.t) (sym c.in_ok-waiting.ensures)
    (subst (IsStableBut (rules_of c.args.closed.now) c.args.waiting.now) (sym c.in_ok-t.ensures.value) c.requires.rest)

pub returns-clause-again : goal.returns-clause-again
returns-clause-again c =
    subst (λ (t : StructureForm). IsStable (rules_of c.args.closed.now) (structure_of t)
    → IfOk c.coerce_in_place.result (λ found. found ≡ Some t)) c.in_ok-t.ensures.value c.coerce_in_place.ensures.again
