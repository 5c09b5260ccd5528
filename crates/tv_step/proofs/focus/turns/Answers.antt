use Rattle.std.proofs.Common.{◌≡◌, ◌∙◌, ◌++◌, length, map, ap, sym, subst}
use Rattle.std.proofs.lemmas.List.Elements.{All-contains}
use Rattle.tv_model.specs.Form.{form_of}
use Rattle.tv_rules.specs.EntryForms.{rules_of}
use Rattle.tv_step_laws.specs.Transfer.{places_in}
use Rattle.tv_step.specs.Places.{focus_place, AreWaitingAt}
use Rattle.tv_step.specs.Waiting.{WaitsAt}
use Rattle.tv_step.proofs.Adding.{item-there}
use Rattle.tv_step.proofs.Turns.{formulas-next}
use Rattle.tv_step.proofs.focus.turns.Goals as goal

pub loop-formula-preserved : goal.loop-formula-preserved
loop-formula-preserved c =
    let x = c.args.x.now
    in let n = length x.program.now.vocab.preds
    in let fs = c.args.formulas.now
    in let f = c.formula-item.result
    in let same : c.in_ok-atoms.atoms.value ≡ f = c.in_ok-atoms.ensures.ok ∙ c.in_ok-new.ensures
    in record {
      places = c.in_ok-push_turns.ensures.places
          ∙ ap (λ h. map focus_place c.loop-formula.turns.items ++ places_in (form_of h)) same
          ∙ ap (λ xs. xs ++ places_in (form_of f)) c.loop-formula.invariant.places
          ∙ sym (formulas-next fs c.loop-formula.formula-index f c.loop-formula-test.true c.formula-item.is);
      waiting = c.in_ok-push_turns.ensures.waiting x.program.now
          (subst (λ h. AreWaitingAt x.program.now (form_of h) c.in_ok-waiting.waiting.value) (sym same)
          (subst (λ rules. WaitsAt n (form_of f) rules c.in_ok-waiting.waiting.value) c.requires.rules
          (All-contains (λ g. WaitsAt n (form_of g) (rules_of x.closed.now) c.in_ok-waiting.waiting.value) fs f
          c.in_ok-waiting.ensures.waits
          (item-there fs c.loop-formula.formula-index f c.loop-formula-test.true c.formula-item.is))))
          c.loop-formula.invariant.waiting;
    }
