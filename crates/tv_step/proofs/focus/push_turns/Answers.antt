use Rattle.std.proofs.Common.{◌∙◌, [], ◌∷◌, ◌++◌, length, map, ap, arith, sym, subst}
use Rattle.std.proofs.lemmas.List.{map-append}
use Rattle.tv_focus_laws.specs.FocusAtoms.{focus_atoms}
use Rattle.tv_model.specs.Form.{form_of}
use Rattle.tv_step.specs.Places.{focus_place, AreWaitingAt, HasWaiting}
use Rattle.tv_step.proofs.Adding.{all-more}
use Rattle.tv_step.proofs.Turns.{at, places-all, places-more}
use Rattle.tv_step.proofs.focus.push_turns.Goals as goal

pub loop-atom-preserved : goal.loop-atom-preserved
loop-atom-preserved c = record {
  places =
      let pushed = c.in_ok-push.ensures.items
      in rw (pushed, map-append)
      (ap (λ f. map focus_place c.loop-atom.turns.items ++ at (form_of f) c.loop-atom.atom ∷ [])
      c.in_ok-formula.ensures.cases
      ∙ places-more (form_of c.args.atoms.now.value) (map focus_place c.loop-atom.turns.items)
      (map focus_place c.args.turns.now.items) c.loop-atom.atom c.loop-atom.invariant.places);
  waiting = λ program waits before. rw c.in_ok-push.ensures.items
      (all-more (HasWaiting program) c.loop-atom.turns.items _
      (c.loop-atom.invariant.waiting program waits before)
      (subst (λ f. AreWaitingAt program (form_of f) c.in_ok-waiting.waiting.value)
      (sym c.in_ok-formula.ensures.cases)
      (subst (AreWaitingAt program (form_of c.args.atoms.now.value)) (sym c.in_ok-waiting.ensures.cases) waits)));
}

pub returns-clause-places : goal.returns-clause-places
returns-clause-places c =
    places-all (form_of c.args.atoms.now.value) (map focus_place c.loop-atom.turns.items)
    (map focus_place c.args.turns.now.items) c.loop-atom.atom c.loop-atom.invariant.places
    (omega (
      arith,
      c.loop-atom.auto.atom-end,
      c.loop-atom-test.false,
      c.count-atom-end.ensures,
      ap (λ f. length (focus_atoms (form_of f))) c.deref.ensures,
    ))
