use Rattle.std.proofs.Common.{[], ◌∷◌, sym, subst}
use Rattle.std.proofs.lemmas.List.{take_all}
use Rattle.std.proofs.lemmas.List.Elements.{All-contains}
use Rattle.tv_model.specs.Form.{form_of}
use Rattle.tv_structure_form.specs.StructureForm.{arities_of}
use Rattle.tv_focus_laws.specs.Tables.{AreStage}
use Rattle.tv_focus.specs.Anchored.{AreAtomsOver}
use Rattle.tv_focus.specs.Stage.{IsWithinLimits}
use Rattle.tv_coerce_sets.proofs.Listing.{all-next}
use Rattle.tv_step_laws.specs.Parts.{AreFrom}
use Rattle.tv_step_laws.specs.Shaped.{IsShaped}
use Rattle.tv_step_laws.specs.Transfer.{Focuses}
use Rattle.tv_step.specs.Places.{focus_place}
use Rattle.tv_step.specs.Setting.{form_in, IsStableIn}
use Rattle.tv_step.specs.Steps.{KeepsLimits}
use Rattle.tv_step.proofs.Adding.{from-itself, item-there}
use Rattle.tv_step.proofs.Turns.{atoms-fit, known-itself}
use Rattle.tv_step.proofs.focus.are_known.Goals as goal

pub is_known-requires-clause-formula : goal.is_known-requires-clause-formula
is_known-requires-clause-formula c =
    let p = form_in c.args.x.now
    in let s = c.s-item.result
    in subst (λ f. AreAtomsOver (arities_of s) (form_of f)) (sym c.deref.ensures)
    (atoms-fit p s (form_of c.args.turn.now.formula.value)
    (All-contains (IsShaped p) c.args.at_hand.now s c.requires.shaped
    (item-there c.args.at_hand.now c.loop-s.s-index s c.loop-s-test.true c.s-item.is))
    c.requires.place.formula)

pub is_known-requires-clause-atom : goal.is_known-requires-clause-atom
is_known-requires-clause-atom c = rw (c.deref.ensures) c.requires.place.atom

pub loop-s-preserved : goal.loop-s-preserved
loop-s-preserved c =
    let p = form_in c.args.x.now
    in let s = c.s-item.result
    in let ss = c.args.at_hand.now
    in let i = c.loop-s.s-index
    in let place = focus_place c.args.turn.now
    in let there = item-there ss i s c.loop-s-test.true c.s-item.is
    in record {
      from = from-itself (Focuses p place) ss i s c.loop-s-test.true c.s-item.is c.loop-s.invariant.from
          (known-itself p place s (All-contains (IsShaped p) ss s c.requires.shaped there)
          (All-contains (IsStableIn p) ss s c.requires.stable there)
          (subst (λ f. AreStage s (form_of f) c.args.turn.now.atom (s ∷ [])) c.deref.ensures
          (c.in_ok-is_known.ensures.stage c.if-not-branch.false)));
      within = all-next (λ t. IsWithinLimits t place.formula place.atom) ss i s c.loop-s-test.true c.s-item.is
          c.loop-s.invariant.within
          (subst (λ f. IsWithinLimits s (form_of f) c.args.turn.now.atom) c.deref.ensures
          (c.in_ok-is_known.ensures.within c.if-not-branch.false));
    }

pub returns-clause-out : goal.returns-clause-out
returns-clause-out c known =
    subst (λ ss. AreFrom (Focuses (form_in c.args.x.now) (focus_place c.args.turn.now)) ss ss)
    (take_all c.loop-s.s-index c.args.at_hand.now c.loop-s-test.false) c.loop-s.invariant.from

pub returns-clause-within : goal.returns-clause-within
returns-clause-within c known =
    subst (KeepsLimits (focus_place c.args.turn.now))
    (take_all c.loop-s.s-index c.args.at_hand.now c.loop-s-test.false) c.loop-s.invariant.within
