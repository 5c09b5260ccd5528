use Rattle.std.proofs.Common.{◌∙◌, [], ◌∷◌, All, length, ap, sym, subst}
use Rattle.std.proofs.lemmas.List.{length-map}
use Rattle.tv_lemmas.proofs.Options.{IfErr-same}
use Rattle.tv_rules.specs.EntryForms.{rules_of}
use Rattle.tv_model.specs.Form.{form_of}
use Rattle.tv_structure_form.specs.StructureForm.{arities_of}
use Rattle.tv_focus.specs.Anchored.{AreAtomsOver}
use Rattle.tv_focus.specs.Focused.{CanBeMade, tables_in}
use Rattle.tv_focus.specs.Stage.{IsStageCause, IsWithinLimits}
use Rattle.tv_coerce.specs.RuleSets.{IsStableBut}
use Rattle.tv_step.specs.Places.{focus_place}
use Rattle.tv_step.specs.Setting.{form_in, IsStableIn}
use Rattle.tv_step.specs.Steps.{IsFocusCause}
use Rattle.tv_step.specs.Waiting.{WaitsAt}
use Rattle.tv_step_laws.specs.Shaped.{IsShaped}
use Rattle.tv_step_laws.specs.Transfer.{choices_at}
use Rattle.tv_step_laws.proofs.Shapes.{shaped-over}
use Rattle.tv_step.proofs.FocusStays.{focus-rest}
use Rattle.tv_step.proofs.Turns.{atoms-fit, focus-adds, focus-cause, focus-itself, made-from, made-stage}
use Rattle.tv_step.proofs.Turns.{tables-of}
use Rattle.tv_step.proofs.Turns.{tables-shaped}
use Rattle.tv_step.proofs.focus.push_focused.Goals as goal

pub into_focused-requires-clause-formula : goal.into_focused-requires-clause-formula
into_focused-requires-clause-formula c =
    subst (λ f. AreAtomsOver (arities_of c.args.s) (form_of f)) (sym c.deref.ensures)
    (atoms-fit (form_in c.args.x.now) c.args.s (form_of c.args.turn.now.formula.value) c.requires.shaped
    c.requires.place.formula)

pub into_focused-requires-clause-atom : goal.into_focused-requires-clause-atom
into_focused-requires-clause-atom c = rw (c.deref.ensures) c.requires.place.atom

pub returns-in_err-s-clause-cause : goal.returns-in_err-s-clause-cause
returns-in_err-s-clause-cause c =
    let place = focus_place c.args.turn.now
    in let e = c.in_err-s.field-0.0
    in IfErr-same (IsFocusCause place (c.args.s ∷ [])) c.from_residual.result e c.from_residual.ensures.1
    (focus-cause c.args.s place e
    (subst (λ f. IsStageCause c.args.s (form_of f) c.args.turn.now.atom e) c.deref.ensures
    c.in_err-s.ensures.cause))

pub returns-in_ok-push-in-Same-clause-out : goal.returns-in_ok-push-in-Same-clause-out
returns-in_ok-push-in-Same-clause-out c =
    let p = form_in c.args.x.now
    in let place = focus_place c.args.turn.now
    in let s = c.args.s
    in let same = c.in-Same.s
    in focus-itself p place s same c.args.out.now c.push.new.self c.requires.shaped c.requires.stable
    (made-from s _ _ c.in-Same.is c.in_ok-s.ensures.from)
    (tables-of p s c.requires.shaped (same ∷ []) (choices_at s place)
    (made-stage s c.deref.result.now c.args.turn.now.formula.value c.args.turn.now.atom _ _
    c.deref.ensures c.in-Same.is c.in_ok-s.ensures.stage)) c.in_ok-push-in-Same.ensures

pub returns-in_ok-push-in-Same-clause-within : goal.returns-in_ok-push-in-Same-clause-within
returns-in_ok-push-in-Same-clause-within c =
    subst (λ f. IsWithinLimits c.args.s (form_of f) c.args.turn.now.atom) c.deref.ensures
    c.in_ok-s.ensures.within

pub coerce_all-requires-clause-like : goal.coerce_all-requires-clause-like
coerce_all-requires-clause-like c =
    subst (IsShaped (form_in c.args.x.now))
    (sym (made-from c.args.s _ _ c.in-Choices.is c.in_ok-s.ensures.from))
    c.requires.shaped

pub coerce_all-requires-clause-from : goal.coerce_all-requires-clause-from
coerce_all-requires-clause-from c =
    subst (IsStableIn (form_in c.args.x.now))
    (sym (made-from c.args.s _ _ c.in-Choices.is c.in_ok-s.ensures.from))
    c.requires.stable

pub coerce_all-requires-clause-shaped : goal.coerce_all-requires-clause-shaped
coerce_all-requires-clause-shaped c =
    let p = form_in c.args.x.now
    in let choices = c.in-Choices.choices
    in let ls = choices_at c.args.s (focus_place c.args.turn.now)
    in tables-shaped p choices ls
    (tables-of p c.args.s c.requires.shaped choices ls
    (made-stage c.args.s c.deref.result.now c.args.turn.now.formula.value c.args.turn.now.atom
    _ _ c.deref.ensures c.in-Choices.is c.in_ok-s.ensures.stage))

pub coerce_all-requires-clause-within : goal.coerce_all-requires-clause-within
coerce_all-requires-clause-within c = λ k d lt. tt

pub coerce_all-requires-clause-count : goal.coerce_all-requires-clause-count
coerce_all-requires-clause-count c =
    ap length c.deref-in-Choices.ensures ∙ c.requires.waiting.count ∙ ap length (sym c.requires.ready.rules)

pub coerce_all-requires-clause-rest : goal.coerce_all-requires-clause-rest
coerce_all-requires-clause-rest c =
    let x = c.args.x.now
    in let p = form_in x
    in let s = c.args.s
    in let place = focus_place c.args.turn.now
    in let choices = c.in-Choices.choices
    in subst (λ set. All (IsStableBut (rules_of x.closed.now) set) choices) (sym c.deref-in-Choices.ensures)
    (focus-rest p c.requires.ready.valid s place choices (length x.program.now.vocab.preds)
    (rules_of x.closed.now) c.args.turn.now.waiting.value c.requires.ready.rules c.requires.shaped c.requires.stable
    (tables-of p s c.requires.shaped choices (choices_at s place)
    (made-stage s c.deref.result.now c.args.turn.now.formula.value c.args.turn.now.atom _ _
    c.deref.ensures c.in-Choices.is c.in_ok-s.ensures.stage))
    (atoms-fit p s place.formula c.requires.shaped c.requires.place.formula) c.requires.place.atom
    (ap length (shaped-over x.program.now s c.requires.shaped)
    ∙ length-map x.program.now.vocab.preds (λ pred. pred.arity))
    (subst (λ rules. WaitsAt (length x.program.now.vocab.preds) place.formula rules c.args.turn.now.waiting.value)
    (sym c.requires.ready.rules) c.requires.waiting))

pub returns-in_ok-coerce_all-in-Choices-clause-out : goal.returns-in_ok-coerce_all-in-Choices-clause-out
returns-in_ok-coerce_all-in-Choices-clause-out c =
    let p = form_in c.args.x.now
    in let s = c.args.s
    in let choices = c.in-Choices.choices
    in let place = focus_place c.args.turn.now
    in focus-adds p place s choices c.args.out.now c.coerce_all.new.out
    (tables-of p s c.requires.shaped choices (choices_at s place)
    (made-stage s c.deref.result.now c.args.turn.now.formula.value c.args.turn.now.atom _ _
    c.deref.ensures c.in-Choices.is c.in_ok-s.ensures.stage)) c.in_ok-coerce_all-in-Choices.ensures.out

pub returns-in_ok-coerce_all-in-Choices-clause-within : goal.returns-in_ok-coerce_all-in-Choices-clause-within
returns-in_ok-coerce_all-in-Choices-clause-within c =
    subst (λ f. IsWithinLimits c.args.s (form_of f) c.args.turn.now.atom) c.deref.ensures
    c.in_ok-s.ensures.within

pub walk_choices-requires : goal.walk_choices-requires
walk_choices-requires c =
    let x = c.args.x.now
    in let p = form_in x
    in let s = c.args.s
    in let place = focus_place c.args.turn.now
    in let choosing = c.in-Many.choosing
    in let from = made-from s _ _ c.in-Many.is c.in_ok-s.ensures.from
    in let tables = tables_in c.in-Many.from choosing
    in record {
      can = record {
        valid = c.requires.ready.valid;
        rules = c.requires.ready.rules;
        room = c.requires.ready.room;
        shaped = subst (IsShaped p) (sym from) c.requires.shaped;
        stable = subst (IsStableIn p) (sym from) c.requires.stable;
        choosing = subst CanBeMade c.in-Many.is c.in_ok-s.ensures.ready;
        count = ap length c.deref-in-Many.ensures ∙ c.requires.waiting.count ∙ ap length (sym c.requires.ready.rules);
        rest = subst (λ set. All (IsStableBut (rules_of x.closed.now) set) tables) (sym c.deref-in-Many.ensures)
            (focus-rest p c.requires.ready.valid s place tables (length x.program.now.vocab.preds)
            (rules_of x.closed.now) c.args.turn.now.waiting.value c.requires.ready.rules c.requires.shaped
            c.requires.stable
            (tables-of p s c.requires.shaped tables (choices_at s place)
            (made-stage s c.deref.result.now c.args.turn.now.formula.value c.args.turn.now.atom _ _
            c.deref.ensures c.in-Many.is c.in_ok-s.ensures.stage))
            (atoms-fit p s place.formula c.requires.shaped c.requires.place.formula) c.requires.place.atom
            (ap length (shaped-over x.program.now s c.requires.shaped)
            ∙ length-map x.program.now.vocab.preds (λ pred. pred.arity))
            (subst (λ rules. WaitsAt (length x.program.now.vocab.preds) place.formula rules c.args.turn.now.waiting.value)
            (sym c.requires.ready.rules) c.requires.waiting));
      };
    }

pub returns-in_ok-walk_choices-in-Many-clause-out : goal.returns-in_ok-walk_choices-in-Many-clause-out
returns-in_ok-walk_choices-in-Many-clause-out c =
    let p = form_in c.args.x.now
    in let s = c.args.s
    in let place = focus_place c.args.turn.now
    in let tables = tables_in c.in-Many.from c.in-Many.choosing
    in focus-adds p place s tables c.args.out.now c.walk_choices.new.out
    (tables-of p s c.requires.shaped tables (choices_at s place)
    (made-stage s c.deref.result.now c.args.turn.now.formula.value c.args.turn.now.atom _ _
    c.deref.ensures c.in-Many.is c.in_ok-s.ensures.stage)) c.in_ok-walk_choices-in-Many.ensures.out

pub returns-in_ok-walk_choices-in-Many-clause-within : goal.returns-in_ok-walk_choices-in-Many-clause-within
returns-in_ok-walk_choices-in-Many-clause-within c =
    subst (λ f. IsWithinLimits c.args.s (form_of f) c.args.turn.now.atom) c.deref.ensures
    c.in_ok-s.ensures.within

pub coerce_all-requires-clause-met : goal.coerce_all-requires-clause-met
coerce_all-requires-clause-met c = λ k d lt n of. absurd (c.none.ensures n of)
