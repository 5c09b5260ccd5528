use Rattle.std.proofs.Common.{◌∙◌, [], ◌∷◌, ap, subst, sym}
use Rattle.std.proofs.lemmas.List.{append-nil}
use Rattle.tv_structure_form.specs.StructureForm.{StructureForm, IsStructure, arities_of}
use Rattle.tv_coerce.specs.RuleSets.{IsStableBut}
use Rattle.tv_rules.specs.EntryForms.{rules_of}
use Rattle.tv_step_laws.specs.Transfer.{Coerces}
use Rattle.tv_focus_walk.specs.Walk.{walk_program}
use Rattle.tv_focus_walk.proofs.Choices.{adds-one, push-adds}
use Rattle.tv_focus_walk.proofs.Coercing.{can-coerce, none-coerces, rest-stable, rest-waits, some-coerces}
use Rattle.tv_focus_walk.proofs.Coercing.{stable-coerces}
use Rattle.tv_focus_walk.proofs.walk.push_hand.Goals as goal

pub returns-then-is_nothing-clause-out : goal.returns-then-is_nothing-clause-out
returns-then-is_nothing-clause-out c =
    let w = c.args.w.now
    in let hand = c.args.hand.structure.now
    in push-adds w hand c.push.result c.args.out.now c.push.new.self c.in_ok-t.t
    (subst (λ t. Coerces (walk_program w) hand (t ∷ [])) (sym c.in_ok-t.ensures.value)
    (stable-coerces w c.args.scratch.now c.args.choice.now hand c.requires.can c.requires.hand.0.so
    (rest-stable w c.args.scratch.now c.args.hand.since hand c.requires.can c.requires.hand.0.rest
    (c.is_nothing.ensures c.if-is_nothing.true))))
    c.push.ensures

pub coerce_in_place-requires-clause-ready : goal.coerce_in_place-requires-clause-ready
coerce_in_place-requires-clause-ready c =
    can-coerce c.args.w.now c.args.scratch.now c.in_ok-t.t c.requires.can
    (ap (λ (x : StructureForm). arities_of x) c.in_ok-t.ensures.value ∙ c.requires.hand.0.so.over)
    (subst IsStructure (sym c.in_ok-t.ensures.value) c.requires.hand.0.so.is)

pub coerce_in_place-requires-clause-count : goal.coerce_in_place-requires-clause-count
coerce_in_place-requires-clause-count c = c.in_ok-waiting.ensures.count

pub coerce_in_place-requires-clause-rest : goal.coerce_in_place-requires-clause-rest
coerce_in_place-requires-clause-rest c =
    let w = c.args.w.now
    in subst (IsStableBut (rules_of w.closed.now) c.in_ok-waiting.waiting) (sym c.in_ok-t.ensures.value)
    (rest-waits w c.args.hand.since c.args.hand.structure.now c.in_ok-waiting.waiting c.requires.hand.0.rest
    c.in_ok-waiting.ensures)

pub returns-in-None-clause-out : goal.returns-in-None-clause-out
returns-in-None-clause-out c =
    let w = c.args.w.now
    in adds-one w c.args.hand.structure.now [] c.args.out.now c.args.out.now
    (subst (λ t. Coerces (walk_program w) t []) c.in_ok-t.ensures.value
    (none-coerces w c.args.scratch.now c.in_ok-t.t c.in_ok-coerce_in_place.field-0 c.requires.can
    c.in_ok-coerce_in_place.ensures.exact c.in-None.is))
    (sym (append-nil c.args.out.now))

pub returns-in-Some-clause-out : goal.returns-in-Some-clause-out
returns-in-Some-clause-out c =
    let w = c.args.w.now
    in push-adds w c.args.hand.structure.now c.push-in-Some.result c.args.out.now c.push-in-Some.new.self c.in-Some.t
    (subst (λ t. Coerces (walk_program w) t (c.in-Some.t ∷ [])) c.in_ok-t.ensures.value
    (some-coerces w c.args.scratch.now c.in_ok-t.t c.in-Some.t c.in_ok-coerce_in_place.field-0 c.requires.can
    (ap (λ (x : StructureForm). arities_of x) c.in_ok-t.ensures.value ∙ c.requires.hand.0.so.over)
    c.in_ok-coerce_in_place.ensures.exact c.in-Some.is))
    c.push-in-Some.ensures
