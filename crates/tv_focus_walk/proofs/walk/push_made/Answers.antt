use Rattle.std.proofs.Common.{◌∙◌, [], ◌∷◌, ap, subst, sym}
use Rattle.std.proofs.lemmas.List.{append-nil}
use Rattle.tv_structure_form.specs.StructureForm.{StructureForm, IsStructure, arities_of}
use Rattle.tv_rules.specs.EntryForms.{rules_of}
use Rattle.tv_coerce.specs.RuleSets.{IsStableBut}
use Rattle.tv_step_laws.specs.Transfer.{Coerces}
use Rattle.tv_focus_walk.specs.Walk.{walk_program, walk_table}
use Rattle.tv_focus_walk.proofs.Choices.{adds-one, push-adds}
use Rattle.tv_focus_walk.proofs.Coercing.{can-coerce, choice-rest, choice-table, none-coerces, some-coerces}
use Rattle.tv_focus_walk.proofs.walk.push_made.Goals as goal

pub coerce_in_place-requires-clause-ready : goal.coerce_in_place-requires-clause-ready
coerce_in_place-requires-clause-ready c =
    let w = c.args.w.now
    in let shows = choice-table w c.args.scratch.now c.args.choice.now c.requires.can c.requires.choice
    in can-coerce w c.args.scratch.now c.in_ok-t.t c.requires.can
    (ap (λ (x : StructureForm). arities_of x) c.in_ok-t.ensures ∙ shows.over)
    (subst IsStructure (sym c.in_ok-t.ensures) shows.is)

pub coerce_in_place-requires-clause-rest : goal.coerce_in_place-requires-clause-rest
coerce_in_place-requires-clause-rest c =
    let w = c.args.w.now
    in subst (λ set. IsStableBut (rules_of w.closed.now) set c.in_ok-t.t) (sym c.in_ok-waiting.ensures)
    (subst (IsStableBut (rules_of w.closed.now) w.waiting.now) (sym c.in_ok-t.ensures)
    (choice-rest w c.args.scratch.now c.args.choice.now c.requires.can c.requires.choice))

pub returns-in-None-clause-out : goal.returns-in-None-clause-out
returns-in-None-clause-out c =
    let w = c.args.w.now
    in adds-one w (walk_table w c.args.choice.now) [] c.args.out.now c.args.out.now
    (subst (λ t. Coerces (walk_program w) t []) c.in_ok-t.ensures
    (none-coerces w c.args.scratch.now c.in_ok-t.t c.in_ok-coerce_in_place.field-0 c.requires.can
    c.in_ok-coerce_in_place.ensures.exact c.in-None.is))
    (sym (append-nil c.args.out.now))

pub returns-in-Some-clause-out : goal.returns-in-Some-clause-out
returns-in-Some-clause-out c =
    let w = c.args.w.now
    in let shows = choice-table w c.args.scratch.now c.args.choice.now c.requires.can c.requires.choice
    in push-adds w (walk_table w c.args.choice.now) c.push.result c.args.out.now c.push.new.self c.in-Some.t
    (subst (λ t. Coerces (walk_program w) t (c.in-Some.t ∷ [])) c.in_ok-t.ensures
    (some-coerces w c.args.scratch.now c.in_ok-t.t c.in-Some.t c.in_ok-coerce_in_place.field-0 c.requires.can
    (ap (λ (x : StructureForm). arities_of x) c.in_ok-t.ensures ∙ shows.over)
    c.in_ok-coerce_in_place.ensures.exact c.in-Some.is))
    c.push.ensures
