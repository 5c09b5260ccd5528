use Rattle.std.proofs.Common.{◌≡◌, ◌∙◌, List, length, rules, ap, get_or}
use Rattle.tv_coerce.specs.RuleSets.{IsStableBut}
use Rattle.tv_rules.specs.EntryForms.{rules_of}
use Rattle.tv_structure_form.specs.StructureForm.{StructureForm}
use Rattle.tv_step.specs.Changed.{IsFew}
use Rattle.tv_step.specs.Redefined.{IsMetBy}
use Rattle.tv_step.specs.Setting.{form_in}
use Rattle.tv_step.proofs.Adding.{all-only, of-only, only-one}
use Rattle.tv_step.proofs.coerced.coerce_all.Goals as goal

pub waiting_in-requires-clause-rest : goal.waiting_in-requires-clause-rest
waiting_in-requires-clause-rest c =
    let s = c.index-as_slice-0.result
    in let is-one : length c.args.structures ≡ 1 = search rules
    in of-only (IsStableBut (rules_of c.args.x.now.closed.now) c.args.waiting.now) c.args.structures s
    (only-one c.args.structures s is-one
    (c.index-as_slice-0.is ∙ ap (λ (xs : List StructureForm). get_or xs 0 s) c.as_slice.ensures)) c.requires.rest

pub waiting_in-requires-clause-met : goal.waiting_in-requires-clause-met
waiting_in-requires-clause-met c =
    let s = c.index-as_slice-0.result
    in let is-one : length c.args.structures ≡ 1 = search rules
    in of-only (IsMetBy c.args.parent.now.redefined (rules_of c.args.x.now.closed.now)) c.args.structures s
    (only-one c.args.structures s is-one
    (c.index-as_slice-0.is ∙ ap (λ (xs : List StructureForm). get_or xs 0 s) c.as_slice.ensures)) c.requires.met

pub coerce_only-requires-clause-few : goal.coerce_only-requires-clause-few
coerce_only-requires-clause-few c =
    let s = c.index-as_slice-0.result
    in let is-one : length c.args.structures ≡ 1 = search rules
    in all-only (λ (t : StructureForm). IsFew (form_in c.args.x.now) (rules_of c.args.x.now.closed.now) t c.in_ok-found.found)
    c.args.structures s
    (only-one c.args.structures s is-one
    (c.index-as_slice-0.is ∙ ap (λ (xs : List StructureForm). get_or xs 0 s) c.as_slice.ensures))
    c.in_ok-found.ensures
