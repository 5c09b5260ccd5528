use Rattle.std.proofs.Common.{◌≡◌, ◌∙◌, [], ◌∷◌, List, None, rules, ap, get_or, subst}
use Rattle.tv_rules.specs.EntryForms.{rules_of}
use Rattle.tv_structure_form.specs.StructureForm.{StructureForm}
use Rattle.tv_step_laws.specs.Shaped.{IsShaped}
use Rattle.tv_step_laws.proofs.Shapes.{shaped-over}
use Rattle.tv_step.specs.Changed.{IsFew}
use Rattle.tv_step.specs.Ending.{Becomes}
use Rattle.tv_step.specs.Setting.{form_in}
use Rattle.tv_step.proofs.Adding.{adds-itself, of-only, only-one}
use Rattle.tv_step.proofs.Finishing.{itself-becomes}
use Rattle.tv_step.proofs.coerced.coerce_only.Goals as goal

pub is_finished-requires : goal.is_finished-requires
is_finished-requires c =
    let s = c.index-as_slice-0.result
    in let one : c.args.structures ≡ s ∷ []
    = only-one c.args.structures s c.requires.one
    (c.index-as_slice-0.is ∙ ap (λ (xs : List StructureForm). get_or xs 0 s) c.as_slice.ensures)
    in shaped-over c.args.x.now.program.now s
    (of-only (IsShaped (form_in c.args.x.now)) c.args.structures s one c.requires.shaped)

pub returns-then-is_finished-clause-out : goal.returns-then-is_finished-clause-out
returns-then-is_finished-clause-out c =
    let s = c.index-as_slice-0.result
    in let p = form_in c.args.x.now
    in let rules_in = rules_of c.args.x.now.closed.now
    in let one : c.args.structures ≡ s ∷ []
    = only-one c.args.structures s c.requires.one
    (c.index-as_slice-0.is ∙ ap (λ (xs : List StructureForm). get_or xs 0 s) c.as_slice.ensures)
    in let none : c.args.found ≡ None = search rules
    in adds-itself (Becomes c.args.ending p) c.args.structures s c.args.out.now one c.requires.none
    (itself-becomes c.args.ending c.args.x.now.program.now s s
    (of-only (IsShaped p) c.args.structures s one c.requires.shaped)
    (subst (IsFew p rules_in s) none
    (of-only (λ (t : StructureForm). IsFew p rules_in t c.args.found) c.args.structures s one c.requires.few))
    (c.is_finished.ensures c.if-is_finished.true))
