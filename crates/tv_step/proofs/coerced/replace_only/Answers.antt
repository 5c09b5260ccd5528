use Rattle.tv_rules.specs.EntryForms.{rules_of}
use Rattle.tv_structure_form.specs.StructureForm.{StructureForm}
use Rattle.tv_step_laws.specs.Shaped.{IsShaped}
use Rattle.tv_step.specs.Changed.{IsFew}
use Rattle.tv_step.specs.Ending.{Becomes}
use Rattle.tv_step.specs.Setting.{form_in}
use Rattle.tv_step.proofs.Adding.{adds-only, of-only}
use Rattle.tv_step.proofs.coerced.replace_only.Goals as goal

pub coerce_if_unmet-requires-clause-shaped : goal.coerce_if_unmet-requires-clause-shaped
coerce_if_unmet-requires-clause-shaped c =
    of-only (IsShaped (form_in c.args.x.now)) c.args.structures c.take_only-s.result.0 c.take_only-s.ensures.one
    c.requires.shaped

pub coerce_if_unmet-requires-clause-few : goal.coerce_if_unmet-requires-clause-few
coerce_if_unmet-requires-clause-few c =
    of-only (λ (t : StructureForm). IsFew (form_in c.args.x.now) (rules_of c.args.x.now.closed.now) t c.args.found)
    c.args.structures c.take_only-s.result.0 c.take_only-s.ensures.one c.requires.few

pub returns-clause-out : goal.returns-clause-out
returns-clause-out c =
    adds-only (Becomes c.args.ending (form_in c.args.x.now)) c.args.structures c.take_only-s.result.0 c.args.out.now
    c.take_only-s.result.1 c.coerce_if_unmet.new.out c.take_only-s.ensures.one c.requires.none c.take_only-s.ensures.none
    c.in_ok-coerce_if_unmet.ensures.out
