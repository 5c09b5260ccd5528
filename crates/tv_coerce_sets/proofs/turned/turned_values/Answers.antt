use Rattle.std.proofs.Common.{◌∙◌, [], Some, ap, subst}
use Rattle.tv_structure_form.specs.StructureForm.{value_at}
use Rattle.tv_coerce_sets.specs.Turned.{Tells}
use Rattle.tv_coerce_sets.proofs.Turning.{turned-nullary}
use Rattle.tv_coerce_sets.proofs.turned.turned_values.Goals as goal

pub returns-in-0 : goal.returns-in-0
returns-in-0 c =
    turned-nullary c.turned_value.result c.args.s.now c.args.t.now c.args.p.0 c.requires.over
    (c.arity.ensures.value ∙ ap Some c.in-0.is)
    (subst (λ x. Tells c.turned_value.result x (value_at c.args.t.now c.args.p.0 [])) c.get.ensures
    (subst (λ y. Tells c.turned_value.result c.get.result y) c.get-in-0.ensures c.turned_value.ensures))
