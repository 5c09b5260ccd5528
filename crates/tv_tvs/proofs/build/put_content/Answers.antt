use Rattle.std.proofs.Common.{ap, refl, ◌∙◌}
use Rattle.tv_tvs.specs.Targets.{subject_form}
use Rattle.tv_tvs.specs.Meaning.{subject_arity, fits}
use Rattle.tv_tvs.specs.Views.{content_tree}
use Rattle.tv_tvs.proofs.Building.{value_place, items_have}
use Rattle.tv_tvs.proofs.build.put_content.Goals as goal

pub put_value-requires : goal.put_value-requires
put_value-requires c =
    value_place c.args.target c.args.s.now c.args.content.now _ c.fits.result c.arity.result (cc) c.fits.ensures c.arity.ensures c.in-OneValue.is c.requires.has

pub put_items-requires-clause-fits : goal.put_items-requires-clause-fits
put_items-requires-clause-fits c =
    items_have c.args.bytes.now c.args.content.now c.as_slice.result.now c.fits.result c.arity.result (subject_arity (subject_form c.args.target)) (cc) c.fits.ensures c.arity.ensures
    (λ bytes. ap (λ x. fits c.arity.result (content_tree bytes x)) c.in-Listed.is ∙ rw c.as_slice.ensures.value refl)
