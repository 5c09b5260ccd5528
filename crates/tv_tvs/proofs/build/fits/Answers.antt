use Rattle.std.proofs.Common.{ap, refl, ◌∙◌}
use Rattle.tv_tvs.specs.Meaning.{fits}
use Rattle.tv_tvs.specs.Views.{content_tree}
use Rattle.tv_tvs.proofs.Building.{listed_fits}
use Rattle.tv_tvs.proofs.build.fits.Goals as goal

pub returns-then-arity-ne0 : goal.returns-then-arity-ne0
returns-then-arity-ne0 c =
    listed_fits c.args.content.now c.as_slice.result.now c.args.arity c.each_has.result c.if-arity-ne0.true c.each_has.ensures
    (λ bytes. ap (λ x. fits c.args.arity (content_tree bytes x)) c.in-Listed.is ∙ rw c.as_slice.ensures.value refl)
