use Rattle.std.proofs.Common.{◌∙◌, ap, get_or, sym}
use Rattle.tv_kleene.specs.declared.K3.TheVariants.{No}
use Rattle.tv_blur.proofs.RowLaws.{joined-one}
use Rattle.tv_blur.proofs.words.value_in.Goals as goal

pub returns : goal.returns
returns c =
    joined-one c.args.word c.args.members.now c.get.result c.requires.some
    (sym c.has_several.ensures ∙ c.if-has_several.false)
    (c.get.ensures ∙ ap (λ u. get_or c.args.word u No) c.first.ensures)
