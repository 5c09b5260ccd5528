use Rattle.std.proofs.Common.{◌≢◌, ◌∙◌, ap, false, get_or, sym, true, ⊎_elim}
use Rattle.tv_kleene.specs.declared.K3.TheVariants.{No}
use Rattle.tv_blur.proofs.FillLaws.{flag_off, flag_on, summary_one}
use Rattle.tv_blur.proofs.merge.is_summary.Goals as goal

pub returns-in-No : goal.returns-in-No
returns-in-No c s is =
    summary_one s c.args.members.now false (sym c.has_several.ensures ∙ c.if-has_several.false)
    (flag_off s c.args.summaries.now (get_or c.args.members.now 0 0) is (c.requires.within 0 0 c.requires.some)
    (ap (λ u. get_or c.args.summaries.now u No) (sym c.first.ensures) ∙ sym c.get.ensures ∙ c.in-No.is))

pub returns-in-Half : goal.returns-in-Half
returns-in-Half c s is =
    let differ : c.get.result ≢ No = λ none. ⊎_elim (λ half. cc (half, none)) (λ certain. cc (certain, none)) c.in-Half.is
    in summary_one s c.args.members.now true (sym c.has_several.ensures ∙ c.if-has_several.false)
    (flag_on s c.args.summaries.now (get_or c.args.members.now 0 0) is (c.requires.within 0 0 c.requires.some)
    (λ none. differ (c.get.ensures ∙ ap (λ u. get_or c.args.summaries.now u No) c.first.ensures ∙ none)))
