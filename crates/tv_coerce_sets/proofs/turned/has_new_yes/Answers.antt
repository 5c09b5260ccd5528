use Rattle.std.proofs.Common.{◌∙◌, ap}
use Rattle.tv_row.specs.Bits.{greatest_in, paired, yes_unless_no}
use Rattle.tv_coerce_sets.proofs.Turning.{none-new-yes, unless-yes}
use Rattle.tv_coerce_sets.proofs.turned.has_new_yes.Goals as goal

pub returns : goal.returns
returns c =
    unless-yes c.is_yes.result c.greatest.result _ c.is_yes.ensures
    (λ none. none-new-yes c.args.n c.args.before c.args.now c.requires.few c.requires.before c.requires.now
    (λ e. none (c.greatest.ensures
    ∙ ap greatest_in (c.unless_no.ensures ∙ ap (paired yes_unless_no c.args.now) c.not.ensures) ∙ e)))
