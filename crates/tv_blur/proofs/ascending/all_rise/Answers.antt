use Rattle.std.proofs.Common.{◌∙◌, sym, take}
use Rattle.tv_kleene.proofs.Lattice.{different-told}
use Rattle.tv_row.proofs.Extremes.{all_possible}
use Rattle.tv_blur.proofs.ascending.all_rise.Goals as goal

pub returns : goal.returns
returns c =
    let told = different-told _ _ _ c.ne.ensures
    in (
      λ t. (all_possible (take c.args.n c.args.rises)).0 (λ none. told.0 t (c.least.ensures ∙ none)),
      λ has. told.1 (λ none. (all_possible (take c.args.n c.args.rises)).1 has (sym c.least.ensures ∙ none)),
    )
