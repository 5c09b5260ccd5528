use Rattle.std.proofs.Common.{◌∙◌, sym}
use Rattle.tv_kleene.proofs.Lattice.{different-told}
use Rattle.tv_row.proofs.Extremes.{all_possible}
use Rattle.tv_row.proofs.row.Row.are_possible.Goals as goal

pub returns : goal.returns
returns c =
    let told = different-told _ _ _ c.ne.ensures
    in (λ t. (all_possible c.args.self.now).0 (λ no. told.0 t (c.least.ensures ∙ no)), λ has. told.1 (λ no. (all_possible c.args.self.now).1 has (sym c.least.ensures ∙ no)))
