use Rattle.std.proofs.Common.{◌∙◌, sym}
use Rattle.tv_kleene.proofs.Lattice.{different-told}
use Rattle.tv_row.proofs.Extremes.{any_possible}
use Rattle.tv_row.proofs.row.Row.has_possible.Goals as goal

pub returns : goal.returns
returns c =
    let told = different-told _ _ _ c.ne.ensures
    in (λ t. (any_possible c.args.self.now).0 (λ no. told.0 t (c.greatest.ensures ∙ no)), λ has. told.1 (λ no. (any_possible c.args.self.now).1 has (sym c.greatest.ensures ∙ no)))
