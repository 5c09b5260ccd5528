use Rattle.std.proofs.Common.{◌∙◌, sym}
use Rattle.tv_kleene.proofs.Lattice.{same-told}
use Rattle.tv_row.proofs.Extremes.{all_yes}
use Rattle.tv_row.proofs.row.Row.are_yes.Goals as goal

pub returns : goal.returns
returns c =
    let told = same-told _ _ _ c.eq.ensures.computes
    in (λ t. (all_yes c.args.self.now).0 (sym c.least.ensures ∙ told.0 t), λ has. told.1 (c.least.ensures ∙ (all_yes c.args.self.now).1 has))
