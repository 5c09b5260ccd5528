use Rattle.std.proofs.Common.{◌≡◌, ◌≢◌, ap, not, true, false}
use Rattle.std.specs.Prelude.{Any}
use Rattle.tv_kleene.specs.declared.K3.TheVariants.{No}
use Rattle.tv_focus.proofs.Lines.{half-shows}
use Rattle.tv_focus.proofs.known.is_definite.Goals as goal

pub returns : goal.returns
returns c holds u lt half =
    let any : Any (λ k. k ≢ No) c.and.result = rw (c.and.ensures, c.not.ensures) (half-shows c.args.row.now u lt half)
    in let has : c.has_possible.result ≡ true = c.has_possible.ensures.1 any
    in let off : not c.has_possible.result ≡ false = ap not has
    in let on : not c.has_possible.result ≡ true = holds in cc
