use Rattle.std.proofs.Common.{◌≡◌, ◌≢◌, ◌∙◌, map, sym, ap, subst}
use Rattle.std.specs.Prelude.{Any}
use Rattle.tv_kleene.specs.declared.K3.TheVariants.{No}
use Rattle.tv_kleene.specs.Kleene.{smaller_of, negation_of}
use Rattle.tv_row.specs.Bits.{paired}
use Rattle.tv_two_valued.proofs.Definite.{halves-found}
use Rattle.tv_two_valued.proofs.whether.has_half.Goals as goal

pub returns : goal.returns
returns c =
    let row = c.args.row.now
    in let pairs : c.and.result ≡ paired smaller_of row (map negation_of row) = c.and.ensures ∙ ap (paired smaller_of row) c.not.ensures
    in let found = halves-found row
    in (
      λ t. found.0 (subst (Any (λ x. x ≢ No)) pairs (c.has_possible.ensures.0 t)),
      λ any. c.has_possible.ensures.1 (subst (Any (λ x. x ≢ No)) (sym pairs) (found.1 any)),
    )
