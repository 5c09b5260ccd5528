use Rattle.std.proofs.Common.{sym, subst, Contains}
use Rattle.std.proofs.lemmas.List.Sorted.{Contains-permutation}
use Rattle.tv_coerce_sets.proofs.preds.updated.Goals as goal

pub returns : goal.returns
returns c q at =
    Contains-permutation c.in_ok-preds.preds.items c.sort_unstable.new.self.items q c.sort_unstable.ensures.permutation
    (subst (λ qs. Contains qs q) (sym c.in_ok-preds.ensures) at)
