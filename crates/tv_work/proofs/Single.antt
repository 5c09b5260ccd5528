-- There is one analysis: what is listed, and the lines, are fixed by what they have and by their order.
use Rattle.std.proofs.Common.{◌<◌, inl, inr, [], get_or, sym}
use Rattle.std.proofs.Common.{subst}
use Rattle.std.proofs.Common.{◌∙◌, arith}
use Rattle.std.proofs.lemmas.List.{ext_get_or}
use Rattle.tv_model.proofs.Ordered.{ordered_same}
use Rattle.tv_listing.specs.declared.analysis.MessageLine.{MessageLine}
use Rattle.tv_step_laws.proofs.Exact.{sorted-same}
use Rattle.tv_struct.specs.Order.{structure_cmp, structure_cmp_total}
use Rattle.tv_work.specs.Analyzed.{IsBefore}
use Rattle.tv_work.specs.Laws.{AnalysesAreOne}

-- ---- lines in their order

pub lines_apart : (l m : MessageLine) → IsBefore l m → IsBefore m l → ⊥
lines_apart l m (inl a) (inl b) = omega (arith, a, b)
lines_apart l m (inl a) (inr b) = omega (arith, a, b.0)
lines_apart l m (inr a) (inl b) = omega (arith, a.0, b)
lines_apart l m (inr a) (inr b) = omega (arith, a.1, b.1)

-- ---- the law

pub one_analysis : AnalysesAreOne
one_analysis p mode initial max most listing other lines others a b = (
  ext_get_or [] listing other (a.nodes ∙ sym b.nodes) (λ node lt.
      sorted-same structure_cmp structure_cmp_total (get_or listing node []) (get_or other node [])
      (a.sorted node [] lt) (b.sorted node [] (subst (λ n. node < n) (a.nodes ∙ sym b.nodes) lt))
      (λ s there. (b.exact node s).1 ((a.exact node s).0 there))
      (λ s there. (a.exact node s).1 ((b.exact node s).0 there))),
  ordered_same IsBefore lines_apart lines others a.ordered b.ordered
      (λ line there. (b.reported line).1 ((a.reported line).0 there))
      (λ line there. (a.reported line).1 ((b.reported line).0 there)),
)
