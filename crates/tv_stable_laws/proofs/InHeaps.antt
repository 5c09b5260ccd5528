-- Lemmas on heaps, for the crates above: read as structures they are stable exactly where they meet the
-- rules, and sharpening loses none of them.
use Rattle.std.proofs.Common.{inl, inr, ⊎_elim}
use Rattle.std.proofs.lemmas.Bool.{false≢true}
use Rattle.std.proofs.lemmas.List.Elements.{All-weaker}
use Rattle.tv_model.specs.Heap.{Heap}
use Rattle.tv_model.specs.Program.{RuleForm}
use Rattle.tv_model.specs.Rules.{MeetsRule, head_formula}
use Rattle.tv_model.proofs.Heads.{free-in_head}
use Rattle.tv_embedding_laws.specs.LogicalStructure.{heap_structure}
use Rattle.tv_eval_laws.specs.Laws.{TellsTruth}
use Rattle.tv_eval_laws.proofs.InHeaps.{heaps_tell_truth}
use Rattle.tv_stable_laws.specs.Stable.{IsStableUnder}
use Rattle.tv_stable_laws.specs.Laws.{StableHeapsMeetRules, SharpeningLosesNoHeap}
use Rattle.tv_stable_laws.proofs.Joined.{sharpening_loses_no_stable}

meets-from_stable : (h : Heap) (rule : RuleForm) → IsStableUnder (heap_structure h) rule → MeetsRule h rule
meets-from_stable h rule stable a inside true_body =
    let body : TellsTruth h a rule.body = heaps_tell_truth h a rule.body (λ v free. inside v (inl free))
    in let head : TellsTruth h a (head_formula rule.head)
    = heaps_tell_truth h a (head_formula rule.head) (λ v free. inside v (inr (free-in_head v rule.head free)))
    in ⊎_elim
    (λ e. head.yes.0 e)
    (λ may. absurd (false≢true may.summary))
    (stable a inside (body.yes.1 true_body))

stable-from_meets : (h : Heap) (rule : RuleForm) → MeetsRule h rule → IsStableUnder (heap_structure h) rule
stable-from_meets h rule meets a inside held =
    let body : TellsTruth h a rule.body = heaps_tell_truth h a rule.body (λ v free. inside v (inl free))
    in let head : TellsTruth h a (head_formula rule.head)
    = heaps_tell_truth h a (head_formula rule.head) (λ v free. inside v (inr (free-in_head v rule.head free)))
    in inl (head.yes.1 (meets a inside (body.yes.0 held)))

pub stable_heaps_meet_rules : StableHeapsMeetRules
stable_heaps_meet_rules h rules = (
  λ stable. All-weaker (IsStableUnder (heap_structure h)) (MeetsRule h)
      (λ rule s. meets-from_stable h rule s) rules stable,
  λ meets. All-weaker (MeetsRule h) (IsStableUnder (heap_structure h))
      (λ rule m. stable-from_meets h rule m) rules meets,
)

pub sharpening_loses_no_heap : SharpeningLosesNoHeap
sharpening_loses_no_heap m h t rules e plain meets =
    sharpening_loses_no_stable m (heap_structure h) t rules e plain ((stable_heaps_meet_rules h rules).1 meets)
