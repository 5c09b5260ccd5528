use Rattle.std.specs.Prelude.{count_by}
use Rattle.tv_update.specs.Drafts.{IsDraftOf}
use Rattle.tv_update.proofs.draft.settle_rest.Given as goal

abbrev pub invariant-loop-ready : goal.invariant-loop-ready
invariant-loop-ready l = IsDraftOf l.applied l.draft

abbrev pub decreases-loop-ready : goal.decreases-loop-ready
decreases-loop-ready l = count_by (λ flag. flag) l.draft.waiting.items
