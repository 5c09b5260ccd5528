use Rattle.tv_update.specs.Drafts.{IsDraftOf}
use Rattle.tv_update.proofs.draft.settle_hinted.Given as goal

abbrev pub invariant-loop-p : goal.invariant-loop-p
invariant-loop-p l = IsDraftOf l.applied l.draft
