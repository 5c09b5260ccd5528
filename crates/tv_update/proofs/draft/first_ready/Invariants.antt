use Rattle.std.proofs.Common.{ℕ, ◌<◌}
use Rattle.std.specs.Prelude.{IsTrue}
use Rattle.tv_model.specs.Program.{program_of}
use Rattle.tv_update_laws.specs.Applied.{kind_at}
use Rattle.tv_update.specs.Plan.{is_set, RestsOn}
use Rattle.tv_update.proofs.draft.first_ready.Given as goal

abbrev pub invariant-loop-p : goal.invariant-loop-p
invariant-loop-p l = (q : ℕ) → q < l.p → IsTrue (is_set l.draft.waiting.items q)
    → RestsOn l.draft.waiting.items (kind_at (program_of l.program) q)
