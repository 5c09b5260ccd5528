use Rattle.std.proofs.Common.{ℕ, ◌≡◌, ◌<◌, ◌↔◌, false, length}
use Rattle.std.specs.Prelude.{IsTrue}
use Rattle.tv_model.specs.Program.{program_of}
use Rattle.tv_update_laws.specs.Applied.{kind_at}
use Rattle.tv_update.specs.Plan.{is_set, IsDefined}
use Rattle.tv_update.proofs.plan.waiting_flags.Given as goal

abbrev pub invariant-loop-p : goal.invariant-loop-p
invariant-loop-p l = record {
  count : length l.flags.items ≡ l.p;
  each : (q : ℕ) → q < l.p
      → IsTrue (is_set l.flags.items q)
      ↔ (IsDefined (kind_at (program_of l.program) q) × (is_set l.changed q ≡ false));
}
