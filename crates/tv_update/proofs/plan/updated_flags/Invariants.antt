use Rattle.std.proofs.Common.{ℕ, ◌≡◌, length, map, take}
use Rattle.std.specs.Prelude.{is_some}
use Rattle.tv_model.specs.Program.{program_of, update_of}
use Rattle.tv_update.specs.Plan.{is_set}
use Rattle.tv_update.specs.Updated.{used_in}
use Rattle.tv_update.proofs.plan.updated_flags.Given as goal

abbrev pub invariant-loop-w : goal.invariant-loop-w
invariant-loop-w l = record {
  count : length l.flags.items ≡ length l.applied.program.now.vocab.preds;
  each : (q : ℕ) → is_set l.flags.items q
      ≡ is_some (used_in (program_of l.applied.program.now) l.applied.mode
      (map update_of (take l.w-index l.updates)) q);
}
