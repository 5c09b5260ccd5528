use Rattle.std.proofs.Common.{◌≡◌, ◌++◌, take}
use Rattle.std.specs.List.{flat_map}
use Rattle.tv_stages_laws.specs.declared.record.Choice.{Choice}
use Rattle.tv_stages_laws.specs.Stages.{kept_by}
use Rattle.tv_stages.proofs.kept.push_kept_at.Given as goal

abbrev pub invariant-loop-choice : goal.invariant-loop-choice
invariant-loop-choice l =
    l.out ≡ l.fn.out ++ flat_map (λ (c : Choice). kept_by c.fate) (take l.choice-index l.x.choices)
