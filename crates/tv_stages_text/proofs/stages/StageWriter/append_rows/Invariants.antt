use Rattle.std.proofs.Common.{◌≡◌, ◌++◌, drop}
use Rattle.tv_stages_text.specs.Texts.{each_from, turn_text}
use Rattle.tv_stages_text.proofs.stages.StageWriter.append_rows.Given as goal

abbrev pub invariant-loop-k : goal.invariant-loop-k
invariant-loop-k l =
    l.out.items ++ each_from (λ _ row. turn_text l.self row) l.k (drop l.k l.rows)
    ≡ l.fn.out.items ++ each_from (λ _ row. turn_text l.self row) 0 l.rows
