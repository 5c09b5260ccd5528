use Rattle.std.proofs.Common.{◌≡◌, ◌++◌, drop}
use Rattle.tv_stages_text.specs.Texts.{each_from, pick_text}
use Rattle.tv_stages_text.proofs.stages.StageWriter.append_picks.Given as goal

abbrev pub invariant-loop-k : goal.invariant-loop-k
invariant-loop-k l =
    l.out.items ++ each_from (λ _ pick. pick_text l.self pick) l.k (drop l.k l.picks)
    ≡ l.fn.out.items ++ each_from (λ _ pick. pick_text l.self pick) 0 l.picks
