use Rattle.std.proofs.Common.{◌≡◌, ◌++◌, drop}
use Rattle.tv_stages_text.specs.Texts.{each_from, result_text}
use Rattle.tv_stages_text.proofs.stages.StageWriter.append_results.Given as goal

abbrev pub invariant-loop-number : goal.invariant-loop-number
invariant-loop-number l =
    l.out.items ++ each_from (result_text l.self) l.number (drop l.number l.results)
    ≡ l.fn.out.items ++ each_from (result_text l.self) 0 l.results
