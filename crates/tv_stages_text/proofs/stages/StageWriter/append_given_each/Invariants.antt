use Rattle.std.proofs.Common.{◌≡◌, ◌++◌, drop}
use Rattle.tv_stages_text.specs.Texts.{each_from, given_text}
use Rattle.tv_stages_text.proofs.stages.StageWriter.append_given_each.Given as goal

abbrev pub invariant-loop-number : goal.invariant-loop-number
invariant-loop-number l =
    l.out.items ++ each_from (given_text l.self) l.number (drop l.number l.given)
    ≡ l.fn.out.items ++ each_from (given_text l.self) 0 l.given
