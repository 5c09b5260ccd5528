use Rattle.std.proofs.Common.{◌≡◌, ◌++◌, drop}
use Rattle.tv_stages_text.specs.Texts.{each_from, at_hand_text}
use Rattle.tv_stages_text.proofs.stages.StageWriter.append_focused.Given as goal

abbrev pub invariant-loop-number : goal.invariant-loop-number
invariant-loop-number l =
    l.out.items ++ each_from (at_hand_text l.self) l.number (drop l.number l.focused)
    ≡ l.fn.out.items ++ each_from (at_hand_text l.self) 0 l.focused
