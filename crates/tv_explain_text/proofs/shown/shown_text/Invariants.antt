use Rattle.std.proofs.Common.{◌≡◌, ◌++◌, drop}
use Rattle.tv_explain_text.specs.Texts.{nodes_text, shown_text}
use Rattle.tv_explain_text.proofs.shown.shown_text.Given as goal

abbrev pub invariant-loop-number : goal.invariant-loop-number
invariant-loop-number l =
    l.out.items ++ nodes_text l.program.vocab l.listing l.number (drop l.number l.program.nodes)
    ≡ shown_text l.program l.listing
