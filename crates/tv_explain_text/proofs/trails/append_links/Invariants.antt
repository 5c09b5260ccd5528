use Rattle.std.proofs.Common.{◌≡◌, ◌++◌, drop}
use Rattle.tv_explain_text.specs.Trails.{link_lines}
use Rattle.tv_explain_text.proofs.trails.append_links.Given as goal

abbrev pub invariant-loop-i : goal.invariant-loop-i
invariant-loop-i l =
    l.out.items ++ link_lines l.vocab l.heads (drop l.i l.links)
    ≡ l.initial.out.items ++ link_lines l.vocab l.heads l.links
