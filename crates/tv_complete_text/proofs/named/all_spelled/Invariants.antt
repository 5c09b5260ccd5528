use Rattle.std.proofs.Common.{◌≡◌, map, take}
use Rattle.tv_tvs.specs.Tree.{name_text}
use Rattle.tv_complete_text.specs.Named.{entry_name_tree}
use Rattle.tv_complete_text.proofs.named.all_spelled.Given as goal

-- the names so far
abbrev pub invariant-loop-entry : goal.invariant-loop-entry
invariant-loop-entry l =
    l.names.items ≡ map (λ entry. name_text (entry_name_tree l.bytes entry)) (take l.entry-index l.entries)
