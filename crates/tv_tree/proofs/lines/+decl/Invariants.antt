use Rattle.std.proofs.Common.{◌≡◌, ◌++◌, drop, map}
use Rattle.tv_tree.specs.Copies.{decl_of, decls_of, nests}
use Rattle.tv_tree.specs.Printed.{text_of_lines, nests_lines, decl_tokens}
use Rattle.tv_tree.proofs.lines.+decl.Given as goal

-- the lines so far and those that are left are all of them
abbrev pub invariant-print_decls-loop-decl : goal.invariant-print_decls-loop-decl
invariant-print_decls-loop-decl l = l.out.items ++ text_of_lines (nests_lines decl_tokens (nests (map decl_of (drop l.decl-index l.decl-items)))) ≡ l.initial.out.items ++ text_of_lines (nests_lines decl_tokens (decls_of l.decls))
