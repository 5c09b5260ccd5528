use Rattle.std.proofs.Common.{◌≡◌, drop, map}
use Rattle.tv_tree.specs.Copies.{decl_of, decls_of, nests}
use Rattle.tv_expand.specs.Origins.{written}
use Rattle.tv_expand.proofs.marks.+behind.Given as goal

-- the marks that are left, without those of the declarations that are left, are those behind all
abbrev pub invariant-behind_decls-loop-decl : goal.invariant-behind_decls-loop-decl
invariant-behind_decls-loop-decl l =
    drop (written (nests (map decl_of (drop l.decl-index l.decl-items)))) l.left
    ≡ drop (written (decls_of l.decls)) l.marks
