use Rattle.std.proofs.Common.{◌≡◌, drop, map}
use Rattle.tv_tree.specs.Copies.{nests, decl_of, decls_of}
use Rattle.tv_expand.specs.Idle.{is_apart}
use Rattle.tv_expand.proofs.apart.+decls.Given as goal

-- what is left decides
abbrev pub invariant-are_apart_decls-loop-decl : goal.invariant-are_apart_decls-loop-decl
invariant-are_apart_decls-loop-decl l = is_apart l.word (nests (map decl_of (drop l.decl-index l.decl-items))) ≡ is_apart l.word (decls_of l.decls)
