use Rattle.std.proofs.Common.{◌≡◌, drop, map}
use Rattle.tv_tree.specs.Copies.{nests, decl_of, decls_of}
use Rattle.tv_expand.specs.Idle.{is_idle}
use Rattle.tv_expand.specs.Views.{sets_of}
use Rattle.tv_expand.proofs.idle.+decls.Given as goal

-- the declarations that are left decide
abbrev pub invariant-are_idle_decls-loop-decl : goal.invariant-are_idle_decls-loop-decl
invariant-are_idle_decls-loop-decl l = is_idle (sets_of l.sets.entries) (nests (map decl_of (drop l.decl-index l.decl-items))) ≡ is_idle (sets_of l.sets.entries) (decls_of l.decls)
