use Rattle.std.proofs.Common.{◌≡◌, drop, map}
use Rattle.tv_tree.specs.Copies.{decl_of, decls_of, nests}
use Rattle.tv_expand.specs.Outcome.{each}
use Rattle.tv_expand.specs.Origins.{all_noted, marked}
use Rattle.tv_flat.specs.Replaced.{bound}
use Rattle.tv_flat.specs.Views.{binding_of}
use Rattle.tv_expand.specs.Views.{names_of}
use Rattle.tv_expand.specs.States.{noted_of}
use Rattle.tv_expand.proofs.declare.+declare.Given as goal

-- the state so far and the members that are left give what all members give
abbrev pub invariant-declare_each-loop-word : goal.invariant-declare_each-loop-word
invariant-declare_each-loop-word l =
    each (λ x. all_noted (bound (binding_of l.binding) l.var x) (marked l.marks (decls_of l.body)))
    (names_of (drop l.word-index l.words)) (noted_of l.state)
    ≡ each (λ x. all_noted (bound (binding_of l.binding) l.var x) (marked l.marks (decls_of l.body)))
    (names_of l.words) (noted_of l.initial.state)

-- the state so far and the declarations that are left give what all declarations give
abbrev pub invariant-declare_all-loop-decl : goal.invariant-declare_all-loop-decl
invariant-declare_all-loop-decl l =
    all_noted (binding_of l.binding) (marked l.left (nests (map decl_of (drop l.decl-index l.decl-items))))
    (noted_of l.state)
    ≡ all_noted (binding_of l.binding) (marked l.marks (decls_of l.decls)) (noted_of l.initial.state)
