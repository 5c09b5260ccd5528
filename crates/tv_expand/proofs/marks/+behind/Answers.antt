use Rattle.std.proofs.Common.{ap, drop, sym}
use Rattle.tv_tree.proofs.Unfolds.{decls_of_items}
use Rattle.tv_expand.specs.Origins.{written}
use Rattle.tv_expand.proofs.marks.+behind.Goals as goal

pub behind_decls-loop-decl-init : goal.behind_decls-loop-decl-init
behind_decls-loop-decl-init t c =
    rw c.deref-decl-items.ensures.value
    (ap (λ ds. drop (written ds) c.args.marks.now) (sym (decls_of_items c.args.decls.now)))
