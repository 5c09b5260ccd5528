-- What the plain data of each statement is.
use Rattle.std.proofs.Common.{◌≡◌, ℕ, List, map, sym, ◌∙◌, ap}
use Rattle.tv_source_syntax.specs.Forms.{StatementText, XAssign, XIf, XWhile, BlockText}
use Rattle.tv_source_syntax.specs.Copies.{assign_of, test_of, in_a_row, statement_step, block_step}
use Rattle.tv_source_syntax.specs.Copies.{statement_of, block_of}
use Rattle.tv_source_syntax.specs.declared.tree.AssignTree.{AssignTree}
use Rattle.tv_source_syntax.specs.declared.tree.TestTree.{TestTree}
use Rattle.tv_source_syntax.specs.declared.tree.StatementTree.TheVariants as at
use Rattle.tv_source_syntax.specs.declared.tree.StatementTree.TheOpen as one
use Rattle.tv_source_syntax.specs.declared.tree.StatementTree.TheFolds.{fold-roll-StatementTree}
use Rattle.tv_source_syntax.specs.declared.tree.StatementTree.TheFolds.{fold_out-BlockTree}
use Rattle.tv_source_syntax.specs.declared.tree.BlockTree.{BlockTree}

pub statement_of_assign : (bytes : List ℕ) (a : AssignTree) → statement_of bytes (at.Assign a) ≡ XAssign (assign_of bytes a)
statement_of_assign bytes a = ap (statement_of bytes) (sym (at.rolls-Assign a)) ∙ fold-roll-StatementTree StatementText BlockText (statement_step bytes) block_step (one.Assign a)

pub statement_of_if : (bytes : List ℕ) (t : TestTree) (body other : BlockTree) → statement_of bytes (at.If t body other) ≡ XIf (test_of bytes t) (block_of bytes body) (block_of bytes other)
statement_of_if bytes t body other = ap (statement_of bytes) (sym (at.rolls-If t body other)) ∙ fold-roll-StatementTree StatementText BlockText (statement_step bytes) block_step (one.If t body other)

pub statement_of_while : (bytes : List ℕ) (t : TestTree) (body : BlockTree) → statement_of bytes (at.While t body) ≡ XWhile (test_of bytes t) (block_of bytes body)
statement_of_while bytes t body = ap (statement_of bytes) (sym (at.rolls-While t body)) ∙ fold-roll-StatementTree StatementText BlockText (statement_step bytes) block_step (one.While t body)

pub block_of_items : (bytes : List ℕ) (b : BlockTree) → block_of bytes b ≡ in_a_row (map (statement_of bytes) b.items.items)
block_of_items bytes = fold_out-BlockTree StatementText BlockText (statement_step bytes) block_step
