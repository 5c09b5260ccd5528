-- What the plain data of each statement and block is, for the crates above.
use Rattle.std.proofs.Common.{◌≡◌, ◌∙◌, map, ap, sym}
use Rattle.tv_source.specs.Copies.{assign_of, test_of, stmts, stmt_step, block_step, stmt_of, block_of}
use Rattle.tv_source.specs.Forms.{Stmt, SAssign, SIf, SWhile, Stmts}
use Rattle.tv_source.specs.declared.source.Assign.{Assign}
use Rattle.tv_source.specs.declared.source.Block.{Block}
use Rattle.tv_source.specs.declared.source.Statement.TheFolds.{fold-roll-Statement, fold_out-Block}
use Rattle.tv_source.specs.declared.source.Statement.TheOpen as one
use Rattle.tv_source.specs.declared.source.Statement.TheVariants as at
use Rattle.tv_source.specs.declared.source.Test.{Test}

pub stmt_of_assign : (a : Assign) → stmt_of (at.Assign a) ≡ SAssign (assign_of a)
stmt_of_assign a = ap stmt_of (sym (at.rolls-Assign a)) ∙ fold-roll-Statement Stmt Stmts stmt_step block_step (one.Assign a)

pub stmt_of_if : (t : Test) (then_ else_ : Block) → stmt_of (at.If t then_ else_) ≡ SIf (test_of t) (block_of then_) (block_of else_)
stmt_of_if t then_ else_ = ap stmt_of (sym (at.rolls-If t then_ else_)) ∙ fold-roll-Statement Stmt Stmts stmt_step block_step (one.If t then_ else_)

pub stmt_of_while : (t : Test) (body : Block) → stmt_of (at.While t body) ≡ SWhile (test_of t) (block_of body)
stmt_of_while t body = ap stmt_of (sym (at.rolls-While t body)) ∙ fold-roll-Statement Stmt Stmts stmt_step block_step (one.While t body)

pub block_of_items : (b : Block) → block_of b ≡ stmts (map stmt_of b.items.items)
block_of_items = fold_out-Block Stmt Stmts stmt_step block_step
