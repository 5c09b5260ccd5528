-- The plain data that each value of the code stands for.
use Rattle.std.specs.Prelude.{List, [], ◌∷◌}
use Rattle.tv_source.specs.Forms.{AssignForm, ANull, ANew, ACopy, ALoad, AStore, AClear, TestForm, TAny}
use Rattle.tv_source.specs.Forms.{TNull, TSame, Stmt, SAssign, SIf, SWhile, Stmts, no_stmts, with_stmt}
use Rattle.tv_source.specs.Forms.{SourceForm}
use Rattle.tv_source.specs.declared.source.Assign.{Assign}
use Rattle.tv_source.specs.declared.source.Assign.TheVariants as assign
use Rattle.tv_source.specs.declared.source.Test.{Test}
use Rattle.tv_source.specs.declared.source.Test.TheVariants as test
use Rattle.tv_source.specs.declared.source.Statement.{Statement}
use Rattle.tv_source.specs.declared.source.Statement.TheOpen as open_
use Rattle.tv_source.specs.declared.source.Statement.TheFolds.{fold-Statement, fold-Block}
use Rattle.tv_source.specs.declared.source.Block.{Block}
use Rattle.tv_source.specs.declared.source.Source.{Source}

abbrev pub assign_of : Assign → AssignForm
assign_of (assign.Null x) = ANull x.0
assign_of (assign.New x) = ANew x.0
assign_of (assign.Copy x y) = ACopy x.0 y.0
assign_of (assign.Load x y f) = ALoad x.0 y.0 f.0
assign_of (assign.Store x f y) = AStore x.0 f.0 y.0
assign_of (assign.Clear x f) = AClear x.0 f.0

abbrev pub test_of : Test → TestForm
test_of test.Any = TAny
test_of (test.Null equal x) = TNull equal x.0
test_of (test.Same equal x y) = TSame equal x.0 y.0

abbrev pub stmts : List Stmt → Stmts
stmts [] = no_stmts
stmts (s ∷ more) = with_stmt s (stmts more)

-- one statement, with the plain data of its blocks in their place
abbrev pub stmt_step : open_.Statement-F Stmt Stmts → Stmt
stmt_step (open_.Assign a) = SAssign (assign_of a)
stmt_step (open_.If t then_ else_) = SIf (test_of t) then_ else_
stmt_step (open_.While t body) = SWhile (test_of t) body

abbrev pub block_step : open_.Block-F Stmt Stmts → Stmts
block_step b = stmts b.items.items

abbrev pub stmt_of : Statement → Stmt
stmt_of = fold-Statement Stmt Stmts stmt_step block_step

abbrev pub block_of : Block → Stmts
block_of = fold-Block Stmt Stmts stmt_step block_step

abbrev pub source_of : Source → SourceForm
source_of p = record { variables = p.variables; fields = p.fields; body = block_of p.body }
