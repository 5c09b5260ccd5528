-- The plain data that each tree of the code stands for. The names are spelled in these bytes.
use Rattle.std.specs.Prelude.{ℕ, List, [], ◌∷◌, map}
use Rattle.tv_lex.specs.Token.{text_of}
use Rattle.tv_source_syntax.specs.Forms.{AssignText, XNull, XNew, XCopy, XLoad, XStore, XClear, TestText}
use Rattle.tv_source_syntax.specs.Forms.{XAny, XIsNull, XSame, StatementText, XAssign, XIf, XWhile, BlockText}
use Rattle.tv_source_syntax.specs.Forms.{no_statement, with_statement, SourceText}
use Rattle.tv_source_syntax.specs.declared.tree.AssignTree.{AssignTree}
use Rattle.tv_source_syntax.specs.declared.tree.AssignTree.TheVariants as assign
use Rattle.tv_source_syntax.specs.declared.tree.TestTree.{TestTree}
use Rattle.tv_source_syntax.specs.declared.tree.TestTree.TheVariants as test
use Rattle.tv_source_syntax.specs.declared.tree.StatementTree.{StatementTree}
use Rattle.tv_source_syntax.specs.declared.tree.StatementTree.TheOpen as one
use Rattle.tv_source_syntax.specs.declared.tree.StatementTree.TheFolds.{fold-StatementTree, fold-BlockTree}
use Rattle.tv_source_syntax.specs.declared.tree.BlockTree.{BlockTree}
use Rattle.tv_source_syntax.specs.declared.tree.SourceTree.{SourceTree}

abbrev pub assign_of : List ℕ → AssignTree → AssignText
assign_of bytes (assign.Null x) = XNull (text_of bytes x)
assign_of bytes (assign.New x) = XNew (text_of bytes x)
assign_of bytes (assign.Copy x y) = XCopy (text_of bytes x) (text_of bytes y)
assign_of bytes (assign.Load x y f) = XLoad (text_of bytes x) (text_of bytes y) (text_of bytes f)
assign_of bytes (assign.Store x f y) = XStore (text_of bytes x) (text_of bytes f) (text_of bytes y)
assign_of bytes (assign.Clear x f) = XClear (text_of bytes x) (text_of bytes f)

abbrev pub test_of : List ℕ → TestTree → TestText
test_of bytes test.Any = XAny
test_of bytes (test.Null equal x) = XIsNull equal (text_of bytes x)
test_of bytes (test.Same equal x y) = XSame equal (text_of bytes x) (text_of bytes y)

abbrev pub in_a_row : List StatementText → BlockText
in_a_row [] = no_statement
in_a_row (s ∷ ss) = with_statement s (in_a_row ss)

-- one statement, with the plain data of those in its blocks in their place
abbrev pub statement_step : List ℕ → one.StatementTree-F StatementText BlockText → StatementText
statement_step bytes (one.Assign a) = XAssign (assign_of bytes a)
statement_step bytes (one.If t body other) = XIf (test_of bytes t) body other
statement_step bytes (one.While t body) = XWhile (test_of bytes t) body

abbrev pub block_step : one.BlockTree-F StatementText BlockText → BlockText
block_step b = in_a_row b.items.items

abbrev pub statement_of : List ℕ → StatementTree → StatementText
statement_of bytes = fold-StatementTree StatementText BlockText (statement_step bytes) block_step

abbrev pub block_of : List ℕ → BlockTree → BlockText
block_of bytes = fold-BlockTree StatementText BlockText (statement_step bytes) block_step

abbrev pub source_of : List ℕ → SourceTree → SourceText
source_of bytes t =
    record {
      variables = map (text_of bytes) t.variables;
      fields = map (text_of bytes) t.fields;
      body = block_of bytes t.body;
    }
