-- The trees of source programs as plain data: what clauses compare, where a tree of the code holds vectors. A
-- name is its spelling, and names stand in the order of the text.
use Rattle.std.specs.Prelude.{ℕ, List, Bool}

-- an assignment
pub data AssignText : Type 0 where
  XNull XNew : List ℕ → AssignText
  XCopy : List ℕ → List ℕ → AssignText
  XLoad XStore : List ℕ → List ℕ → List ℕ → AssignText
  XClear : List ℕ → List ℕ → AssignText

-- a test; the flag is true for `==`, false for `!=`
pub data TestText : Type 0 where
  XAny : TestText
  XIsNull : Bool → List ℕ → TestText
  XSame : Bool → List ℕ → List ℕ → TestText

-- a statement, and statements in a row; an `if` without `else` has none there
mutual
  pub data StatementText : Type 0 where
    XAssign : AssignText → StatementText
    XIf : TestText → BlockText → BlockText → StatementText
    XWhile : TestText → BlockText → StatementText

  pub data BlockText : Type 0 where
    no_statement : BlockText
    with_statement : StatementText → BlockText → BlockText

-- a source program
pub record SourceText : Type 0 where
  pub variables : List (List ℕ)
  pub fields : List (List ℕ)
  pub body : BlockText
