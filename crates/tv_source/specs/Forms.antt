-- Programs of the pointer language as plain data: variables and fields are numbers, by their places among
-- those declared.
use Rattle.std.specs.Prelude.{ℕ, Bool, List}

-- x = null, x = new, x = y, x = y->f, x->f = y, x->f = null; the names in the order of the text
pub data AssignForm : Type 0 where
  ANull : (x : ℕ) → AssignForm
  ANew : (x : ℕ) → AssignForm
  ACopy : (x y : ℕ) → AssignForm
  ALoad : (x y f : ℕ) → AssignForm
  AStore : (x f y : ℕ) → AssignForm
  AClear : (x f : ℕ) → AssignForm

-- `*`, a comparison with null, a comparison of two variables; the flag is true for `==` and false for `!=`
pub data TestForm : Type 0 where
  TAny : TestForm
  TNull : (equal : Bool) → (x : ℕ) → TestForm
  TSame : (equal : Bool) → (x y : ℕ) → TestForm

-- a statement, and statements one after the other
mutual
  pub data Stmt : Type 0 where
    SAssign : AssignForm → Stmt
    SIf : TestForm → (then_ else_ : Stmts) → Stmt
    SWhile : TestForm → (body : Stmts) → Stmt

  pub data Stmts : Type 0 where
    no_stmts : Stmts
    with_stmt : Stmt → Stmts → Stmts

pub record SourceForm : Type 0 where
  pub variables : List (List ℕ)
  pub fields : List (List ℕ)
  pub body : Stmts
