-- Which programs of the pointer language are valid: names differ, and each number is that of a declared name.
use Rattle.std.specs.Prelude.{ℕ, ◌≢◌, ◌<◌, List, ◌++◌, length, All, AllPairs, codes}
use Rattle.tv_model.specs.Spelling.{IsIdentifier}
use Rattle.tv_source.specs.Forms.{AssignForm, ANull, ANew, ACopy, ALoad, AStore, AClear, TestForm, TAny}
use Rattle.tv_source.specs.Forms.{TNull, TSame, Stmt, SAssign, SIf, SWhile, Stmts, no_stmts, with_stmt}
use Rattle.tv_source.specs.Forms.{SourceForm}

abbrev pub IsVariableOf : SourceForm → ℕ → Type 0
IsVariableOf p x = x < length p.variables

abbrev pub IsFieldOf : SourceForm → ℕ → Type 0
IsFieldOf p f = f < length p.fields

abbrev pub IsAssignOf : SourceForm → AssignForm → Type 0
IsAssignOf p (ANull x) = IsVariableOf p x
IsAssignOf p (ANew x) = IsVariableOf p x
IsAssignOf p (ACopy x y) = IsVariableOf p x × IsVariableOf p y
IsAssignOf p (ALoad x y f) = IsVariableOf p x × IsVariableOf p y × IsFieldOf p f
IsAssignOf p (AStore x f y) = IsVariableOf p x × IsFieldOf p f × IsVariableOf p y
IsAssignOf p (AClear x f) = IsVariableOf p x × IsFieldOf p f

abbrev pub IsTestOf : SourceForm → TestForm → Type 0
IsTestOf p TAny = Unit {0}
IsTestOf p (TNull equal x) = IsVariableOf p x
IsTestOf p (TSame equal x y) = IsVariableOf p x × IsVariableOf p y

abbrev mutual
  pub IsStmtOf : SourceForm → Stmt → Type 0
  IsStmtOf p (SAssign a) = IsAssignOf p a
  IsStmtOf p (SIf t then_ else_) = IsTestOf p t × AreStmtsOf p then_ × AreStmtsOf p else_
  IsStmtOf p (SWhile t body) = IsTestOf p t × AreStmtsOf p body

  pub AreStmtsOf : SourceForm → Stmts → Type 0
  AreStmtsOf p no_stmts = Unit {0}
  AreStmtsOf p (with_stmt s more) = IsStmtOf p s × AreStmtsOf p more

-- a name that a predicate may have
abbrev pub IsDeclarable : List ℕ → Type 0
IsDeclarable name = IsIdentifier name × (name ≢ codes "sm") × (name ≢ codes "isNew")

abbrev pub HasStmts : Stmts → Type 0
HasStmts no_stmts = ⊥
HasStmts (with_stmt s more) = Unit {0}

pub record IsSource (p : SourceForm) : Type 0 where
  pub names : All IsDeclarable (p.variables ++ p.fields)
  pub names_differ : AllPairs ◌≢◌ (p.variables ++ p.fields)
  pub body : AreStmtsOf p p.body
  pub some : HasStmts p.body
