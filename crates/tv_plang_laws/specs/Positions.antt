-- Statements are numbered in the order of the text; each number is a position, the one before its statement.
use Rattle.std.specs.Prelude.{ℕ, ◌+◌, List, ◌∷◌}
use Rattle.tv_source.specs.Forms.{Stmt, SAssign, SIf, SWhile, Stmts, no_stmts, with_stmt, SourceForm}

-- how many statements stand there, those in blocks included
abbrev mutual
  pub count : Stmt → ℕ
  count (SAssign a) = 1
  count (SIf t then_ else_) = 1 + count_all then_ + count_all else_
  count (SWhile t body) = 1 + count_all body

  pub count_all : Stmts → ℕ
  count_all no_stmts = 0
  count_all (with_stmt s more) = count s + count_all more

-- a statement and its number
pub record Numbered : Type 0 where
  pub number : ℕ
  pub statement : Stmt

-- the statements of a block that begins with number k, each with its number, and behind them others
abbrev pub numbered : ℕ → Stmts → (behind : List Numbered) → List Numbered
numbered k no_stmts behind = behind
numbered k (with_stmt s more) behind =
    record { number = k; statement = s } ∷ numbered (k + count s) more behind

-- the position behind the last statement of the program
abbrev pub last : SourceForm → ℕ
last p = count_all p.body
