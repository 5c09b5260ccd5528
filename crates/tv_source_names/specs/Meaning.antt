-- What a source program means: its names are looked up, in the order in which they stand, and become numbers,
-- or the first one that may not stand there is told. Declared names come before all others.
use Rattle.std.specs.Prelude.{ℕ, List, [], ◌∷◌, ◌++◌, Bool, ◌||◌, Result, Ok, codes}
use Rattle.std.specs.Str.{bytes_eq}
use Rattle.tv_source.specs.Forms.{AssignForm, ANull, ANew, ACopy, ALoad, AStore, AClear, TestForm, TAny}
use Rattle.tv_source.specs.Forms.{TNull, TSame, Stmt, SAssign, SIf, SWhile, Stmts, no_stmts, with_stmt}
use Rattle.tv_source.specs.Forms.{SourceForm}
use Rattle.tv_source_syntax.specs.Forms.{AssignText, XNull, XNew, XCopy, XLoad, XStore, XClear, TestText}
use Rattle.tv_source_syntax.specs.Forms.{XAny, XIsNull, XSame, StatementText, XAssign, XIf, XWhile, BlockText}
use Rattle.tv_source_syntax.specs.Forms.{no_statement, with_statement, SourceText}
use Rattle.tv_tree.specs.Names.{is_among, number_of}
use Rattle.tv_tree.specs.Steps.{◌>>=◌, refused_if, or_refused}
use Rattle.tv_source_names.specs.declared.error.SourceReadError.{SourceReadError}
use Rattle.tv_source_names.specs.declared.error.SourceReadError.TheVariants.{Reserved, NameTwice, NameUnknown}

-- ---- declared names

-- predicates of other meaning have these names
abbrev pub is_taken : List ℕ → Bool
is_taken name = bytes_eq name (codes "sm") || bytes_eq name (codes "isNew")

-- a name may stand behind those that are declared before it
abbrev pub may_be_declared : (before : List (List ℕ)) → List ℕ → Result (Unit {0}) SourceReadError
may_be_declared before name =
    refused_if (is_taken name) Reserved >>= λ free. refused_if (is_among before name) NameTwice

-- each of these names may, one after the other
abbrev pub declared : (before names : List (List ℕ)) → Result (Unit {0}) SourceReadError
declared before [] = Ok tt
declared before (name ∷ names) = may_be_declared before name >>= λ one. declared (before ++ name ∷ []) names

-- ---- numbers

abbrev pub numbered : List (List ℕ) → List ℕ → Result ℕ SourceReadError
numbered names name = or_refused (number_of names name) NameUnknown

module _ (variables fields : List (List ℕ)) where
  unfoldable pub assign_meant : AssignText → Result AssignForm SourceReadError
  assign_meant (XNull x) = numbered variables x >>= λ a. Ok (ANull a)
  assign_meant (XNew x) = numbered variables x >>= λ a. Ok (ANew a)
  assign_meant (XCopy x y) = numbered variables x >>= λ a. numbered variables y >>= λ b. Ok (ACopy a b)
  assign_meant (XLoad x y f) =
      numbered variables x >>= λ a. numbered variables y >>= λ b. numbered fields f >>= λ c. Ok (ALoad a b c)
  assign_meant (XStore x f y) =
      numbered variables x >>= λ a. numbered fields f >>= λ b. numbered variables y >>= λ c. Ok (AStore a b c)
  assign_meant (XClear x f) = numbered variables x >>= λ a. numbered fields f >>= λ b. Ok (AClear a b)

  unfoldable pub test_meant : TestText → Result TestForm SourceReadError
  test_meant XAny = Ok TAny
  test_meant (XIsNull equal x) = numbered variables x >>= λ a. Ok (TNull equal a)
  test_meant (XSame equal x y) =
      numbered variables x >>= λ a. numbered variables y >>= λ b. Ok (TSame equal a b)

  unfoldable mutual
    pub statement_meant : StatementText → Result Stmt SourceReadError
    statement_meant (XAssign a) = assign_meant a >>= λ b. Ok (SAssign b)
    statement_meant (XIf t body other) =
        test_meant t >>= λ u. block_meant body >>= λ b. block_meant other >>= λ c. Ok (SIf u b c)
    statement_meant (XWhile t body) = test_meant t >>= λ u. block_meant body >>= λ b. Ok (SWhile u b)

    pub block_meant : BlockText → Result Stmts SourceReadError
    block_meant no_statement = Ok no_stmts
    block_meant (with_statement s ss) =
        statement_meant s >>= λ x. block_meant ss >>= λ xs. Ok (with_stmt x xs)

-- the variables are declared first, and the fields behind them
unfoldable pub source_meant : SourceText → Result SourceForm SourceReadError
source_meant s = do
  variables ← declared [] s.variables
  fields ← declared s.variables s.fields
  body ← block_meant s.variables s.fields s.body
  Ok (record { variables = s.variables; fields = s.fields; body = body })
