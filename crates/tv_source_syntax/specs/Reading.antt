-- How source programs are read, as functions on lists of tokens, with bounds on the turns and the depth. That
-- they read the grammar is proved.
use Rattle.std.specs.Prelude.{ℕ, zero, suc, ◌+◌, ◌==◌, List, [], Bool, true, false, length, Option, Some}
use Rattle.std.specs.Prelude.{None, if◌then◌else◌, codes}
use Rattle.tv_lex.specs.Token.{SpecToken}
use Rattle.tv_phrases.specs.Reading.{Reading, taken, ◌>>=◌, choose}
use Rattle.tv_phrases.specs.Tokens.{after}
use Rattle.tv_phrases.specs.Repeated.{turn, separated}
use Rattle.tv_source_syntax.specs.Copies.{in_a_row}
use Rattle.tv_source_syntax.specs.Forms.{AssignText, XNull, XNew, XCopy, XLoad, XStore, XClear, TestText}
use Rattle.tv_source_syntax.specs.Forms.{XAny, XIsNull, XSame, StatementText, XAssign, XIf, XWhile}
use Rattle.tv_source_syntax.specs.Forms.{SourceText}
use Rattle.tv_source_syntax.specs.Words.{name_at}
pub use Rattle.tv_source_syntax.specs.Grammar.{begins_statement}

-- ---- declared names

abbrev pub names_at : List SpecToken → Reading (List (List ℕ))
names_at ts = separated (codes ",") name_at ts

unfoldable pub names_in : List ℕ → List SpecToken → Reading (List (List ℕ))
names_in word ts = do
  us ← after word ts
  vs ← after (codes "{") us
  names ← names_at vs
  rest ← after (codes "}") names.1
  taken names.0 rest

-- ---- assignments: what stands behind their front

unfoldable pub loaded_at : List ℕ → List ℕ → List SpecToken → Reading AssignText
loaded_at x y ts = name_at ts >>= λ f. taken (XLoad x y f.0) f.1

unfoldable pub copied_at : List ℕ → List SpecToken → Reading AssignText
copied_at x ts =
    name_at ts >>= λ y. choose (after (codes "->") y.1) (taken (XCopy x y.0) y.1) (loaded_at x y.0)

unfoldable pub value_at : List ℕ → List SpecToken → Reading AssignText
value_at x ts =
    choose (after (codes "null") ts) (choose (after (codes "new") ts) (copied_at x ts) (taken (XNew x)))
    (taken (XNull x))

unfoldable pub stored_at : List ℕ → List ℕ → List SpecToken → Reading AssignText
stored_at x f ts =
    choose (after (codes "null") ts) (name_at ts >>= λ y. taken (XStore x f y.0) y.1) (taken (XClear x f))

unfoldable pub store_at : List ℕ → List SpecToken → Reading AssignText
store_at x ts = name_at ts >>= λ f. after (codes "=") f.1 >>= λ us. stored_at x f.0 us

unfoldable pub assign_behind : List ℕ → List SpecToken → Reading AssignText
assign_behind x ts =
    choose (after (codes "->") ts) (after (codes "=") ts >>= λ us. value_at x us) (store_at x)

unfoldable pub assign_at : List SpecToken → Reading AssignText
assign_at ts = name_at ts >>= λ x. assign_behind x.0 x.1

-- ---- tests

unfoldable pub relation_at : List SpecToken → Reading Bool
relation_at ts = choose (after (codes "==") ts) (after (codes "!=") ts >>= λ us. taken false us) (taken true)

unfoldable pub compared_at : Bool → List ℕ → List SpecToken → Reading TestText
compared_at equal x ts =
    choose (after (codes "null") ts) (name_at ts >>= λ y. taken (XSame equal x y.0) y.1)
    (taken (XIsNull equal x))

unfoldable pub compare_at : List SpecToken → Reading TestText
compare_at ts = name_at ts >>= λ x. relation_at x.1 >>= λ equal. compared_at equal.0 x.0 equal.1

unfoldable pub test_at : List SpecToken → Reading TestText
test_at ts = choose (after (codes "*") ts) (compare_at ts) (taken XAny)

unfoldable pub test_in : List SpecToken → Reading TestText
test_in ts = do
  us ← after (codes "(") ts
  test ← test_at us
  rest ← after (codes ")") test.1
  taken test.0 rest

-- ---- statements

abbrev pub BlockReader : Type 0
BlockReader = List SpecToken → Reading (List StatementText)

unfoldable pub lone_at : List SpecToken → Reading StatementText
lone_at ts = assign_at ts >>= λ a. taken (XAssign a.0) a.1

unfoldable pub block_at : BlockReader → BlockReader
block_at read ts = do
  us ← after (codes "{") ts
  body ← read us
  rest ← after (codes "}") body.1
  taken body.0 rest

unfoldable pub else_at : BlockReader → BlockReader
else_at read ts = choose (after (codes "else") ts) (taken [] ts) (block_at read)

unfoldable pub if_at : BlockReader → List SpecToken → Reading StatementText
if_at read ts = do
  test ← test_in ts
  body ← block_at read test.1
  other ← else_at read body.1
  taken (XIf test.0 (in_a_row body.0) (in_a_row other.0)) other.1

unfoldable pub while_at : BlockReader → List SpecToken → Reading StatementText
while_at read ts = do
  test ← test_in ts
  body ← block_at read test.1
  taken (XWhile test.0 (in_a_row body.0)) body.1

unfoldable pub closed_at : BlockReader → List SpecToken → Reading StatementText
closed_at read ts = choose (after (codes "while") ts) (lone_at ts) (while_at read)

unfoldable pub statement_at : BlockReader → List SpecToken → Reading StatementText
statement_at read ts = choose (after (codes "if") ts) (closed_at read ts) (if_at read)

unfoldable pub statements : ℕ → BlockReader
statements zero ts = None
statements (suc n) ts = turn begins_statement (statement_at (statements n)) (statements n) ts

-- one statement or more, up to the end
unfoldable pub body_at : List SpecToken → Option (List StatementText)
body_at ts =
    statements (length ts + 1) ts >>= λ body. if length body.0 == 0 then None
    else (if length body.1 == 0 then Some body.0 else None)

unfoldable pub source_at : List SpecToken → Option SourceText
source_at ts = do
  variables ← names_in (codes "vars") ts
  fields ← names_in (codes "fields") variables.1
  body ← body_at fields.1
  Some (record { variables = variables.0; fields = fields.0; body = in_a_row body })
