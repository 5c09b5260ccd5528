-- The grammar of source programs. `[ ]` is optional, `{ }` is any number of times. What is optional or
-- repeated is taken exactly where the token at its place can begin it.
--
--   Source    = `vars` `{` name {`,` name} `}` `fields` `{` name {`,` name} `}` Statement {Statement}
--   Statement = Assign
--             | `if` `(` Test `)` `{` {Statement} `}` [`else` `{` {Statement} `}`]
--             | `while` `(` Test `)` `{` {Statement} `}`
--   Assign    = name `=` `null` | name `=` `new` | name `=` name | name `=` name `->` name
--             | name `->` name `=` name | name `->` name `=` `null`
--   Test      = `*` | name (`==` or `!=`) `null` | name (`==` or `!=`) name
--
-- A name is an identifier that is none of `vars`, `fields`, `null`, `new`, `if`, `else`, `while`.
-- Each relation below says that the tokens `ts` begin with the phrase of a tree, and that `rest` stands
-- behind it.
use Rattle.std.specs.Prelude.{◌≡◌, ℕ, List, [], Bool, true, false, ◌||◌, ◌⊎◌, is_some, IsTrue}
use Rattle.std.specs.Prelude.{IsFalse, codes}
use Rattle.tv_lex.specs.Token.{SpecToken}
use Rattle.tv_phrases.specs.Reading.{taken}
use Rattle.tv_phrases.specs.Tokens.{Begins, Lacks}
use Rattle.tv_phrases.specs.Repeated.{Joined, begins_with}
use Rattle.tv_source_syntax.specs.Forms.{AssignText, XNull, XNew, XCopy, XLoad, XStore, XClear, TestText}
use Rattle.tv_source_syntax.specs.Forms.{XAny, XIsNull, XSame, StatementText, XAssign, XIf, XWhile, BlockText}
use Rattle.tv_source_syntax.specs.Forms.{no_statement, with_statement, SourceText}
use Rattle.tv_source_syntax.specs.Words.{name_at}

abbrev pub IsName : List SpecToken → List ℕ → List SpecToken → Type 0
IsName ts x rest = name_at ts ≡ taken x rest

-- a word, and names in braces with commas between them
abbrev pub AreNames : List ℕ → List SpecToken → List (List ℕ) → List SpecToken → Type 0
AreNames word ts names rest = (us vs ws : List SpecToken)
    × Begins word ts us × Begins (codes "{") us vs × Joined (codes ",") IsName vs names ws
    × Begins (codes "}") ws rest

abbrev pub IsAssign : List SpecToken → AssignText → List SpecToken → Type 0
IsAssign ts (XNull x) rest =
    (us vs : List SpecToken) × IsName ts x us × Begins (codes "=") us vs × Begins (codes "null") vs rest
IsAssign ts (XNew x) rest =
    (us vs : List SpecToken) × IsName ts x us × Begins (codes "=") us vs × Begins (codes "new") vs rest
IsAssign ts (XCopy x y) rest =
    (us vs : List SpecToken) × IsName ts x us × Begins (codes "=") us vs × IsName vs y rest
    × Lacks (codes "->") rest
IsAssign ts (XLoad x y f) rest = (us vs ws xs : List SpecToken)
    × IsName ts x us × Begins (codes "=") us vs × IsName vs y ws × Begins (codes "->") ws xs
    × IsName xs f rest
IsAssign ts (XStore x f y) rest = (us vs ws xs : List SpecToken)
    × IsName ts x us × Begins (codes "->") us vs × IsName vs f ws × Begins (codes "=") ws xs
    × IsName xs y rest
IsAssign ts (XClear x f) rest = (us vs ws xs : List SpecToken)
    × IsName ts x us × Begins (codes "->") us vs × IsName vs f ws × Begins (codes "=") ws xs
    × Begins (codes "null") xs rest

-- how the relation of a test is spelled
abbrev pub relation_mark : Bool → List ℕ
relation_mark true = codes "=="
relation_mark false = codes "!="

abbrev pub IsTest : List SpecToken → TestText → List SpecToken → Type 0
IsTest ts XAny rest = Begins (codes "*") ts rest
IsTest ts (XIsNull equal x) rest =
    (us vs : List SpecToken) × IsName ts x us × Begins (relation_mark equal) us vs
    × Begins (codes "null") vs rest
IsTest ts (XSame equal x y) rest =
    (us vs : List SpecToken) × IsName ts x us × Begins (relation_mark equal) us vs × IsName vs y rest

-- a test in parentheses
abbrev pub IsTestIn : List SpecToken → TestText → List SpecToken → Type 0
IsTestIn ts t rest =
    (us vs : List SpecToken) × Begins (codes "(") ts us × IsTest us t vs × Begins (codes ")") vs rest

-- the first token can begin a statement
abbrev pub begins_statement : List SpecToken → Bool
begins_statement ts = is_some (name_at ts) || begins_with (codes "if") ts || begins_with (codes "while") ts

-- what a relation says, in braces
abbrev pub InBraces : (List SpecToken → List SpecToken → Type 0) → List SpecToken → List SpecToken → Type 0
InBraces Inner ts rest =
    (us vs : List SpecToken) × Begins (codes "{") ts us × Inner us vs × Begins (codes "}") vs rest

-- no statement where no `else` stands, else `else` and what a relation says, in braces
abbrev pub BehindElse : BlockText → (List SpecToken → List SpecToken → Type 0) → List SpecToken
    → List SpecToken → Type 0
BehindElse b Inner ts rest =
    (Lacks (codes "else") ts × (b ≡ no_statement) × (rest ≡ ts))
    ⊎ ((us : List SpecToken) × Begins (codes "else") ts us × InBraces Inner us rest)

abbrev mutual
  pub IsStatement : List SpecToken → StatementText → List SpecToken → Type 0
  IsStatement ts (XAssign a) rest = IsAssign ts a rest
  IsStatement ts (XIf t body other) rest = (us vs ws : List SpecToken)
      × Begins (codes "if") ts us × IsTestIn us t vs × InBraces (λ xs ys. AreStatements xs body ys) vs ws
      × BehindElse other (λ xs ys. AreStatements xs other ys) ws rest
  IsStatement ts (XWhile t body) rest = (us vs : List SpecToken)
      × Begins (codes "while") ts us × IsTestIn us t vs × InBraces (λ xs ys. AreStatements xs body ys) vs rest

  -- any number of statements
  pub AreStatements : List SpecToken → BlockText → List SpecToken → Type 0
  AreStatements ts no_statement rest = IsFalse (begins_statement ts) × (rest ≡ ts)
  AreStatements ts (with_statement s ss) rest =
      (us : List SpecToken) × IsTrue (begins_statement ts) × IsStatement ts s us × AreStatements us ss rest

-- one statement or more
abbrev pub HasStatement : BlockText → Type 0
HasStatement no_statement = ⊥
HasStatement (with_statement s ss) = Unit {0}

-- the tokens are those of this source program
abbrev pub IsSource : List SpecToken → SourceText → Type 0
IsSource ts s = (us vs : List SpecToken)
    × AreNames (codes "vars") ts s.variables us × AreNames (codes "fields") us s.fields vs
    × AreStatements vs s.body [] × HasStatement s.body
