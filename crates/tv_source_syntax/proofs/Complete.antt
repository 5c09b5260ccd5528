-- What the grammar says is read, and takes tokens.
use Rattle.std.proofs.Common.{◌≡◌, ℕ, zero, suc, ◌+◌, ◌<◌, ◌≤◌, List, [], ◌∷◌, Bool, true, false, length}
use Rattle.std.proofs.Common.{Some, None, refl, sym, ◌∙◌, ap, subst, inl, inr, arith}
use Rattle.std.specs.Prelude.{◌==◌, ◌&&◌, codes, if◌then◌else◌}
use Rattle.std.specs.Str.{bytes_eq}
use Rattle.std.proofs.lemmas.Slice.Eq.{bytes_eq-Decides}
use Rattle.std.proofs.lemmas.Bool.{false_from_ne_true}
use Rattle.tv_lex.specs.Token.{SpecToken}
use Rattle.tv_phrases.specs.Reading.{taken, ◌>>=◌}
use Rattle.tv_phrases.specs.Tokens.{after, first, is_word, is_identifier, identifier_item, Begins}
use Rattle.tv_phrases.specs.Repeated.{HasOne, turn, with_first}
use Rattle.tv_phrases.proofs.Values.{bind_some, same_value}
use Rattle.tv_phrases.proofs.Takes.{after_takes, first_takes}
use Rattle.tv_phrases.proofs.Facts.{other_mark, not_identifier}
use Rattle.tv_phrases.proofs.Repeats.{IsRead, joined_read, one_of}
use Rattle.tv_source_syntax.specs.Copies.{in_a_row}
use Rattle.tv_source_syntax.specs.Forms.{AssignText, XNull, XNew, XCopy, XLoad, XStore, XClear, XAny, XIsNull}
use Rattle.tv_source_syntax.specs.Forms.{XSame, StatementText, XAssign, XIf, XWhile, BlockText, no_statement}
use Rattle.tv_source_syntax.specs.Forms.{with_statement, SourceText}
use Rattle.tv_source_syntax.specs.Words.{is_own_word, name_at}
use Rattle.tv_source_syntax.specs.Grammar.{IsName, AreNames, IsAssign, relation_mark, IsTest}
use Rattle.tv_source_syntax.specs.Grammar.{IsTestIn, InBraces, BehindElse, IsStatement, AreStatements}
use Rattle.tv_source_syntax.specs.Grammar.{HasStatement, IsSource}
use Rattle.tv_source_syntax.specs.Reading.{names_in, loaded_at, copied_at, value_at, stored_at, store_at}
use Rattle.tv_source_syntax.specs.Reading.{assign_behind, assign_at, relation_at, compared_at, compare_at}
use Rattle.tv_source_syntax.specs.Reading.{test_at, test_in, BlockReader, lone_at, block_at, else_at, if_at}
use Rattle.tv_source_syntax.specs.Reading.{while_at, closed_at, statement_at, statements, body_at, source_at}

-- ---- names

plain_word : (b : Bool) (w x : List ℕ) (ts us : List SpecToken) → (if b then None else taken w ts) ≡ taken x us → (b ≡ false) × (taken w ts ≡ taken x us)
plain_word true w x ts us e = absurd cc
plain_word false w x ts us e = (refl, e)

-- a name is an identifier, and no word of the language
pub name_parts : (ts us : List SpecToken) (x : List ℕ) → IsName ts x us → (first identifier_item ts ≡ taken x us) × (is_own_word x ≡ false)
unfolding name_at
name_parts ts us x is =
    let a = bind_some (first identifier_item ts) _ (x, us) is in
    let plain = plain_word (is_own_word a.0.0) a.0.0 x a.0.1 us a.2 in
    (a.1 ∙ plain.1, subst (λ w. is_own_word w ≡ false) (same_value a.0.0 x a.0.1 us plain.1) plain.0)

pub name_takes : (ts us : List SpecToken) (x : List ℕ) → IsName ts x us → length us < length ts
name_takes ts us x is = first_takes identifier_item ts us x (name_parts ts us x is).0

item_word : (b : Bool) (w x : List ℕ) (ts us : List SpecToken) → ((if b then Some w else None) >>= λ y. taken y ts) ≡ taken x us → w ≡ x
item_word true w x ts us e = same_value w x ts us e
item_word false w x ts us e = absurd cc

first_word : (t : SpecToken) (ts us : List SpecToken) (x : List ℕ) → first identifier_item (t ∷ ts) ≡ taken x us → t.bytes ≡ x
unfolding first
first_word t ts us x is = item_word (is_word t.kind && is_identifier t.bytes) t.bytes x ts us is

-- where a name stands no word of the language does
own_word_lacks : (k : List ℕ) (ts us : List SpecToken) (x : List ℕ) → is_own_word k ≡ true → IsName ts x us → after k ts ≡ None
unfolding after
own_word_lacks k [] us x own is = refl
own_word_lacks k (t ∷ ts) us x own is =
    let parts = name_parts (t ∷ ts) us x is in
    let word : t.bytes ≡ x = first_word t ts us x parts.0 in
    let other : bytes_eq t.bytes k ≡ false = false_from_ne_true (bytes_eq t.bytes k) (λ e.
    let same : x ≡ k = sym word ∙ (bytes_eq-Decides t.bytes k).0 e in
    let plain : is_own_word k ≡ false = subst (λ w. is_own_word w ≡ false) same parts.1 in
    cc) in
    rw other refl

-- where a name stands no mark does
mark_lacks : (k : List ℕ) (ts us : List SpecToken) (x : List ℕ) → is_identifier k ≡ false → IsName ts x us → after k ts ≡ None
mark_lacks k ts us x unlike is = not_identifier k x ts us unlike (name_parts ts us x is).0

names_read : (word : List ℕ) (names : List (List ℕ)) (ts rest : List SpecToken) → AreNames word ts names rest → names_in word ts ≡ taken names rest
unfolding names_in
names_read word names ts rest h =
    let a = joined_read (codes ",") name_at IsName (λ us vs x i. (i, let l = name_takes us vs x i in omega (arith, l))) names h.1 h.2 h.5 in
    rw (h.3, h.4, a.0, h.6) refl

-- ---- assignments

assign_read : IsRead assign_at IsAssign
unfolding assign_at assign_behind value_at copied_at loaded_at store_at stored_at
assign_read ts rest (XNull x) h =
    let lx = name_takes ts h.0 x h.2 in
    let le = after_takes (codes "=") h.0 h.1 h.3 in
    let lv = after_takes (codes "null") h.1 rest h.4 in
    (rw (h.2, other_mark (codes "=") (codes "->") h.0 h.1 refl h.3, h.3, h.4) refl, omega (arith, lx, le, lv))
assign_read ts rest (XNew x) h =
    let lx = name_takes ts h.0 x h.2 in
    let le = after_takes (codes "=") h.0 h.1 h.3 in
    let lv = after_takes (codes "new") h.1 rest h.4 in
    (rw (h.2, other_mark (codes "=") (codes "->") h.0 h.1 refl h.3, h.3, other_mark (codes "new") (codes "null") h.1 rest refl h.4, h.4) refl, omega (arith, lx, le, lv))
assign_read ts rest (XCopy x y) h =
    let lx = name_takes ts h.0 x h.2 in
    let le = after_takes (codes "=") h.0 h.1 h.3 in
    let ly = name_takes h.1 rest y h.4 in
    (rw (h.2, other_mark (codes "=") (codes "->") h.0 h.1 refl h.3, h.3, own_word_lacks (codes "null") h.1 rest y refl h.4, own_word_lacks (codes "new") h.1 rest y refl h.4, h.4, h.5) refl, omega (arith, lx, le, ly))
assign_read ts rest (XLoad x y f) h =
    let lx = name_takes ts h.0 x h.4 in
    let le = after_takes (codes "=") h.0 h.1 h.5 in
    let ly = name_takes h.1 h.2 y h.6 in
    let la = after_takes (codes "->") h.2 h.3 h.7 in
    let lf = name_takes h.3 rest f h.8 in
    (rw (h.4, other_mark (codes "=") (codes "->") h.0 h.1 refl h.5, h.5, own_word_lacks (codes "null") h.1 h.2 y refl h.6, own_word_lacks (codes "new") h.1 h.2 y refl h.6, h.6, h.7, h.8) refl, omega (arith, lx, le, ly, la, lf))
assign_read ts rest (XStore x f y) h =
    let lx = name_takes ts h.0 x h.4 in
    let la = after_takes (codes "->") h.0 h.1 h.5 in
    let lf = name_takes h.1 h.2 f h.6 in
    let le = after_takes (codes "=") h.2 h.3 h.7 in
    let ly = name_takes h.3 rest y h.8 in
    (rw (h.4, h.5, h.6, h.7, own_word_lacks (codes "null") h.3 rest y refl h.8, h.8) refl, omega (arith, lx, la, lf, le, ly))
assign_read ts rest (XClear x f) h =
    let lx = name_takes ts h.0 x h.4 in
    let la = after_takes (codes "->") h.0 h.1 h.5 in
    let lf = name_takes h.1 h.2 f h.6 in
    let le = after_takes (codes "=") h.2 h.3 h.7 in
    let lv = after_takes (codes "null") h.3 rest h.8 in
    (rw (h.4, h.5, h.6, h.7, h.8) refl, omega (arith, lx, la, lf, le, lv))

-- ---- tests

relation_read : (ts us : List SpecToken) (equal : Bool) → Begins (relation_mark equal) ts us → relation_at ts ≡ taken equal us
unfolding relation_at
relation_read ts us true h = rw h refl
relation_read ts us false h = rw (other_mark (codes "!=") (codes "==") ts us refl h, h) refl

test_read : IsRead test_at IsTest
unfolding test_at compare_at compared_at
test_read ts rest XAny h = let l = after_takes (codes "*") ts rest h in (rw h refl, omega (arith, l))
test_read ts rest (XIsNull equal x) h =
    let lx = name_takes ts h.0 x h.2 in
    let lm = after_takes (relation_mark equal) h.0 h.1 h.3 in
    let lv = after_takes (codes "null") h.1 rest h.4 in
    (rw (mark_lacks (codes "*") ts h.0 x refl h.2, h.2, relation_read h.0 h.1 equal h.3, h.4) refl, omega (arith, lx, lm, lv))
test_read ts rest (XSame equal x y) h =
    let lx = name_takes ts h.0 x h.2 in
    let lm = after_takes (relation_mark equal) h.0 h.1 h.3 in
    let ly = name_takes h.1 rest y h.4 in
    (rw (mark_lacks (codes "*") ts h.0 x refl h.2, h.2, relation_read h.0 h.1 equal h.3, own_word_lacks (codes "null") h.1 rest y refl h.4, h.4) refl, omega (arith, lx, lm, ly))

test_in_read : IsRead test_in IsTestIn
unfolding test_in
test_in_read ts rest t h =
    let a = test_read h.0 h.1 t h.3 in
    let lo = after_takes (codes "(") ts h.0 h.2 in
    let la = a.1 in
    let lc = after_takes (codes ")") h.1 rest h.4 in
    (rw (h.2, a.0, h.4) refl, omega (arith, lo, la, lc))

-- ---- statements

-- the statements of a row
abbrev pub listed : BlockText → List StatementText
listed no_statement = []
listed (with_statement s ss) = s ∷ listed ss

row_listed : (b : BlockText) → in_a_row (listed b) ≡ b
row_listed no_statement = refl
row_listed (with_statement s ss) = ap (with_statement s) (row_listed ss)

module _ (read : BlockReader) (b : BlockText) (ts rest : List SpecToken) where
  braces_read : (h : InBraces (λ xs ys. AreStatements xs b ys) ts rest) → (read h.0 ≡ taken (listed b) h.1) × (length h.1 ≤ length h.0)
      → (block_at read ts ≡ taken (listed b) rest) × (length rest < length ts)
  unfolding block_at
  braces_read h inner =
      let lo = after_takes (codes "{") ts h.0 h.2 in
      let li = inner.1 in
      let lc = after_takes (codes "}") h.1 rest h.4 in
      (rw (h.2, inner.0, h.4) refl, omega (arith, lo, li, lc))

else_read : (read : BlockReader) (b : BlockText) (ts rest : List SpecToken) → BehindElse b (λ xs ys. AreStatements xs b ys) ts rest
    → ((us vs : List SpecToken) → length us < length ts → AreStatements us b vs → (read us ≡ taken (listed b) vs) × (length vs ≤ length us))
    → (else_at read ts ≡ taken (listed b) rest) × (length rest ≤ length ts)
unfolding else_at
else_read read b ts rest (inl h) inner = (rw (h.0, h.1, h.2) refl, rw h.2 (omega arith))
else_read read b ts rest (inr h) inner =
    let le = after_takes (codes "else") ts h.0 h.1 in
    let lo = after_takes (codes "{") h.0 h.2.0 h.2.2 in
    let a = braces_read read b h.0 rest h.2 (inner h.2.0 h.2.1 (omega (arith, le, lo)) h.2.3) in
    let la = a.1 in
    (rw (h.1, a.0) refl, omega (arith, le, la))

-- an assignment begins with a name
assign_named : (ts rest : List SpecToken) (a : AssignText) → IsAssign ts a rest → (x : List ℕ) × (us : List SpecToken) × IsName ts x us
assign_named ts rest (XNull x) h = (x, h.0, h.2)
assign_named ts rest (XNew x) h = (x, h.0, h.2)
assign_named ts rest (XCopy x y) h = (x, h.0, h.2)
assign_named ts rest (XLoad x y f) h = (x, h.0, h.4)
assign_named ts rest (XStore x f y) h = (x, h.0, h.4)
assign_named ts rest (XClear x f) h = (x, h.0, h.4)

mutual
  unfolding statement_at closed_at lone_at if_at while_at statements turn with_first

  pub statement_read : (s : StatementText) (ts rest : List SpecToken) → IsStatement ts s rest → (n : ℕ) → length ts ≤ n → (statement_at (statements n) ts ≡ taken s rest) × (length rest < length ts)
  statement_read (XAssign a) ts rest h n le =
      let r = assign_read ts rest a h in
      let name = assign_named ts rest a h in
      (rw (own_word_lacks (codes "if") ts name.1 name.0 refl name.2, own_word_lacks (codes "while") ts name.1 name.0 refl name.2, r.0) refl, r.1)
  statement_read (XIf t body other) ts rest h n le =
      let lb = after_takes (codes "if") ts h.0 h.3 in
      let test = test_in_read h.0 h.1 t h.4 in
      let lt = test.1 in
      let lo = after_takes (codes "{") h.1 h.5.0 h.5.2 in
      let a = braces_read (statements n) body h.1 h.2 h.5 (rows_read body h.5.0 h.5.1 h.5.3 n (omega (arith, le, lb, lt, lo))) in
      let la = a.1 in
      let b = else_read (statements n) other h.2 rest h.6 (λ us vs l are. rows_read other us vs are n (omega (arith, le, lb, lt, la, l))) in
      let lr = b.1 in
      (rw (h.3, test.0, a.0, b.0, row_listed body, row_listed other) refl, omega (arith, lb, lt, la, lr))
  statement_read (XWhile t body) ts rest h n le =
      let lb = after_takes (codes "while") ts h.0 h.2 in
      let test = test_in_read h.0 h.1 t h.3 in
      let lt = test.1 in
      let lo = after_takes (codes "{") h.1 h.4.0 h.4.2 in
      let a = braces_read (statements n) body h.1 rest h.4 (rows_read body h.4.0 h.4.1 h.4.3 n (omega (arith, le, lb, lt, lo))) in
      let la = a.1 in
      (rw (other_mark (codes "while") (codes "if") ts h.0 refl h.2, h.2, test.0, a.0, row_listed body) refl, omega (arith, lb, lt, la))

  pub rows_read : (b : BlockText) (ts rest : List SpecToken) → AreStatements ts b rest → (n : ℕ) → length ts < n → (statements n ts ≡ taken (listed b) rest) × (length rest ≤ length ts)
  rows_read b ts rest h zero lt = absurd (omega arith)
  rows_read no_statement ts rest h (suc n) lt = (rw (h.0, h.1) refl, rw h.1 (omega arith))
  rows_read (with_statement s ss) ts rest h (suc n) lt =
      let a = statement_read s ts h.0 h.2 n (omega arith) in
      let l : length h.0 < length ts = a.1 in
      let b = rows_read ss h.0 rest h.3 n (omega arith) in
      let k : length rest ≤ length h.0 = b.1 in
      (rw (h.1, a.0, b.0) refl, omega arith)

-- ---- whole programs

body_read : (b : BlockText) (ts : List SpecToken) → AreStatements ts b [] → HasStatement b → body_at ts ≡ Some (listed b)
unfolding body_at
body_read no_statement ts are has = elim has [ ]
body_read (with_statement s ss) ts are has =
    let a = rows_read (with_statement s ss) ts [] are (length ts + 1) (omega arith) in
    let some : (suc (length (listed ss)) == 0) ≡ false = grind arith in
    rw (a.0, some) refl

abbrev source_with : BlockText → SourceText → SourceText
source_with body s = record { variables = s.variables; fields = s.fields; body = body }

pub source_read : (ts : List SpecToken) (s : SourceText) → IsSource ts s → source_at ts ≡ Some s
unfolding source_at
source_read ts s h =
    rw (names_read (codes "vars") s.variables ts h.0 h.2, names_read (codes "fields") s.fields h.0 h.1 h.3, body_read s.body h.1 h.4 h.5)
    (ap (λ b. Some (source_with b s)) (row_listed s.body))

-- ---- one tree

pub one_name : HasOne IsName
one_name ts us vs x y a b = one_of (name_at ts) us vs x y a b

pub one_assign : HasOne IsAssign
one_assign ts us vs x y a b = one_of (assign_at ts) us vs x y (assign_read ts us x a).0 (assign_read ts vs y b).0

pub one_test : HasOne IsTest
one_test ts us vs x y a b = one_of (test_at ts) us vs x y (test_read ts us x a).0 (test_read ts vs y b).0

pub one_statement : HasOne IsStatement
one_statement ts us vs x y a b =
    one_of (statement_at (statements (length ts)) ts) us vs x y
    (statement_read x ts us a (length ts) (omega arith)).0 (statement_read y ts vs b (length ts) (omega arith)).0

pub one_row : HasOne AreStatements
one_row ts us vs x y a b =
    let same = one_of (statements (length ts + 1) ts) us vs (listed x) (listed y)
    (rows_read x ts us a (length ts + 1) (omega arith)).0 (rows_read y ts vs b (length ts + 1) (omega arith)).0 in
    (sym (row_listed x) ∙ ap in_a_row same.0 ∙ row_listed y, same.1)
