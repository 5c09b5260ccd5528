-- What is read is what the grammar says.
use Rattle.std.proofs.Common.{◌≡◌, ℕ, zero, suc, ◌+◌, List, [], ◌∷◌, Bool, true, false, length, Some, None}
use Rattle.std.proofs.Common.{refl, subst, inl, inr}
use Rattle.std.specs.Prelude.{◌==◌, codes, if◌then◌else◌}
use Rattle.std.proofs.lemmas.Option.{same_Some}
use Rattle.tv_lemmas.proofs.Lists.{none_left}
use Rattle.tv_lex.specs.Token.{SpecToken}
use Rattle.tv_phrases.specs.Reading.{taken, ◌>>=◌, choose}
use Rattle.tv_phrases.specs.Tokens.{after, Begins}
use Rattle.tv_phrases.specs.Repeated.{turn, with_first}
use Rattle.tv_phrases.proofs.Values.{bind_some, chosen, tested}
use Rattle.tv_phrases.proofs.Repeats.{held, first_sound, joined_sound}
use Rattle.tv_source_syntax.specs.Copies.{in_a_row}
use Rattle.tv_source_syntax.specs.Forms.{AssignText, XNull, XNew, XCopy, XLoad, XStore, XClear, TestText}
use Rattle.tv_source_syntax.specs.Forms.{XAny, XIsNull, XSame, StatementText, XAssign, XIf, XWhile, BlockText}
use Rattle.tv_source_syntax.specs.Forms.{SourceText}
use Rattle.tv_source_syntax.specs.Words.{name_at}
use Rattle.tv_source_syntax.specs.Grammar.{IsName, AreNames, IsAssign, relation_mark, IsTest}
use Rattle.tv_source_syntax.specs.Grammar.{IsTestIn, begins_statement, InBraces, BehindElse, IsStatement}
use Rattle.tv_source_syntax.specs.Grammar.{AreStatements, HasStatement, IsSource}
use Rattle.tv_source_syntax.specs.Reading.{names_at, names_in, loaded_at, copied_at, value_at, stored_at}
use Rattle.tv_source_syntax.specs.Reading.{store_at, assign_behind, assign_at, relation_at, compared_at}
use Rattle.tv_source_syntax.specs.Reading.{compare_at, test_at, test_in, BlockReader, lone_at, block_at}
use Rattle.tv_source_syntax.specs.Reading.{else_at, if_at, while_at, closed_at, statement_at, statements}
use Rattle.tv_source_syntax.specs.Reading.{body_at, source_at}

-- ---- declared names

names_sound : (word : List ℕ) (ts rest : List SpecToken) (names : List (List ℕ)) → names_in word ts ≡ taken names rest → AreNames word ts names rest
unfolding names_in
names_sound word ts rest names e =
    let a = bind_some (after word ts) _ (names, rest) e in
    let b = bind_some (after (codes "{") a.0) _ (names, rest) a.2 in
    let c = bind_some (names_at b.0) _ (names, rest) b.2 in
    let d = bind_some (after (codes "}") c.0.1) _ (names, rest) c.2 in
    held (λ (xs : List (List ℕ)) us. AreNames word ts xs us) c.0.0 names d.0 rest d.2
    (a.0, b.0, c.0.1, a.1, b.1, joined_sound (codes ",") name_at IsName (λ us vs x i. i) b.0 c.0.1 c.0.0 c.1, d.1)

-- ---- assignments

module _ (x : List ℕ) (ts us vs rest : List SpecToken) (a : AssignText) (named : IsName ts x us) where
  copied_sound : Begins (codes "=") us vs → copied_at x vs ≡ taken a rest → IsAssign ts a rest
  unfolding copied_at loaded_at
  copied_sound equals e =
      let P : AssignText → List SpecToken → Type 0 = λ b ws. IsAssign ts b ws in
      let y = bind_some (name_at vs) _ (a, rest) e in
      elim (chosen (after (codes "->") y.0.1) (taken (XCopy x y.0.0) y.0.1) (loaded_at x y.0.0) (taken a rest) y.2) [
        | inl h ↦ held P (XCopy x y.0.0) a y.0.1 rest h.1 (us, vs, named, equals, y.1, h.0)
        | inr h ↦
            let f = bind_some (name_at h.0) _ (a, rest) h.2 in
            held P (XLoad x y.0.0 f.0.0) a f.0.1 rest f.2 (us, vs, y.0.1, h.0, named, equals, y.1, h.1, f.1)
      ]

  value_sound : Begins (codes "=") us vs → value_at x vs ≡ taken a rest → IsAssign ts a rest
  unfolding value_at
  value_sound equals e =
      let P : AssignText → List SpecToken → Type 0 = λ b ws. IsAssign ts b ws in
      elim (chosen (after (codes "null") vs) (choose (after (codes "new") vs) (copied_at x vs) (taken (XNew x))) (taken (XNull x)) (taken a rest) e) [
        | inl h ↦
            elim (chosen (after (codes "new") vs) (copied_at x vs) (taken (XNew x)) (taken a rest) h.1) [
              | inl k ↦ copied_sound equals k.1
              | inr k ↦ held P (XNew x) a k.0 rest k.2 (us, vs, named, equals, k.1)
            ]
        | inr h ↦ held P (XNull x) a h.0 rest h.2 (us, vs, named, equals, h.1)
      ]

  store_sound : Begins (codes "->") us vs → store_at x vs ≡ taken a rest → IsAssign ts a rest
  unfolding store_at stored_at
  store_sound arrow e =
      let P : AssignText → List SpecToken → Type 0 = λ b ws. IsAssign ts b ws in
      let f = bind_some (name_at vs) _ (a, rest) e in
      let b = bind_some (after (codes "=") f.0.1) _ (a, rest) f.2 in
      elim (chosen (after (codes "null") b.0) (name_at b.0 >>= λ y. taken (XStore x f.0.0 y.0) y.1) (taken (XClear x f.0.0)) (taken a rest) b.2) [
        | inl h ↦
            let y = bind_some (name_at b.0) _ (a, rest) h.1 in
            held P (XStore x f.0.0 y.0.0) a y.0.1 rest y.2 (us, vs, f.0.1, b.0, named, arrow, f.1, b.1, y.1)
        | inr h ↦ held P (XClear x f.0.0) a h.0 rest h.2 (us, vs, f.0.1, b.0, named, arrow, f.1, b.1, h.1)
      ]

assign_sound : (ts rest : List SpecToken) (a : AssignText) → assign_at ts ≡ taken a rest → IsAssign ts a rest
unfolding assign_at assign_behind
assign_sound ts rest a e =
    let x = bind_some (name_at ts) _ (a, rest) e in
    elim (chosen (after (codes "->") x.0.1) (after (codes "=") x.0.1 >>= λ us. value_at x.0.0 us) (store_at x.0.0) (taken a rest) x.2) [
      | inl h ↦
          let b = bind_some (after (codes "=") x.0.1) _ (a, rest) h.1 in
          value_sound x.0.0 ts x.0.1 b.0 rest a x.1 b.1 b.2
      | inr h ↦ store_sound x.0.0 ts x.0.1 h.0 rest a x.1 h.1 h.2
    ]

-- ---- tests

relation_sound : (ts us : List SpecToken) (equal : Bool) → relation_at ts ≡ taken equal us → Begins (relation_mark equal) ts us
unfolding relation_at
relation_sound ts us equal e =
    let P : Bool → List SpecToken → Type 0 = λ q vs. Begins (relation_mark q) ts vs in
    elim (chosen (after (codes "==") ts) (after (codes "!=") ts >>= λ vs. taken false vs) (taken true) (taken equal us) e) [
      | inl h ↦ let b = bind_some (after (codes "!=") ts) _ (equal, us) h.1 in held P false equal b.0 us b.2 b.1
      | inr h ↦ held P true equal h.0 us h.2 h.1
    ]

compare_sound : (ts rest : List SpecToken) (t : TestText) → compare_at ts ≡ taken t rest → IsTest ts t rest
unfolding compare_at compared_at
compare_sound ts rest t e =
    let P : TestText → List SpecToken → Type 0 = λ u us. IsTest ts u us in
    let x = bind_some (name_at ts) _ (t, rest) e in
    let q = bind_some (relation_at x.0.1) _ (t, rest) x.2 in
    let mark = relation_sound x.0.1 q.0.1 q.0.0 q.1 in
    elim (chosen (after (codes "null") q.0.1) (name_at q.0.1 >>= λ y. taken (XSame q.0.0 x.0.0 y.0) y.1) (taken (XIsNull q.0.0 x.0.0)) (taken t rest) q.2) [
      | inl h ↦
          let y = bind_some (name_at q.0.1) _ (t, rest) h.1 in
          held P (XSame q.0.0 x.0.0 y.0.0) t y.0.1 rest y.2 (x.0.1, q.0.1, x.1, mark, y.1)
      | inr h ↦ held P (XIsNull q.0.0 x.0.0) t h.0 rest h.2 (x.0.1, q.0.1, x.1, mark, h.1)
    ]

test_sound : (ts rest : List SpecToken) (t : TestText) → test_at ts ≡ taken t rest → IsTest ts t rest
unfolding test_at
test_sound ts rest t e =
    elim (chosen (after (codes "*") ts) (compare_at ts) (taken XAny) (taken t rest) e) [
      | inl h ↦ compare_sound ts rest t h.1
      | inr h ↦ held (λ u us. IsTest ts u us) XAny t h.0 rest h.2 h.1
    ]

test_in_sound : (ts rest : List SpecToken) (t : TestText) → test_in ts ≡ taken t rest → IsTestIn ts t rest
unfolding test_in
test_in_sound ts rest t e =
    let a = bind_some (after (codes "(") ts) _ (t, rest) e in
    let b = bind_some (test_at a.0) _ (t, rest) a.2 in
    let c = bind_some (after (codes ")") b.0.1) _ (t, rest) b.2 in
    held (λ u us. IsTestIn ts u us) b.0.0 t c.0 rest c.2 (a.0, b.0.1, a.1, test_sound a.0 b.0.1 b.0.0 b.1, c.1)

-- ---- statements

abbrev IsSoundReader : BlockReader → Type 0
IsSoundReader read = (us vs : List SpecToken) (ss : List StatementText) → read us ≡ taken ss vs → AreStatements us (in_a_row ss) vs

module _ (read : BlockReader) (inner : IsSoundReader read) where
  block_sound : (ts rest : List SpecToken) (ss : List StatementText) → block_at read ts ≡ taken ss rest → InBraces (λ xs ys. AreStatements xs (in_a_row ss) ys) ts rest
  unfolding block_at
  block_sound ts rest ss e =
      let a = bind_some (after (codes "{") ts) _ (ss, rest) e in
      let b = bind_some (read a.0) _ (ss, rest) a.2 in
      let c = bind_some (after (codes "}") b.0.1) _ (ss, rest) b.2 in
      held (λ (qs : List StatementText) us. InBraces (λ xs ys. AreStatements xs (in_a_row qs) ys) ts us) b.0.0 ss c.0 rest c.2
      (a.0, b.0.1, a.1, inner a.0 b.0.1 b.0.0 b.1, c.1)

  else_sound : (ts rest : List SpecToken) (ss : List StatementText) → else_at read ts ≡ taken ss rest → BehindElse (in_a_row ss) (λ xs ys. AreStatements xs (in_a_row ss) ys) ts rest
  unfolding else_at
  else_sound ts rest ss e =
      elim (chosen (after (codes "else") ts) (taken [] ts) (block_at read) (taken ss rest) e) [
        | inl h ↦
            held (λ (qs : List StatementText) us. BehindElse (in_a_row qs) (λ xs ys. AreStatements xs (in_a_row qs) ys) ts us) [] ss ts rest h.1
            (inl (h.0, refl, refl))
        | inr h ↦ inr (h.0, h.1, block_sound h.0 rest ss h.2)
      ]

  if_sound : (ts us rest : List SpecToken) (s : StatementText) → Begins (codes "if") ts us → if_at read us ≡ taken s rest → IsStatement ts s rest
  unfolding if_at
  if_sound ts us rest s begins e =
      let a = bind_some (test_in us) _ (s, rest) e in
      let b = bind_some (block_at read a.0.1) _ (s, rest) a.2 in
      let c = bind_some (else_at read b.0.1) _ (s, rest) b.2 in
      held (λ (q : StatementText) vs. IsStatement ts q vs) (XIf a.0.0 (in_a_row b.0.0) (in_a_row c.0.0)) s c.0.1 rest c.2
      (us, a.0.1, b.0.1, begins, test_in_sound us a.0.1 a.0.0 a.1, block_sound a.0.1 b.0.1 b.0.0 b.1, else_sound b.0.1 c.0.1 c.0.0 c.1)

  while_sound : (ts us rest : List SpecToken) (s : StatementText) → Begins (codes "while") ts us → while_at read us ≡ taken s rest → IsStatement ts s rest
  unfolding while_at
  while_sound ts us rest s begins e =
      let a = bind_some (test_in us) _ (s, rest) e in
      let b = bind_some (block_at read a.0.1) _ (s, rest) a.2 in
      held (λ (q : StatementText) vs. IsStatement ts q vs) (XWhile a.0.0 (in_a_row b.0.0)) s b.0.1 rest b.2
      (us, a.0.1, begins, test_in_sound us a.0.1 a.0.0 a.1, block_sound a.0.1 b.0.1 b.0.0 b.1)

  lone_sound : (ts rest : List SpecToken) (s : StatementText) → lone_at ts ≡ taken s rest → IsStatement ts s rest
  unfolding lone_at
  lone_sound ts rest s e =
      let a = bind_some (assign_at ts) _ (s, rest) e in
      held (λ (q : StatementText) vs. IsStatement ts q vs) (XAssign a.0.0) s a.0.1 rest a.2 (assign_sound ts a.0.1 a.0.0 a.1)

  statement_sound : (ts rest : List SpecToken) (s : StatementText) → statement_at read ts ≡ taken s rest → IsStatement ts s rest
  unfolding statement_at closed_at
  statement_sound ts rest s e =
      elim (chosen (after (codes "if") ts) (closed_at read ts) (if_at read) (taken s rest) e) [
        | inl h ↦
            elim (chosen (after (codes "while") ts) (lone_at ts) (while_at read) (taken s rest) h.1) [
              | inl k ↦ lone_sound ts rest s k.1
              | inr k ↦ while_sound ts k.0 rest s k.1 k.2
            ]
        | inr h ↦ if_sound ts h.0 rest s h.1 h.2
      ]

rows_sound : (n : ℕ) → IsSoundReader (statements n)
unfolding statements turn
rows_sound zero ts rest ss e = absurd cc
rows_sound (suc n) ts rest ss e =
    let P : List StatementText → List SpecToken → Type 0 = λ qs us. AreStatements ts (in_a_row qs) us in
    elim (tested (begins_statement ts) (statement_at (statements n) ts >>= λ x. with_first x.0 (statements n x.1)) (taken [] ts) (taken ss rest) e) [
      | inl h ↦
          let a = bind_some (statement_at (statements n) ts) (λ x. with_first x.0 (statements n x.1)) (ss, rest) h.1 in
          first_sound P a.0.0 (statements n a.0.1) ss rest a.2
          (λ qs us i. (a.0.1, h.0, statement_sound (statements n) (λ vs ws rs j. rows_sound n vs ws rs j) ts a.0.1 a.0.0 a.1, rows_sound n a.0.1 us qs i))
      | inr h ↦ held P [] ss ts rest h.1 (h.0, refl)
    ]

-- ---- whole programs

has_some : (ss : List StatementText) → (length ss == 0) ≡ false → HasStatement (in_a_row ss)
has_some [] e = absurd cc
has_some (s ∷ ss) e = tt

body_sound : (ts : List SpecToken) (ss : List StatementText) → body_at ts ≡ Some ss → AreStatements ts (in_a_row ss) [] × HasStatement (in_a_row ss)
unfolding body_at
body_sound ts ss e =
    let a = bind_some (statements (length ts + 1) ts) _ ss e in
    elim (tested (length a.0.0 == 0) None (if length a.0.1 == 0 then Some a.0.0 else None) (Some ss) a.2) [
      | inl h ↦ let e = h.1 in absurd cc
      | inr h ↦
          elim (tested (length a.0.1 == 0) (Some a.0.0) None (Some ss) h.1) [
            | inl k ↦
                let are = subst (λ us. AreStatements ts (in_a_row a.0.0) us) (none_left a.0.1 k.0) (rows_sound (length ts + 1) ts a.0.1 a.0.0 a.1) in
                subst (λ qs. AreStatements ts (in_a_row qs) [] × HasStatement (in_a_row qs)) (same_Some a.0.0 ss k.1) (are, has_some a.0.0 h.0)
            | inr k ↦ let e = k.1 in absurd cc
          ]
    ]

abbrev source_with : List (List ℕ) → List (List ℕ) → BlockText → SourceText
source_with variables fields body = record { variables = variables; fields = fields; body = body }

pub source_sound : (ts : List SpecToken) (s : SourceText) → source_at ts ≡ Some s → IsSource ts s
unfolding source_at
source_sound ts s e =
    let a = bind_some (names_in (codes "vars") ts) _ s e in
    let b = bind_some (names_in (codes "fields") a.0.1) _ s a.2 in
    let c = bind_some (body_at b.0.1) _ s b.2 in
    let body = body_sound b.0.1 c.0 c.1 in
    subst (IsSource ts) (same_Some (source_with a.0.0 b.0.0 (in_a_row c.0)) s c.2)
    (a.0.1, b.0.1, names_sound (codes "vars") ts a.0.1 a.0.0 a.1, names_sound (codes "fields") a.0.1 b.0.1 b.0.0 b.1, body.0, body.1)
