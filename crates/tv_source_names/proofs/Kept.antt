-- What a source program means is valid: its names may be declared and differ, and its numbers are those of names.
use Rattle.std.proofs.Common.{◌≡◌, ◌≢◌, ℕ, ◌+◌, ◌<◌, ◌≤◌, ◌^◌, Bool, true, false, get_or, List, [], ◌∷◌, ◌++◌}
use Rattle.std.proofs.Common.{Ok, Err, Result, Option, Some, None, length, refl, sym, ap, ◌∙◌, subst}
use Rattle.std.proofs.Common.{append_assoc, arith, Bor}
use Rattle.std.specs.Prelude.{All, AllPairs, IfOk, map, codes}
use Rattle.std.specs.Str.{bytes_eq}
use Rattle.std.proofs.lemmas.Bool.{both_ways, or_parts}
use Rattle.std.proofs.lemmas.List.{append-nil, length-map}
use Rattle.std.proofs.lemmas.List.Elements.{All-nil, All-push}
use Rattle.std.proofs.lemmas.List.Folds.{list_any_at}
use Rattle.std.proofs.lemmas.List.Quantifiers.{all_pairs_push, position-Some}
use Rattle.std.proofs.lemmas.Slice.Eq.{bytes_eq-Decides}
use Rattle.tv_lex.specs.Bytes.{longest_text}
use Rattle.tv_lex.specs.Pieces.{Reads, AreInOrder}
use Rattle.tv_lex.specs.Spaced.{IsToken}
use Rattle.tv_lex.specs.Token.{SpecToken, text_of, spec_token, spec_tokens}
use Rattle.tv_lex.specs.declared.token.Token.{Token}
use Rattle.tv_lex.proofs.PlaceLemmas.{reads_order}
use Rattle.tv_lex.proofs.PieceTokens.{lexed_tokens}
use Rattle.tv_source.specs.Forms.{AssignForm, ANull, ANew, ACopy, ALoad, AStore, AClear, TestForm, TAny}
use Rattle.tv_source.specs.Forms.{TNull, TSame, Stmt, SAssign, SIf, SWhile, Stmts, no_stmts, with_stmt}
use Rattle.tv_source.specs.Forms.{SourceForm}
use Rattle.tv_source.specs.Valid.{IsAssignOf, IsTestOf, IsStmtOf, AreStmtsOf, HasStmts, IsSource}
use Rattle.tv_source_syntax.specs.Forms.{AssignText, XNull, XNew, XCopy, XLoad, XStore, XClear, TestText}
use Rattle.tv_source_syntax.specs.Forms.{XAny, XIsNull, XSame, StatementText, XAssign, XIf, XWhile, BlockText}
use Rattle.tv_source_syntax.specs.Forms.{no_statement, with_statement, SourceText}
use Rattle.tv_source_syntax.specs.Grammar.{HasStatement, IsSource as IsSourceText}
use Rattle.tv_source.specs.Copies.{source_of as source_form}
use Rattle.tv_source.specs.declared.source.Source.{Source}
use Rattle.tv_source_syntax.specs.Copies.{source_of}
use Rattle.tv_source_syntax.specs.declared.tree.SourceTree.{SourceTree}
use Rattle.tv_source_syntax.proofs.Declared.{source_spelled, source_few}
use Rattle.tv_source_syntax.proofs.Sources.{one_source}
use Rattle.tv_tree.specs.Names.{is_among, names_of, number_of}
use Rattle.tv_tree.specs.Steps.{◌>>=◌, refused_if, or_refused}
use Rattle.tv_source_names.specs.Answers.{Answers}
use Rattle.tv_source_names.specs.Outcome.{MeansSource}
use Rattle.tv_source_names.specs.declared.error.SourceReadError.{SourceReadError}
use Rattle.tv_source_names.specs.declared.error.SourceReadError.TheVariants.{Reserved, NameTwice, NameUnknown}
use Rattle.tv_source_names.specs.Meaning.{is_taken, may_be_declared, declared, numbered}
use Rattle.tv_source_names.specs.Meaning.{assign_meant, test_meant, statement_meant, block_meant}
use Rattle.tv_source_names.specs.Meaning.{source_meant}

-- the value of a step that wasn't refused
pub bind_ok : {A B : Type 0} (r : Result A SourceReadError) (g : A → Result B SourceReadError) (y : B) → (r >>= g) ≡ Ok y → (x : A) × (r ≡ Ok x) × (g x ≡ Ok y)
bind_ok (Ok x) g y e = (x, refl, e)
bind_ok (Err fault) g y e = absurd cc

abbrev good : {A : Type 0} → A → Result A SourceReadError
good x = Ok x

same_ok : {A : Type 0} (x y : A) → good x ≡ good y → x ≡ y
same_ok x y e = cc

-- ---- names

abbrev IsFree : List ℕ → Type 0
IsFree name = (name ≢ codes "sm") × (name ≢ codes "isNew")

two_flags : (a b : Bool) → (refused_if a Reserved >>= λ free. refused_if b NameTwice) ≡ Ok tt → (a ≡ false) × (b ≡ false)
two_flags true b e = absurd cc
two_flags false true e = absurd cc
two_flags false false e = (refl, refl)

other_word : (w k : List ℕ) → bytes_eq w k ≡ false → w ≢ k
other_word w k e = λ same. both_ways (bytes_eq w k) e ((bytes_eq-Decides w k).1 same)

free_word : (w : List ℕ) → is_taken w ≡ false → IsFree w
free_word w e =
    let both = or_parts (bytes_eq w (codes "sm")) (bytes_eq w (codes "isNew")) e in
    (other_word w (codes "sm") both.0, other_word w (codes "isNew") both.1)

none_before : (before : List (List ℕ)) (w : List ℕ) → is_among before w ≡ false → (k : ℕ) (d : List ℕ) → k < length before → get_or before k d ≢ w
none_before before w e k d lt = λ same. both_ways (is_among before w) e (list_any_at (bytes_eq w) before k d lt ((bytes_eq-Decides w (get_or before k d)).1 (sym same)))

pub declared_good : (names before : List (List ℕ)) → All IsFree before → AllPairs ◌≢◌ before → declared before names ≡ Ok tt
    → All IsFree (before ++ names) × AllPairs ◌≢◌ (before ++ names)
declared_good [] before free apart e = subst (λ ns. All IsFree ns × AllPairs ◌≢◌ ns) (sym (append-nil before)) (free, apart)
declared_good (w ∷ names) before free apart e =
    let a = bind_ok (may_be_declared before w) (λ one. declared (before ++ w ∷ []) names) tt e in
    let flags = two_flags (is_taken w) (is_among before w) a.1 in
    let rest = declared_good names (before ++ w ∷ []) (All-push IsFree before w free (free_word w flags.0))
    (all_pairs_push ◌≢◌ before w apart (none_before before w flags.1)) a.2 in
    let behind : (before ++ w ∷ []) ++ names ≡ before ++ w ∷ names = simp append_assoc in
    subst (λ ns. All IsFree ns × AllPairs ◌≢◌ ns) behind rest

no_pairs : AllPairs {X = List ℕ} ◌≢◌ []
no_pairs i j d less below = absurd (omega (arith, below))

-- ---- numbers

or_ok : {A : Type 0} (o : Option A) (x : A) → or_refused o NameUnknown ≡ Ok x → o ≡ Some x
or_ok None x e = absurd cc
or_ok (Some y) x e = ap Some (same_ok y x e)

numbered_within : (names : List (List ℕ)) (w : List ℕ) (n : ℕ) → numbered names w ≡ Ok n → n < length names
numbered_within names w n e = (position-Some (bytes_eq w) names n [] (or_ok (number_of names w) n e)).0

module _ (p : SourceForm) where
  variable_of : (w : List ℕ) (n : ℕ) → numbered p.variables w ≡ Ok n → n < length p.variables
  variable_of w n e = numbered_within p.variables w n e

  field_of : (w : List ℕ) (n : ℕ) → numbered p.fields w ≡ Ok n → n < length p.fields
  field_of w n e = numbered_within p.fields w n e

  assign_within : (a : AssignText) (b : AssignForm) → assign_meant p.variables p.fields a ≡ Ok b → IsAssignOf p b
  unfolding assign_meant
  assign_within (XNull x) b e =
      let i = bind_ok (numbered p.variables x) _ b e in
      subst (IsAssignOf p) (same_ok (ANull i.0) b i.2) (variable_of x i.0 i.1)
  assign_within (XNew x) b e =
      let i = bind_ok (numbered p.variables x) _ b e in
      subst (IsAssignOf p) (same_ok (ANew i.0) b i.2) (variable_of x i.0 i.1)
  assign_within (XCopy x y) b e =
      let i = bind_ok (numbered p.variables x) _ b e in
      let j = bind_ok (numbered p.variables y) _ b i.2 in
      subst (IsAssignOf p) (same_ok (ACopy i.0 j.0) b j.2) (variable_of x i.0 i.1, variable_of y j.0 j.1)
  assign_within (XLoad x y f) b e =
      let i = bind_ok (numbered p.variables x) _ b e in
      let j = bind_ok (numbered p.variables y) _ b i.2 in
      let k = bind_ok (numbered p.fields f) _ b j.2 in
      subst (IsAssignOf p) (same_ok (ALoad i.0 j.0 k.0) b k.2) (variable_of x i.0 i.1, variable_of y j.0 j.1, field_of f k.0 k.1)
  assign_within (XStore x f y) b e =
      let i = bind_ok (numbered p.variables x) _ b e in
      let j = bind_ok (numbered p.fields f) _ b i.2 in
      let k = bind_ok (numbered p.variables y) _ b j.2 in
      subst (IsAssignOf p) (same_ok (AStore i.0 j.0 k.0) b k.2) (variable_of x i.0 i.1, field_of f j.0 j.1, variable_of y k.0 k.1)
  assign_within (XClear x f) b e =
      let i = bind_ok (numbered p.variables x) _ b e in
      let j = bind_ok (numbered p.fields f) _ b i.2 in
      subst (IsAssignOf p) (same_ok (AClear i.0 j.0) b j.2) (variable_of x i.0 i.1, field_of f j.0 j.1)

  test_within : (t : TestText) (u : TestForm) → test_meant p.variables p.fields t ≡ Ok u → IsTestOf p u
  unfolding test_meant
  test_within XAny u e = subst (IsTestOf p) (same_ok TAny u e) tt
  test_within (XIsNull equal x) u e =
      let i = bind_ok (numbered p.variables x) _ u e in
      subst (IsTestOf p) (same_ok (TNull equal i.0) u i.2) (variable_of x i.0 i.1)
  test_within (XSame equal x y) u e =
      let i = bind_ok (numbered p.variables x) _ u e in
      let j = bind_ok (numbered p.variables y) _ u i.2 in
      subst (IsTestOf p) (same_ok (TSame equal i.0 j.0) u j.2) (variable_of x i.0 i.1, variable_of y j.0 j.1)

  mutual
    unfolding statement_meant block_meant

    statement_within : (s : StatementText) (m : Stmt) → statement_meant p.variables p.fields s ≡ Ok m → IsStmtOf p m
    statement_within (XAssign a) m e =
        let b = bind_ok (assign_meant p.variables p.fields a) _ m e in
        subst (IsStmtOf p) (same_ok (SAssign b.0) m b.2) (assign_within a b.0 b.1)
    statement_within (XIf t body other) m e =
        let u = bind_ok (test_meant p.variables p.fields t) _ m e in
        let b = bind_ok (block_meant p.variables p.fields body) _ m u.2 in
        let c = bind_ok (block_meant p.variables p.fields other) _ m b.2 in
        subst (IsStmtOf p) (same_ok (SIf u.0 b.0 c.0) m c.2) (test_within t u.0 u.1, block_within body b.0 b.1, block_within other c.0 c.1)
    statement_within (XWhile t body) m e =
        let u = bind_ok (test_meant p.variables p.fields t) _ m e in
        let b = bind_ok (block_meant p.variables p.fields body) _ m u.2 in
        subst (IsStmtOf p) (same_ok (SWhile u.0 b.0) m b.2) (test_within t u.0 u.1, block_within body b.0 b.1)

    block_within : (b : BlockText) (ss : Stmts) → block_meant p.variables p.fields b ≡ Ok ss → AreStmtsOf p ss
    block_within no_statement ss e = subst (AreStmtsOf p) (same_ok no_stmts ss e) tt
    block_within (with_statement s more) ss e =
        let x = bind_ok (statement_meant p.variables p.fields s) _ ss e in
        let xs = bind_ok (block_meant p.variables p.fields more) _ ss x.2 in
        subst (AreStmtsOf p) (same_ok (with_stmt x.0 xs.0) ss xs.2) (statement_within s x.0 x.1, block_within more xs.0 xs.1)

some_statements : (variables fields : List (List ℕ)) (b : BlockText) (ss : Stmts) → HasStatement b → block_meant variables fields b ≡ Ok ss → HasStmts ss
unfolding block_meant
some_statements variables fields no_statement ss has e = elim has [ ]
some_statements variables fields (with_statement s more) ss has e =
    let x = bind_ok (statement_meant variables fields s) _ ss e in
    let xs = bind_ok (block_meant variables fields more) _ ss x.2 in
    subst HasStmts (same_ok (with_stmt x.0 xs.0) ss xs.2) tt

-- ---- whole programs

abbrev source_with : SourceText → Stmts → SourceForm
source_with s body = record { variables = s.variables; fields = s.fields; body = body }

pub source_kept : (ts : List SpecToken) (s : SourceText) (p : SourceForm) → All IsToken ts → IsSourceText ts s → source_meant s ≡ Ok p → IsSource p
unfolding source_meant
source_kept ts s p tokens is e =
    let a = bind_ok (declared [] s.variables) _ p e in
    let b = bind_ok (declared s.variables s.fields) _ p a.2 in
    let c = bind_ok (block_meant s.variables s.fields s.body) _ p b.2 in
    let variables = declared_good s.variables [] (All-nil IsFree) no_pairs a.1 in
    let all = declared_good s.fields s.variables variables.0 variables.1 b.1 in
    let spelled = source_spelled ts s is tokens in
    let made : IsSource (source_with s c.0) = record {
      names = λ k d lt. (spelled k d lt, (all.0 k d lt).0, (all.0 k d lt).1);
      names_differ = all.1;
      body = block_within (source_with s c.0) s.body c.0 c.1;
      some = some_statements s.variables s.fields s.body c.0 is.5 c.1;
    } in
    subst IsSource (same_ok (source_with s c.0) p c.2) made

pub one_meaning : (ts : List SpecToken) (a b : SourceForm) → MeansSource ts a → MeansSource ts b → a ≡ b
one_meaning ts a b h k = same_ok a b (sym h.meant ∙ ap source_meant (one_source ts h.text k.text h.is k.is) ∙ k.meant)

-- ---- how many names a text has

tokens_within : (ts : List Token) (at end : ℕ) → AreInOrder at ts end → length ts + at ≤ end
tokens_within [] at end order = omega (arith, order)
tokens_within (t ∷ ts) at end order =
    let first = order.0 in
    let later = order.1 in
    let rest = tokens_within ts t.end end order.2 in
    omega (arith, first, later, rest)

-- a number of 32 bits tells each name
pub few_names : (bytes : List ℕ) (tokens : List Token) (t : SourceTree) → length bytes ≤ longest_text → Reads bytes (Ok tokens)
    → IsSourceText (spec_tokens bytes tokens) (source_of bytes t) → (length t.variables < 2 ^ 32) × (length t.fields < 2 ^ 32)
few_names bytes tokens t short reads is =
    let names = source_few (spec_tokens bytes tokens) (source_of bytes t) is in
    let variables = length-map t.variables (text_of bytes) in
    let fields = length-map t.fields (text_of bytes) in
    let all = length-map tokens (spec_token bytes) in
    let within = tokens_within tokens 0 (length bytes) (reads_order bytes tokens reads) in
    (omega (arith, names, variables, fields, all, within, short), omega (arith, names, variables, fields, all, within, short))

-- as many words as tokens spell them
pub keys_few : (keys : List (Bor (List ℕ))) (bytes : List ℕ) (tokens given : List Token) → names_of keys ≡ map (text_of bytes) tokens → tokens ≡ given
    → length given < 2 ^ 32 → length keys < 2 ^ 32
keys_few keys bytes tokens given same are few =
    let words = length-map keys (λ name. name.now) in
    let spelled = length-map tokens (text_of bytes) in
    let both : length (names_of keys) ≡ length (map (text_of bytes) tokens) = ap (λ (ws : List (List ℕ)). length ws) same in
    let all : length tokens ≡ length given = ap (λ (ts : List Token). length ts) are in
    omega (arith, words, spelled, both, all, few)

-- what is answered is valid
pub kept_answer : (r : Result Source SourceReadError) (bytes : List ℕ) (tokens : List Token) (t : SourceText) → Reads bytes (Ok tokens)
    → IsSourceText (spec_tokens bytes tokens) t → Answers source_form r (source_meant t) → IfOk r (λ s. IsSource (source_form s))
kept_answer (Ok s) bytes tokens t reads is meant = source_kept (spec_tokens bytes tokens) t (source_form s) (lexed_tokens bytes tokens reads) is meant
kept_answer (Err e) bytes tokens t reads is meant = tt
