-- The declared names: they are spelled as identifiers are, and there are no more than tokens.
use Rattle.std.proofs.Common.{◌≡◌, ℕ, ◌+◌, ◌≤◌, List, [], ◌∷◌, ◌++◌, true, length, Some, None, subst, sym}
use Rattle.std.proofs.Common.{arith}
use Rattle.std.specs.Prelude.{codes, ◌&&◌, IfSome, All}
use Rattle.std.specs.Str.{bytes_eq}
use Rattle.std.proofs.lemmas.Bool.{and_parts}
use Rattle.std.proofs.lemmas.List.Elements.{All-nil, All-cons, All-head, All-tail, All-append}
use Rattle.tv_lex.specs.Bytes.{is_word_byte}
use Rattle.tv_lex.specs.Token.{SpecToken}
use Rattle.tv_lex.specs.Pieces.{IsRunOf, Stands}
use Rattle.tv_lex.specs.Spaced.{IsToken}
use Rattle.tv_lex.specs.declared.token.TokenKind.{TokenKind}
use Rattle.tv_lex.specs.declared.token.TokenKind.TheVariants as kind
use Rattle.tv_model.specs.Spelling.{IsIdentifier}
use Rattle.tv_phrases.specs.Tokens.{after, first, is_word, is_identifier, identifier_item}
use Rattle.tv_phrases.specs.Repeated.{begins_with, Repeated, Behind, Joined}
use Rattle.tv_phrases.proofs.Facts.{on_read, on_if, at_some}
use Rattle.tv_phrases.proofs.Takes.{after_takes}
use Rattle.tv_phrases.proofs.WordTests.{identifier_is}
use Rattle.tv_source_syntax.specs.Forms.{SourceText}
use Rattle.tv_source_syntax.specs.Grammar.{IsName, AreNames, IsSource}
use Rattle.tv_source_syntax.proofs.Complete.{name_parts, name_takes}
use Rattle.tv_phrases.proofs.LeftTokens.{Tokens, run_of, after_leaves}

-- ---- how they are spelled

says_identifier : (t : SpecToken) → IsToken t → IfSome (identifier_item t) IsIdentifier
says_identifier t is =
    on_if (is_word t.kind && is_identifier t.bytes) (Some t.bytes) None IsIdentifier
    (λ e. let both = and_parts (is_word t.kind) (is_identifier t.bytes) e in identifier_is t.bytes (run_of t.kind t.bytes is both.0) both.1) (λ e. tt)

first_leaves : (ts : List SpecToken) → Tokens ts → IfSome (first identifier_item ts) (λ x. IsIdentifier x.0 × Tokens x.1)
unfolding first
first_leaves [] are = tt
first_leaves (t ∷ ts) are = on_read (identifier_item t) _ IsIdentifier _ (says_identifier t (All-head IsToken t ts are)) (λ x p. (p, All-tail IsToken t ts are))

name_spelled : (ts us : List SpecToken) (x : List ℕ) → Tokens ts → IsName ts x us → IsIdentifier x × Tokens us
name_spelled ts us x are is = at_some (first identifier_item ts) (λ y. IsIdentifier y.0 × Tokens y.1) (x, us) (first_leaves ts are) (name_parts ts us x is).0

abbrev MoreNames : List SpecToken → List (List ℕ) → List SpecToken → Type 0
MoreNames ts xs rest = Repeated (begins_with (codes ",")) (Behind (codes ",") IsName) ts xs rest

more_spelled : (xs : List (List ℕ)) (ts rest : List SpecToken) → MoreNames ts xs rest → Tokens ts → All IsIdentifier xs × Tokens rest
more_spelled [] ts rest h are = (All-nil IsIdentifier, subst Tokens (sym h.1) are)
more_spelled (x ∷ xs) ts rest h are =
    let one = name_spelled h.2.0 h.0 x (after_leaves (codes ",") ts h.2.0 h.2.1 are) h.2.2 in
    let others = more_spelled xs h.0 rest h.3 one.1 in
    (All-cons IsIdentifier x xs one.0 others.0, others.1)

joined_spelled : (xs : List (List ℕ)) (ts rest : List SpecToken) → Joined (codes ",") IsName ts xs rest → Tokens ts → All IsIdentifier xs × Tokens rest
joined_spelled [] ts rest h are = elim h [ ]
joined_spelled (x ∷ xs) ts rest h are =
    let one = name_spelled ts h.0 x are h.1 in
    let others = more_spelled xs h.0 rest h.2 one.1 in
    (All-cons IsIdentifier x xs one.0 others.0, others.1)

names_spelled : (word : List ℕ) (xs : List (List ℕ)) (ts rest : List SpecToken) → AreNames word ts xs rest → Tokens ts → All IsIdentifier xs × Tokens rest
names_spelled word xs ts rest h are =
    let inside = after_leaves (codes "{") h.0 h.1 h.4 (after_leaves word ts h.0 h.3 are) in
    let names = joined_spelled xs h.1 h.2 h.5 inside in
    (names.0, after_leaves (codes "}") h.2 rest h.6 names.1)

pub source_spelled : (ts : List SpecToken) (s : SourceText) → IsSource ts s → Tokens ts → All IsIdentifier (s.variables ++ s.fields)
source_spelled ts s h are =
    let variables = names_spelled (codes "vars") s.variables ts h.0 h.2 are in
    let fields = names_spelled (codes "fields") s.fields h.0 h.1 h.3 variables.1 in
    All-append IsIdentifier s.variables s.fields variables.0 fields.0

-- ---- how many they are

more_few : (xs : List (List ℕ)) (ts rest : List SpecToken) → MoreNames ts xs rest → length xs + length rest ≤ length ts
more_few [] ts rest h = rw h.1 (omega arith)
more_few (x ∷ xs) ts rest h =
    let l = after_takes (codes ",") ts h.2.0 h.2.1 in
    let k = name_takes h.2.0 h.0 x h.2.2 in
    let m = more_few xs h.0 rest h.3 in
    omega (arith, l, k, m)

joined_few : (xs : List (List ℕ)) (ts rest : List SpecToken) → Joined (codes ",") IsName ts xs rest → length xs + length rest ≤ length ts
joined_few [] ts rest h = elim h [ ]
joined_few (x ∷ xs) ts rest h =
    let l = name_takes ts h.0 x h.1 in
    let m = more_few xs h.0 rest h.2 in
    omega (arith, l, m)

names_few : (word : List ℕ) (xs : List (List ℕ)) (ts rest : List SpecToken) → AreNames word ts xs rest → length xs + length rest ≤ length ts
names_few word xs ts rest h =
    let l = after_takes word ts h.0 h.3 in
    let k = after_takes (codes "{") h.0 h.1 h.4 in
    let m = joined_few xs h.1 h.2 h.5 in
    let j = after_takes (codes "}") h.2 rest h.6 in
    omega (arith, l, k, m, j)

pub source_few : (ts : List SpecToken) (s : SourceText) → IsSource ts s → length s.variables + length s.fields ≤ length ts
source_few ts s h =
    let l = names_few (codes "vars") s.variables ts h.0 h.2 in
    let k = names_few (codes "fields") s.fields h.0 h.1 h.3 in
    omega (arith, l, k)
