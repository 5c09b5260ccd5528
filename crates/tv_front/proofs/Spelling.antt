-- A token is told by its bytes: its kind is the one that tokens of this spelling have.
use Rattle.std.proofs.Common.{◌≡◌, ℕ, List, [], ◌∷◌, ◌++◌, Bool, true, false, refl, ◌∙◌, ap, subst, inl, inr}
use Rattle.std.proofs.Common.{arith}
use Rattle.std.specs.Prelude.{codes, Some, ◌||◌, ◌==◌, slice_index, drop, IsTrue}
use Rattle.std.specs.List.{list_all, AllByRecursion}
use Rattle.std.specs.Char.{is_ascii_digit}
use Rattle.std.specs.Int.{is_in_range}
use Rattle.std.specs.Str.{bytes_eq}
use Rattle.std.proofs.lemmas.Bool.{and_parts, false≢true}
use Rattle.tv_lex.specs.Bytes.{is_word_byte, is_letter}
use Rattle.tv_lex.specs.Token.{SpecToken}
use Rattle.tv_lex.specs.Pieces.{Stands, IsRunOf, IsOneOf, punctuations}
use Rattle.tv_lex.specs.Spaced.{IsToken}
use Rattle.tv_lex.specs.declared.token.TokenKind.{TokenKind}
use Rattle.tv_lex.specs.declared.token.TokenKind.TheVariants as kind
use Rattle.tv_phrases.specs.Tokens.{begins_name}
use Rattle.tv_formula.specs.Spelled.{kind_of, spell}
use Rattle.tv_lemmas.proofs.Texts.{texts_differ}

-- ---- words

name_or_digit : (d u l e : Bool) → (((d || u) || l) || e) ≡ true → (((u || l) || e) || d) ≡ true
name_or_digit true true l e h = refl
name_or_digit true false true e h = refl
name_or_digit true false false true h = refl
name_or_digit true false false false h = refl
name_or_digit false true l e h = refl
name_or_digit false false true e h = refl
name_or_digit false false false true h = refl
name_or_digit false false false false h = absurd (false≢true h)

word_kind : (half name digit : Bool) (w : List ℕ) → bytes_eq w (codes "1/2") ≡ half → begins_name w ≡ name → is_ascii_digit (slice_index w 0) ≡ digit → half ≡ false → (name || digit) ≡ true → kind_of w ≡ kind.Word
unfolding kind_of
word_kind half true digit w a b c d e = rw (a, d, b) refl
word_kind half false true w a b c d e = rw (a, d, b, c) refl
word_kind half false false w a b c d e = absurd (false≢true e)

run_kind : (w : List ℕ) → IsRunOf is_word_byte w → kind_of w ≡ kind.Word
run_kind [] run = absurd (omega (arith, run.0))
run_kind (c ∷ cs) run =
    let first_ : is_word_byte c ≡ true = (and_parts (is_word_byte c) (list_all is_word_byte cs) run.1).0 in
    word_kind (bytes_eq (c ∷ cs) (codes "1/2")) (begins_name (c ∷ cs)) (is_ascii_digit c) (c ∷ cs) refl refl refl
    (texts_differ (c ∷ cs) (codes "1/2") (λ e. false≢true (subst (λ z. IsTrue (list_all is_word_byte z)) e run.1)))
    (name_or_digit (is_ascii_digit c) (is_in_range 65 90 c) (is_in_range 97 122 c) (c == 95) first_)

-- ---- the other kinds

directive_kind : (name : List ℕ) → IsRunOf is_letter name → kind_of (37 ∷ name) ≡ kind.Directive
unfolding kind_of
directive_kind name run =
    let apart : bytes_eq (37 ∷ name) (codes "%%") ≡ false = texts_differ (37 ∷ name) (codes "%%") (λ e. false≢true (subst (λ z. IsTrue (list_all is_letter (drop 1 z))) e run.1)) in
    rw apart refl

one_kind : (ms : List (List ℕ)) (w : List ℕ) → AllByRecursion (λ m. kind_of m ≡ kind.Punct) ms → IsOneOf ms w → kind_of w ≡ kind.Punct
one_kind [] w all is = absurd is
one_kind (m ∷ ms) w all (inl e) = ap kind_of e ∙ all.0
one_kind (m ∷ ms) w all (inr later) = one_kind ms w all.1 later

punctuation_kinds : AllByRecursion (λ m. kind_of m ≡ kind.Punct) punctuations
unfolding kind_of
punctuation_kinds = (refl, (refl, (refl, (refl, (refl, (refl, (refl, (refl, (refl, (refl, (refl, (refl, (refl, (refl, (refl, (refl, (refl, (refl, (refl, (refl, (refl, tt)))))))))))))))))))))

half_kind : kind_of (codes "1/2") ≡ kind.Half
unfolding kind_of
half_kind = refl

parts_kind : kind_of (codes "%%") ≡ kind.Parts
unfolding kind_of
parts_kind = refl

text_kind : (inside : List ℕ) → kind_of (34 ∷ inside) ≡ kind.Text
unfolding kind_of
text_kind inside = refl

stands_kind : (k : TokenKind) (b : List ℕ) → Stands (Some k) b [] → kind_of b ≡ k
stands_kind kind.Word b s = run_kind b s
stands_kind kind.Half b s = ap kind_of s.0 ∙ half_kind
stands_kind kind.Text b s = ap kind_of s.1 ∙ text_kind (s.0 ++ 34 ∷ [])
stands_kind kind.Directive b s = ap kind_of s.1 ∙ directive_kind s.0 s.2
stands_kind kind.Parts b s = ap kind_of s ∙ parts_kind
stands_kind kind.Punct b s = one_kind punctuations b punctuation_kinds s

pub spell_is : (t : SpecToken) → IsToken t → spell t.bytes ≡ t
spell_is t is = λ i. record { kind = stands_kind t.kind t.bytes is i; bytes = t.bytes }
