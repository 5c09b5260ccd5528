-- A text of tokens with a blank behind each is read as these tokens.
use Rattle.std.proofs.Common.{◌≡◌, ℕ, suc, ◌+◌, List, [], ◌∷◌, ◌++◌, Some, None, Ok, true, false, eqb, length}
use Rattle.std.proofs.Common.{get_or, ap, sym, refl, ◌∙◌, subst, inl, inr, arith, append_assoc, length-append}
use Rattle.std.specs.List.{prefix_len, list_all, AllByRecursion}
use Rattle.std.proofs.lemmas.Bool.{and_parts, and_left, and_right, or_cases, false≢true, cond-true}
use Rattle.std.proofs.lemmas.Bool.{cond-false, eqb-true, ne_eqb}
use Rattle.std.proofs.lemmas.List.{append-nil, get_or_at}
use Rattle.tv_lex.specs.Bytes.{is_blank, is_word_byte, is_letter, is_text_byte}
use Rattle.tv_lex.specs.Token.{spec_tokens}
use Rattle.tv_lex.specs.Pieces.{Piece, AllFit, Stands, IsOneOf, IsRunOf, punctuations, joined_pieces, placed}
use Rattle.tv_lex.specs.Pieces.{Reads}
use Rattle.tv_lex.specs.Spaced.{Spaced, spaced_text, spaced_tokens}
use Rattle.tv_lex.specs.Front.{front, token, is_half, word_front, string_front}
use Rattle.tv_lex.specs.declared.token.Token.{Token}
use Rattle.tv_lex.specs.declared.token.TokenKind.{TokenKind}
use Rattle.tv_lex.specs.declared.token.TokenKind.TheVariants.{Word, Half, Text, Directive, Parts, Punct}
use Rattle.tv_lex.proofs.PieceTokens.{tokens_of, fits_as_taken}
pub use Rattle.tv_lex.proofs.PieceTokens.{spec_tokens-placed}
use Rattle.tv_lex.proofs.Runs.{prefix_len-append-stop}
use Rattle.tv_lex.proofs.Taken.{front-blank, front-word, front-quote, front-percent, letter_not_percent}

-- ---- what the reader takes in front of a blank

each_blank : (P : ℕ → Type 0) → P 32 → P 9 → P 13 → P 10 → (b : ℕ) → is_blank b ≡ true → P b
each_blank P space tab return feed b h = elim (or_cases (eqb b 32) _ h) [
  | inl e ↦ subst P (sym (eqb-true b 32 e)) space
  | inr h ↦ elim (or_cases (eqb b 9) _ h) [
    | inl e ↦ subst P (sym (eqb-true b 9 e)) tab
    | inr h ↦ elim (or_cases (eqb b 13) _ h) [
      | inl e ↦ subst P (sym (eqb-true b 13 e)) return
      | inr e ↦ subst P (sym (eqb-true b 10 e)) feed
    ]
  ]
]

blank_not_word : (b : ℕ) → is_blank b ≡ true → is_word_byte b ≡ false
blank_not_word = each_blank (λ b. is_word_byte b ≡ false) refl refl refl refl

blank_not_letter : (b : ℕ) → is_blank b ≡ true → is_letter b ≡ false
blank_not_letter = each_blank (λ b. is_letter b ≡ false) refl refl refl refl

not_slash : (bs rest : List ℕ) (b : ℕ) → is_blank b ≡ true → list_all is_word_byte bs ≡ true → eqb (get_or (bs ++ b ∷ rest) 0 0) 47 ≡ false
not_slash [] rest b blank all = each_blank (λ c. eqb c 47 ≡ false) refl refl refl refl b blank
not_slash (c ∷ cs) rest b blank all = ne_eqb c 47 (λ e. false≢true (subst (λ d. is_word_byte d ≡ true) e (and_parts _ _ all).0))

word-spaced : (c : ℕ) (cs rest : List ℕ) (b : ℕ) → is_blank b ≡ true → list_all is_word_byte (c ∷ cs) ≡ true → word_front (c ∷ cs ++ b ∷ rest) ≡ token Word (suc (length cs))
word-spaced c cs rest b blank all =
    let text = c ∷ cs ++ b ∷ rest in
    let slash : eqb (get_or (cs ++ b ∷ rest) 0 0) 47 ≡ false = not_slash cs rest b blank (and_parts _ _ all).1 in
    let no_half : is_half text ≡ false = and_left _ _ (and_right (eqb c 49) _ (and_left _ _ slash)) in
    let none : prefix_len is_word_byte (b ∷ rest) ≡ 0 = cond-false (is_word_byte b) _ _ (blank_not_word b blank) in
    cond-false (is_half text) _ _ no_half ∙ ap (token Word) (prefix_len-append-stop is_word_byte (c ∷ cs) (b ∷ rest) all none)

half-spaced : (rest : List ℕ) (b : ℕ) → is_blank b ≡ true → front (49 ∷ 47 ∷ 50 ∷ b ∷ rest) ≡ token Half 3
unfolding front
half-spaced rest b blank = rw (blank_not_word b blank) refl

string-spaced : (inside rest : List ℕ) → list_all is_text_byte inside ≡ true → string_front (inside ++ 34 ∷ rest) ≡ token Text (length inside + 2)
string-spaced inside rest all =
    let stop : prefix_len is_text_byte (inside ++ 34 ∷ rest) ≡ length inside = prefix_len-append-stop is_text_byte inside (34 ∷ rest) all refl in
    let quote : get_or (inside ++ 34 ∷ rest) (prefix_len is_text_byte (inside ++ 34 ∷ rest)) 0 ≡ 34 = get_or_at inside 34 rest 0 _ (sym stop) in
    cond-true (eqb (get_or (inside ++ 34 ∷ rest) (prefix_len is_text_byte (inside ++ 34 ∷ rest)) 0) 34) _ _ (ap (λ d. eqb d 34) quote) ∙ ap (λ n. token Text (n + 2)) stop

directive-spaced : (name rest : List ℕ) (b : ℕ) → is_blank b ≡ true → IsRunOf is_letter name → front (37 ∷ name ++ b ∷ rest) ≡ token Directive (suc (length name))
directive-spaced [] rest b blank run = absurd (omega (arith, run.0))
directive-spaced (c ∷ cs) rest b blank run =
    let letter : is_letter c ≡ true = (and_parts _ _ run.1).0 in
    let none : prefix_len is_letter (b ∷ rest) ≡ 0 = cond-false (is_letter b) _ _ (blank_not_letter b blank) in
    let stop : prefix_len is_letter (c ∷ cs ++ b ∷ rest) ≡ suc (length cs) = prefix_len-append-stop is_letter (c ∷ cs) (b ∷ rest) run.1 none in
    let more : prefix_len is_letter (c ∷ cs ++ b ∷ rest) + 1 ≡ suc (suc (length cs)) = omega arith in
    front-percent (c ∷ cs ++ b ∷ rest) ∙ cond-false (eqb c 37) _ _ (letter_not_percent c letter) ∙ cond-true (is_letter c) _ _ letter ∙ ap (token Directive) more

-- a punctuation in front of this blank
abbrev PunctAlone : ℕ → List ℕ → Type 0
PunctAlone b m = (rest : List ℕ) → front (m ++ b ∷ rest) ≡ token Punct (length m)

alone : (b : ℕ) (ms : List (List ℕ)) (bytes : List ℕ) → AllByRecursion (PunctAlone b) ms → IsOneOf ms bytes → PunctAlone b bytes
alone b [] bytes all one = absurd one
alone b (m ∷ ms) bytes all one = elim one [
  | inl e ↦ subst (PunctAlone b) (sym e) all.0
  | inr later ↦ alone b ms bytes all.1 later
]

punctuations_alone : (b : ℕ) → is_blank b ≡ true → AllByRecursion (PunctAlone b) punctuations
unfolding front
punctuations_alone = each_blank (λ b. AllByRecursion (PunctAlone b) punctuations)
    (λ r. refl, (λ r. refl, (λ r. refl, (λ r. refl, (λ r. refl, (λ r. refl, (λ r. refl, (λ r. refl, (λ r. refl, (λ r. refl, (λ r. refl, (λ r. refl, (λ r. refl, (λ r. refl, (λ r. refl, (λ r. refl, (λ r. refl, (λ r. refl, (λ r. refl, (λ r. refl, (λ r. refl, tt)))))))))))))))))))))
    (λ r. refl, (λ r. refl, (λ r. refl, (λ r. refl, (λ r. refl, (λ r. refl, (λ r. refl, (λ r. refl, (λ r. refl, (λ r. refl, (λ r. refl, (λ r. refl, (λ r. refl, (λ r. refl, (λ r. refl, (λ r. refl, (λ r. refl, (λ r. refl, (λ r. refl, (λ r. refl, (λ r. refl, tt)))))))))))))))))))))
    (λ r. refl, (λ r. refl, (λ r. refl, (λ r. refl, (λ r. refl, (λ r. refl, (λ r. refl, (λ r. refl, (λ r. refl, (λ r. refl, (λ r. refl, (λ r. refl, (λ r. refl, (λ r. refl, (λ r. refl, (λ r. refl, (λ r. refl, (λ r. refl, (λ r. refl, (λ r. refl, (λ r. refl, tt)))))))))))))))))))))
    (λ r. refl, (λ r. refl, (λ r. refl, (λ r. refl, (λ r. refl, (λ r. refl, (λ r. refl, (λ r. refl, (λ r. refl, (λ r. refl, (λ r. refl, (λ r. refl, (λ r. refl, (λ r. refl, (λ r. refl, (λ r. refl, (λ r. refl, (λ r. refl, (λ r. refl, (λ r. refl, (λ r. refl, tt)))))))))))))))))))))

front-spaced : (kind : TokenKind) (bytes rest : List ℕ) (b : ℕ) → is_blank b ≡ true → Stands (Some kind) bytes [] → front (bytes ++ b ∷ rest) ≡ token kind (length bytes)
front-spaced Word [] rest b blank stands = absurd (omega (arith, stands.0))
front-spaced Word (c ∷ cs) rest b blank stands = front-word c (cs ++ b ∷ rest) (and_parts _ _ stands.1).0 ∙ word-spaced c cs rest b blank stands.1
front-spaced Half bytes rest b blank stands =
    let P : List ℕ → Type 0 = λ bs. front (bs ++ b ∷ rest) ≡ token Half (length bs) in
    subst P (sym stands.0) (half-spaced rest b blank)
front-spaced Text bytes rest b blank stands =
    let P : List ℕ → Type 0 = λ bs. front (bs ++ b ∷ rest) ≡ token Text (length bs) in
    let len : length stands.0 + 2 ≡ suc (length (stands.0 ++ 34 ∷ [])) = omega (arith, length-append stands.0 (34 ∷ [])) in
    subst P (sym stands.1)
    (front-quote (stands.0 ++ 34 ∷ [] ++ b ∷ rest) ∙ ap string_front (append_assoc stands.0 (34 ∷ []) (b ∷ rest)) ∙ string-spaced stands.0 (b ∷ rest) stands.2 ∙ ap (token Text) len)
front-spaced Directive bytes rest b blank stands =
    let P : List ℕ → Type 0 = λ bs. front (bs ++ b ∷ rest) ≡ token Directive (length bs) in
    subst P (sym stands.1) (directive-spaced stands.0 rest b blank stands.2)
front-spaced Parts bytes rest b blank stands =
    let P : List ℕ → Type 0 = λ bs. front (bs ++ b ∷ rest) ≡ token Parts (length bs) in
    subst P (sym stands) (front-percent (37 ∷ b ∷ rest))
front-spaced Punct bytes rest b blank stands = alone b punctuations bytes (punctuations_alone b blank) stands rest

stands-spaced : (kind : TokenKind) (bytes rest : List ℕ) (b : ℕ) → is_blank b ≡ true → Stands (Some kind) bytes [] → Stands (Some kind) bytes (b ∷ rest)
stands-spaced Word bytes rest b blank stands = stands
stands-spaced Half bytes rest b blank stands = (stands.0, blank_not_word b blank)
stands-spaced Text bytes rest b blank stands = stands
stands-spaced Directive bytes rest b blank stands = stands
stands-spaced Parts bytes rest b blank stands = stands
stands-spaced Punct bytes rest b blank stands = stands

-- ---- the pieces of such a text

abbrev pub spaced_pieces : List Spaced → List Piece
spaced_pieces [] = []
spaced_pieces (s ∷ ss) = record { kind = Some s.token.kind; bytes = s.token.bytes } ∷ record { kind = None; bytes = s.blank ∷ [] } ∷ spaced_pieces ss

spaced_fit : (ss : List Spaced) → AllFit (spaced_pieces ss) []
spaced_fit [] = tt
spaced_fit (s ∷ ss) =
    let after = joined_pieces (spaced_pieces ss) ++ [] in (
      fits_as_taken (Some s.token.kind) s.token.bytes (s.blank ∷ after) (stands-spaced s.token.kind s.token.bytes after s.blank s.is_blank s.is_token) (front-spaced s.token.kind s.token.bytes after s.blank s.is_blank s.is_token),
      (
        fits_as_taken None (s.blank ∷ []) after (inl (s.blank, refl, s.is_blank)) (front-blank s.blank after s.is_blank),
        spaced_fit ss,
      ),
    )

joined-spaced : (ss : List Spaced) → joined_pieces (spaced_pieces ss) ≡ spaced_text ss
joined-spaced [] = refl
joined-spaced (s ∷ ss) = ap (λ l. s.token.bytes ++ s.blank ∷ l) (joined-spaced ss) ∙ sym (append_assoc s.token.bytes (s.blank ∷ []) (spaced_text ss))

tokens_of-spaced : (ss : List Spaced) → tokens_of (spaced_pieces ss) ≡ spaced_tokens ss
tokens_of-spaced [] = refl
tokens_of-spaced (s ∷ ss) = ap (λ l. s.token ∷ l) (tokens_of-spaced ss)

pub spaced_reads : (ss : List Spaced) → (tokens : List Token) × Reads (spaced_text ss) (Ok tokens) × (spec_tokens (spaced_text ss) tokens ≡ spaced_tokens ss)
spaced_reads ss =
    let pieces = spaced_pieces ss in
    let whole : spaced_text ss ≡ [] ++ (joined_pieces pieces ++ []) = sym (joined-spaced ss) ∙ sym (append-nil (joined_pieces pieces)) in
    (placed 0 pieces, (pieces, spaced_fit ss, joined-spaced ss, refl), spec_tokens-placed [] [] (spaced_text ss) 0 pieces refl whole ∙ tokens_of-spaced ss)
