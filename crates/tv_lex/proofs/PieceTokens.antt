-- The tokens among the pieces of a text, by their bytes: library of lemmas for the crates above.
use Rattle.std.proofs.Common.{◌≡◌, ℕ, ◌+◌, ◌-◌, List, [], ◌∷◌, ◌++◌, Option, Some, None, Ok, length, take}
use Rattle.std.proofs.Common.{drop, ap, sym, refl, ◌∙◌, subst, arith, append_assoc, length-append}
use Rattle.std.specs.Prelude.{All}
use Rattle.std.proofs.lemmas.List.{append-nil, map-append, take_at, drop_at}
use Rattle.std.proofs.lemmas.List.Elements.{All-nil, All-cons}
use Rattle.tv_lex.specs.Token.{SpecToken, spec_token, spec_tokens}
use Rattle.tv_lex.specs.Pieces.{Piece, Fits, AllFit, Stands, joined_pieces, placed, placed_one, Reads}
use Rattle.tv_lex.specs.Spaced.{IsToken}
use Rattle.tv_lex.specs.Front.{front}
use Rattle.tv_lex.specs.declared.token.Token.{Token}
use Rattle.tv_lex.specs.declared.token.TokenKind.{TokenKind}
use Rattle.tv_lex.specs.declared.token.TokenKind.TheVariants.{Word, Half, Text, Directive, Parts, Punct}
use Rattle.tv_lex.proofs.Taken.{Takes, front_takes}

-- a piece fits where the reader takes it
pub fits_as_taken : (kind : Option TokenKind) (bytes rest : List ℕ) → Stands kind bytes rest → front (bytes ++ rest) ≡ Ok (record { kind = kind; len = length bytes }) → Fits (record { kind = kind; bytes = bytes }) rest
fits_as_taken kind bytes rest stands is = record {
  stands = stands;
  longest = λ other more behind same stands.
      let takes : Takes (Ok (record { kind = kind; len = length bytes })) other (length more) = subst (λ r. Takes r other (length more)) (ap front same ∙ is) (front_takes other more behind stands) in
      takes.0;
}

-- the tokens among pieces
abbrev pub token_of : Option TokenKind → List ℕ → List SpecToken
token_of None bytes = []
token_of (Some kind) bytes = record { kind = kind; bytes = bytes } ∷ []

abbrev pub tokens_of : List Piece → List SpecToken
tokens_of [] = []
tokens_of (p ∷ ps) = token_of p.kind p.bytes ++ tokens_of ps

text_there : (before bytes after : List ℕ) → take (length before + length bytes - length before) (drop (length before) (before ++ (bytes ++ after))) ≡ bytes
text_there before bytes after =
    let n : length before + length bytes - length before ≡ length bytes = omega arith in
    ap (λ k. take k (drop (length before) (before ++ (bytes ++ after)))) n ∙ ap (take (length bytes)) (drop_at before (bytes ++ after) (length before) refl) ∙ take_at bytes after (length bytes) refl

one_placed : (kind : Option TokenKind) (before bytes after text : List ℕ) → text ≡ before ++ (bytes ++ after) → spec_tokens text (placed_one kind (length before) (length before + length bytes)) ≡ token_of kind bytes
one_placed None before bytes after text is = refl
one_placed (Some kind) before bytes after text is =
    let there : take (length before + length bytes - length before) (drop (length before) text) ≡ bytes = ap (λ l. take (length before + length bytes - length before) (drop (length before) l)) is ∙ text_there before bytes after in
    λ i. record { kind = kind; bytes = there i } ∷ []

-- the tokens of a text have the bytes of its pieces
pub spec_tokens-placed : (before after text : List ℕ) (at : ℕ) (ps : List Piece) → at ≡ length before → text ≡ before ++ (joined_pieces ps ++ after) → spec_tokens text (placed at ps) ≡ tokens_of ps
spec_tokens-placed before after text at [] here is = refl
spec_tokens-placed before after text at (p ∷ ps) here is =
    let whole : text ≡ before ++ (p.bytes ++ (joined_pieces ps ++ after)) = is ∙ ap (λ l. before ++ l) (append_assoc p.bytes (joined_pieces ps) after) in
    let further : text ≡ before ++ p.bytes ++ (joined_pieces ps ++ after) = whole ∙ sym (append_assoc before p.bytes (joined_pieces ps ++ after)) in
    let next : at + length p.bytes ≡ length (before ++ p.bytes) = omega (arith, here, length-append before p.bytes) in
    map-append (spec_token text) (placed_one p.kind at (at + length p.bytes)) (placed (at + length p.bytes) ps)
    ∙ (λ i. (ap (λ a. spec_tokens text (placed_one p.kind a (a + length p.bytes))) here ∙ one_placed p.kind before p.bytes (joined_pieces ps ++ after) text whole) i
    ++ spec_tokens-placed (before ++ p.bytes) after text (at + length p.bytes) ps next further i)

-- ---- a text by its tokens

-- the text is cut into these tokens
pub record Lexes (text : List ℕ) (ts : List SpecToken) : Type 0 where
  pub pieces : List Piece
  pub fit : AllFit pieces []
  pub whole : joined_pieces pieces ≡ text
  pub are : tokens_of pieces ≡ ts

pub lexes_read : (text : List ℕ) (ts : List SpecToken) → Lexes text ts → (tokens : List Token) × Reads text (Ok tokens) × (spec_tokens text tokens ≡ ts)
lexes_read text ts l =
    let whole : text ≡ [] ++ (joined_pieces l.pieces ++ []) = sym l.whole ∙ sym (append-nil (joined_pieces l.pieces)) in
    (placed 0 l.pieces, (l.pieces, l.fit, l.whole, refl), spec_tokens-placed [] [] text 0 l.pieces refl whole ∙ l.are)

pub read_lexes : (text : List ℕ) (tokens : List Token) → Reads text (Ok tokens) → Lexes text (spec_tokens text tokens)
read_lexes text tokens r =
    let whole : text ≡ [] ++ (joined_pieces r.0 ++ []) = sym r.2 ∙ sym (append-nil (joined_pieces r.0)) in
    record {
      pieces = r.0;
      fit = r.1;
      whole = r.2;
      are = sym (ap (spec_tokens text) r.3 ∙ spec_tokens-placed [] [] text 0 r.0 refl whole);
    }

-- ---- the tokens of a text are tokens of their kinds

-- a token stands at the end of a text too
at_end : (k : TokenKind) (bytes behind : List ℕ) → Stands (Some k) bytes behind → Stands (Some k) bytes []
at_end Word bytes behind s = s
at_end Half bytes behind s = (s.0, refl)
at_end Text bytes behind s = s
at_end Directive bytes behind s = s
at_end Parts bytes behind s = s
at_end Punct bytes behind s = s

in_front : (k : Option TokenKind) (bytes behind : List ℕ) (ts : List SpecToken) → Stands k bytes behind → All IsToken ts → All IsToken (token_of k bytes ++ ts)
in_front None bytes behind ts s are = are
in_front (Some k) bytes behind ts s are = All-cons IsToken (record { kind = k; bytes = bytes }) ts (at_end k bytes behind s) are

pieces_tokens : (ps : List Piece) (rest : List ℕ) → AllFit ps rest → All IsToken (tokens_of ps)
pieces_tokens [] rest fit = All-nil IsToken
pieces_tokens (p ∷ ps) rest fit = in_front p.kind p.bytes (joined_pieces ps ++ rest) (tokens_of ps) fit.0.stands (pieces_tokens ps rest fit.1)

pub lexed_tokens : (text : List ℕ) (tokens : List Token) → Reads text (Ok tokens) → All IsToken (spec_tokens text tokens)
lexed_tokens text tokens reads = let l = read_lexes text tokens reads in subst (All IsToken) l.are (pieces_tokens l.pieces [] l.fit)
