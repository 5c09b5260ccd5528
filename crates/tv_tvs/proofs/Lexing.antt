-- The tokens of a text, put in front of one another.
use Rattle.std.proofs.Common.{◌≡◌, ℕ, suc, ◌<◌, List, [], ◌∷◌, ◌++◌, Option, Some, None, Ok, true, false, eqb}
use Rattle.std.proofs.Common.{length, get_or, ap, sym, refl, ◌∙◌, subst, inl, inr, arith}
use Rattle.std.specs.Prelude.{codes}
use Rattle.std.specs.List.{prefix_len, list_all}
use Rattle.std.proofs.lemmas.Bool.{and_parts, and_left, and_right, false≢true, cond-false, ne_eqb}
use Rattle.std.proofs.lemmas.List.{append-nil}
use Rattle.tv_lex.specs.Bytes.{is_word_byte}
use Rattle.tv_lex.specs.Token.{SpecToken}
use Rattle.tv_lex.specs.Pieces.{Fits, Stands, joined_pieces}
use Rattle.tv_lex.specs.Front.{front, token, is_half, word_front}
use Rattle.tv_lex.specs.declared.token.TokenKind.{TokenKind}
use Rattle.tv_lex.specs.declared.token.TokenKind.TheVariants as kind
use Rattle.tv_lex.proofs.Runs.{prefix_len-append-stop}
use Rattle.tv_lex.proofs.Taken.{front-blank, front-word}
use Rattle.tv_lex.proofs.PieceTokens.{Lexes, fits_as_taken, token_of}

piece_first : (kind : Option TokenKind) (bytes rest : List ℕ) (ts : List SpecToken) → Stands kind bytes rest
    → front (bytes ++ rest) ≡ Ok (record { kind = kind; len = length bytes }) → Lexes rest ts → Lexes (bytes ++ rest) (token_of kind bytes ++ ts)
piece_first kind bytes rest ts stands is l =
    let behind : rest ≡ joined_pieces l.pieces ++ [] = sym l.whole ∙ sym (append-nil (joined_pieces l.pieces))
    in record {
      pieces = record { kind = kind; bytes = bytes } ∷ l.pieces;
      fit = (subst (Fits (record { kind = kind; bytes = bytes })) behind (fits_as_taken kind bytes rest stands is), l.fit);
      whole = ap (λ t. bytes ++ t) l.whole;
      are = ap (λ us. token_of kind bytes ++ us) l.are;
    }

-- ---- blanks and marks

pub space_first : (rest : List ℕ) (ts : List SpecToken) → Lexes rest ts → Lexes (32 ∷ rest) ts
space_first rest ts l = piece_first None (32 ∷ []) rest ts (inl (32, refl, refl)) (front-blank 32 rest refl) l

pub feed_first : (rest : List ℕ) (ts : List SpecToken) → Lexes rest ts → Lexes (10 ∷ rest) ts
feed_first rest ts l = piece_first None (10 ∷ []) rest ts (inl (10, refl, refl)) (front-blank 10 rest refl) l

abbrev pub mark : List ℕ → SpecToken
mark bytes = record { kind = kind.Punct; bytes = bytes }

pub open_brace_first : (rest : List ℕ) (ts : List SpecToken) → Lexes rest ts → Lexes (123 ∷ rest) (mark (codes "{") ∷ ts)
unfolding front
open_brace_first rest ts l = piece_first (Some kind.Punct) (123 ∷ []) rest ts (inr (inr (inr (inr (inr (inr (inr (inl refl)))))))) refl l

pub close_brace_first : (rest : List ℕ) (ts : List SpecToken) → Lexes rest ts → Lexes (125 ∷ rest) (mark (codes "}") ∷ ts)
unfolding front
close_brace_first rest ts l = piece_first (Some kind.Punct) (125 ∷ []) rest ts (inr (inr (inr (inr (inr (inr (inr (inr (inl refl))))))))) refl l

pub open_bracket_first : (rest : List ℕ) (ts : List SpecToken) → Lexes rest ts → Lexes (91 ∷ rest) (mark (codes "[") ∷ ts)
unfolding front
open_bracket_first rest ts l = piece_first (Some kind.Punct) (91 ∷ []) rest ts (inr (inr (inr (inr (inr (inr (inr (inr (inr (inl refl)))))))))) refl l

pub close_bracket_first : (rest : List ℕ) (ts : List SpecToken) → Lexes rest ts → Lexes (93 ∷ rest) (mark (codes "]") ∷ ts)
unfolding front
close_bracket_first rest ts l = piece_first (Some kind.Punct) (93 ∷ []) rest ts (inr (inr (inr (inr (inr (inr (inr (inr (inr (inr (inl refl))))))))))) refl l

pub comma_first : (rest : List ℕ) (ts : List SpecToken) → Lexes rest ts → Lexes (44 ∷ rest) (mark (codes ",") ∷ ts)
unfolding front
comma_first rest ts l = piece_first (Some kind.Punct) (44 ∷ []) rest ts (inr (inr (inr (inr (inr (inr (inr (inr (inr (inr (inr (inl refl)))))))))))) refl l

pub colon_first : (rest : List ℕ) (ts : List SpecToken) → Lexes rest ts → Lexes (58 ∷ rest) (mark (codes ":") ∷ ts)
unfolding front
colon_first rest ts l = piece_first (Some kind.Punct) (58 ∷ []) rest ts (inr (inr (inr (inr (inr (inr (inr (inr (inr (inr (inr (inr (inl refl))))))))))))) refl l

pub arrow_first : (rest : List ℕ) (ts : List SpecToken) → Lexes rest ts → Lexes (45 ∷ 62 ∷ rest) (mark (codes "->") ∷ ts)
unfolding front
arrow_first rest ts l = piece_first (Some kind.Punct) (45 ∷ 62 ∷ []) rest ts (inr (inr (inl refl))) refl l

pub equals_first : (rest : List ℕ) (ts : List SpecToken) → Lexes (32 ∷ rest) ts → Lexes (61 ∷ 32 ∷ rest) (mark (codes "=") ∷ ts)
unfolding front
equals_first rest ts l = piece_first (Some kind.Punct) (61 ∷ []) (32 ∷ rest) ts (inr (inr (inr (inr (inr (inr (inr (inr (inr (inr (inr (inr (inr (inr (inr (inr (inl refl))))))))))))))))) refl l

abbrev pub directive : List ℕ → SpecToken
directive bytes = record { kind = kind.Directive; bytes = bytes }

pub n_first : (rest : List ℕ) (ts : List SpecToken) → Lexes (32 ∷ rest) ts → Lexes (37 ∷ 110 ∷ 32 ∷ rest) (directive (codes "%n") ∷ ts)
unfolding front
n_first rest ts l = piece_first (Some kind.Directive) (37 ∷ 110 ∷ []) (32 ∷ rest) ts (110 ∷ [], refl, (omega arith, refl)) refl l

pub p_first : (rest : List ℕ) (ts : List SpecToken) → Lexes (32 ∷ rest) ts → Lexes (37 ∷ 112 ∷ 32 ∷ rest) (directive (codes "%p") ∷ ts)
unfolding front
p_first rest ts l = piece_first (Some kind.Directive) (37 ∷ 112 ∷ []) (32 ∷ rest) ts (112 ∷ [], refl, (omega arith, refl)) refl l

-- ---- words and values

-- what follows can't go on a word, and doesn't make `1` a half
abbrev pub Clear : List ℕ → Type 0
Clear rest = (is_word_byte (get_or rest 0 0) ≡ false) × (eqb (get_or rest 0 0) 47 ≡ false)

-- a word: one word byte or more
abbrev pub IsWordText : List ℕ → Type 0
IsWordText w = (0 < length w) × (list_all is_word_byte w ≡ true)

none_front : (rest : List ℕ) → is_word_byte (get_or rest 0 0) ≡ false → prefix_len is_word_byte rest ≡ 0
none_front [] h = refl
none_front (b ∷ rest) h = cond-false (is_word_byte b) _ _ h

no_slash : (cs rest : List ℕ) → list_all is_word_byte cs ≡ true → eqb (get_or rest 0 0) 47 ≡ false → eqb (get_or (cs ++ rest) 0 0) 47 ≡ false
no_slash [] rest all clear = clear
no_slash (c ∷ cs) rest all clear = ne_eqb c 47 (λ e. false≢true (subst (λ d. is_word_byte d ≡ true) e (and_parts _ _ all).0))

word_front_is : (c : ℕ) (cs rest : List ℕ) → list_all is_word_byte (c ∷ cs) ≡ true → Clear rest → word_front (c ∷ cs ++ rest) ≡ token kind.Word (suc (length cs))
word_front_is c cs rest all clear =
    let text = c ∷ cs ++ rest
    in let slash : eqb (get_or (cs ++ rest) 0 0) 47 ≡ false = no_slash cs rest (and_parts _ _ all).1 clear.1
    in let no_half : is_half text ≡ false = and_left _ _ (and_right (eqb c 49) _ (and_left _ _ slash))
    in cond-false (is_half text) _ _ no_half ∙ ap (token kind.Word) (prefix_len-append-stop is_word_byte (c ∷ cs) rest all (none_front rest clear.0))

abbrev pub word : List ℕ → SpecToken
word bytes = record { kind = kind.Word; bytes = bytes }

pub word_first : (w rest : List ℕ) (ts : List SpecToken) → IsWordText w → Clear rest → Lexes rest ts → Lexes (w ++ rest) (word w ∷ ts)
word_first [] rest ts is clear l = absurd (omega (arith, is.0))
word_first (c ∷ cs) rest ts is clear l =
    piece_first (Some kind.Word) (c ∷ cs) rest ts is
    (front-word c (cs ++ rest) (and_parts _ _ is.1).0 ∙ word_front_is c cs rest is.1 clear) l

abbrev pub half : SpecToken
half = record { kind = kind.Half; bytes = codes "1/2" }

half_front : (rest : List ℕ) → is_word_byte (get_or rest 0 0) ≡ false → front (49 ∷ 47 ∷ 50 ∷ rest) ≡ token kind.Half 3
unfolding front
half_front rest h = rw h refl

pub half_first : (rest : List ℕ) (ts : List SpecToken) → Clear rest → Lexes rest ts → Lexes (49 ∷ 47 ∷ 50 ∷ rest) (half ∷ ts)
half_first rest ts clear l = piece_first (Some kind.Half) (49 ∷ 47 ∷ 50 ∷ []) rest ts (refl, clear.0) (half_front rest clear.0) l
