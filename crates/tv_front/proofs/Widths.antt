-- A printed text is at most twice as long as the text: no token is empty, and each has one blank behind it.
use Rattle.std.proofs.Common.{◌≡◌, ℕ, ◌+◌, ◌*◌, ◌<◌, ◌≤◌, List, [], ◌∷◌, ◌++◌, Option, Some, None, Ok, length}
use Rattle.std.proofs.Common.{refl, sym, ◌∙◌, ap, subst, inl, inr, arith, length-append}
use Rattle.std.specs.List.{AllByRecursion}
use Rattle.std.proofs.lemmas.List.{append-nil}
use Rattle.tv_lex.specs.Token.{SpecToken, spec_tokens}
use Rattle.tv_lex.specs.Pieces.{Piece, AllFit, Stands, IsOneOf, punctuations, joined_pieces, Reads}
use Rattle.tv_lex.specs.Spaced.{Spaced, spaced_text, spaced_tokens}
use Rattle.tv_lex.specs.declared.token.Token.{Token}
use Rattle.tv_lex.specs.declared.token.TokenKind.{TokenKind}
use Rattle.tv_lex.specs.declared.token.TokenKind.TheVariants as kind
use Rattle.tv_lex.proofs.PieceTokens.{spec_tokens-placed}
use Rattle.tv_lex.proofs.PlaceLemmas.{token_length}
use Rattle.tv_front.specs.ReadAgain.{Kept, all_kept, one_kept, mark_left}
use Rattle.tv_front.proofs.LaidOut.{IsLaidOut}

-- how long these tokens are, with a blank behind each
abbrev width : List SpecToken → ℕ
width [] = 0
width (t ∷ ts) = length t.bytes + 1 + width ts

spaced_width : (parts : List Spaced) → length (spaced_text parts) ≡ width (spaced_tokens parts)
spaced_width [] = refl
spaced_width (p ∷ parts) =
    let rest = spaced_width parts in
    omega (arith, length-append (p.token.bytes ++ p.blank ∷ []) (spaced_text parts), length-append p.token.bytes (p.blank ∷ []), rest)

pub laid_out_width : (text : List ℕ) (ts : List SpecToken) → IsLaidOut text ts → length text ≡ width ts
laid_out_width text ts l = ap (λ (xs : List ℕ). length xs) (sym l.text_is) ∙ spaced_width l.parts ∙ ap (λ (us : List SpecToken). width us) l.tokens_are

pub kept_width : (ts us : List SpecToken) → Kept ts us → width us ≤ width ts
kept_width _ _ (all_kept ts) = omega arith
kept_width _ _ (one_kept t ts us kept) = omega (arith, kept_width ts us kept)
kept_width _ _ (mark_left w ts us is kept) = omega (arith, kept_width ts us kept)

-- ---- the tokens of a text

abbrev piece_token : Option TokenKind → List ℕ → List SpecToken
piece_token None bytes = []
piece_token (Some kind) bytes = record { kind = kind; bytes = bytes } ∷ []

abbrev piece_tokens : List Piece → List SpecToken
piece_tokens [] = []
piece_tokens (p ∷ ps) = piece_token p.kind p.bytes ++ piece_tokens ps

one_some : (ms : List (List ℕ)) (w : List ℕ) → AllByRecursion (λ m. 0 < length m) ms → IsOneOf ms w → 0 < length w
one_some [] w all is = absurd is
one_some (m ∷ ms) w all (inl e) = subst (λ (v : List ℕ). 0 < length v) (sym e) all.0
one_some (m ∷ ms) w all (inr later) = one_some ms w all.1 later

marks_some : AllByRecursion (λ m. 0 < length m) punctuations
marks_some = (omega arith, (omega arith, (omega arith, (omega arith, (omega arith, (omega arith, (omega arith, (omega arith, (omega arith, (omega arith, (omega arith, (omega arith, (omega arith, (omega arith, (omega arith, (omega arith, (omega arith, (omega arith, (omega arith, (omega arith, (omega arith, tt)))))))))))))))))))))

piece_width : (k : Option TokenKind) (b behind : List ℕ) (ts : List SpecToken) (n : ℕ) → Stands k b behind → width ts ≤ 2 * n → width (piece_token k b ++ ts) ≤ 2 * (length b + n)
piece_width None b behind ts n s le = omega (arith, le)
piece_width (Some k) b behind ts n s le = omega (arith, le, token_length k b behind s)

pieces_width : (ps : List Piece) (rest : List ℕ) → AllFit ps rest → width (piece_tokens ps) ≤ 2 * length (joined_pieces ps)
pieces_width [] rest fit = omega arith
pieces_width (p ∷ ps) rest fit =
    let n : length (p.bytes ++ joined_pieces ps) ≡ length p.bytes + length (joined_pieces ps) = length-append p.bytes (joined_pieces ps) in
    subst (λ (m : ℕ). width (piece_token p.kind p.bytes ++ piece_tokens ps) ≤ 2 * m) (sym n)
    (piece_width p.kind p.bytes (joined_pieces ps ++ rest) (piece_tokens ps) (length (joined_pieces ps)) fit.0.stands (pieces_width ps rest fit.1))

pub text_width : (text : List ℕ) (tokens : List Token) → Reads text (Ok tokens) → width (spec_tokens text tokens) ≤ 2 * length text
text_width text tokens reads =
    let whole : text ≡ [] ++ (joined_pieces reads.0 ++ []) = sym reads.2 ∙ sym (append-nil (joined_pieces reads.0)) in
    let same : spec_tokens text tokens ≡ piece_tokens reads.0 = ap (spec_tokens text) reads.3 ∙ spec_tokens-placed [] [] text 0 reads.0 refl whole in
    let le : width (piece_tokens reads.0) ≤ 2 * length text = subst (λ (t : List ℕ). width (piece_tokens reads.0) ≤ 2 * length t) reads.2 (pieces_width reads.0 [] reads.1) in
    subst (λ (ts : List SpecToken). width ts ≤ 2 * length text) (sym same) le

-- the bound on the length
pub shorter : (bytes text : List ℕ) (ts us : List SpecToken) → width ts ≤ 2 * length bytes → Kept ts us → IsLaidOut text us → length text ≤ 2 * length bytes
shorter bytes text ts us most kept l = omega (arith, laid_out_width text us l, kept_width ts us kept, most)
