-- Where the tokens of a text start, and the place at which a reader of them stops.
use Rattle.std.proofs.Common.{◌≡◌, ℕ, zero, suc, ◌+◌, ◌-◌, ◌<◌, ◌≤◌, List, [], ◌∷◌, ◌++◌, Option, Some, None}
use Rattle.std.proofs.Common.{Ok, length, ap, sym, refl, ◌∙◌, subst, inl, inr, arith, length-append, zero-add}
use Rattle.std.specs.Prelude.{slice_get, nat_lt, true}
use Rattle.std.specs.List.{list_all}
use Rattle.std.proofs.lemmas.Bool.{and_parts, ltb-true}
use Rattle.std.proofs.lemmas.Option.{slice_get_within, get_or_from_slice_get}
use Rattle.tv_lex.specs.Pieces.{Piece, Stands, IsOneOf, punctuations, AllFit, joined_pieces, placed}
use Rattle.tv_lex.specs.Pieces.{placed_one, Reads, AreInOrder}
use Rattle.tv_lex.specs.Places.{place_at, first_place, IsTokenPlace}
use Rattle.tv_lex.specs.declared.token.Token.{Token}
use Rattle.tv_lex.specs.declared.token.Place.{Place}
use Rattle.tv_lex.specs.declared.token.TokenKind.{TokenKind}
use Rattle.tv_lex.specs.declared.token.TokenKind.TheVariants.{Word, Half, Text, Directive, Parts, Punct}

order_ends : (at end : ℕ) (ts : List Token) → AreInOrder at ts end → at ≤ end
order_ends at end [] order = order
order_ends at end (t ∷ ts) order = omega (arith, order.0, order.1, order_ends t.end end ts order.2)

-- there are no more tokens than bytes
pub count_in_order : (at : ℕ) (ts : List Token) (end : ℕ) → AreInOrder at ts end → at + length ts ≤ end
count_in_order at [] end order = omega (arith, order)
count_in_order at (t ∷ ts) end order = omega (arith, order.0, order.1, count_in_order t.end ts end order.2)

-- each token starts within the text
pub start_within : (at end i : ℕ) (ts : List Token) (t : Token) → AreInOrder at ts end → slice_get ts i ≡ Some t → t.start ≤ end
start_within at end i [] t order is = cc
start_within at end zero (u ∷ ts) t order is =
    let same : u ≡ t = cc in
    subst (λ (v : Token). v.start ≤ end) same (omega (arith, order.1, order_ends u.end end ts order.2))
start_within at end (suc i) (u ∷ ts) t order is = start_within u.end end i ts t order.2 is

pub token_place : (text : List ℕ) (ts : List Token) (t : Token) (i : ℕ) (place : Place) → slice_get ts i ≡ Some t → place ≡ place_at text t.start → IsTokenPlace text ts place
token_place text ts t i place is there = inl (i, t, slice_get_within ts i t is, get_or_from_slice_get ts i t t is, there)

pub end_place : (text : List ℕ) (ts : List Token) (place : Place) → place ≡ place_at text (length text) → IsTokenPlace text ts place
end_place text ts place there = inr there

-- the token that stands that many from the end of the tokens is the first of the last ones
first_of_rest : (read rest : List Token) (i : ℕ) → i ≡ length (read ++ rest) - length rest → slice_get (read ++ rest) i ≡ slice_get rest 0
first_of_rest [] rest i is = let none : i ≡ 0 = omega (arith, is) in ap (slice_get rest) none
first_of_rest (t ∷ read) rest zero is = absurd (omega (arith, is, length-append read rest))
first_of_rest (t ∷ read) rest (suc i) is = first_of_rest read rest i (omega (arith, is, length-append read rest))

first_case : (text : List ℕ) (rest : List Token) (t : Token) → slice_get rest 0 ≡ Some t → place_at text t.start ≡ first_place text rest
first_case text [] t is = cc
first_case text (u ∷ rest) t is = let same : t ≡ u = cc in ap (λ (v : Token). place_at text v.start) same

end_case : (text : List ℕ) (rest : List Token) → slice_get rest 0 ≡ None → place_at text (length text) ≡ first_place text rest
end_case text [] is = refl
end_case text (u ∷ rest) is = cc

pub first_is_token : (text : List ℕ) (tokens rest read : List Token) (t : Token) (i : ℕ) → tokens ≡ read ++ rest → i ≡ length tokens - length rest → slice_get tokens i ≡ Some t → place_at text t.start ≡ first_place text rest
first_is_token text tokens rest read t i split is found =
    let here = first_of_rest read rest i (is ∙ ap (λ (ts : List Token). length ts - length rest) split) in
    first_case text rest t (sym here ∙ ap (λ ts. slice_get ts i) (sym split) ∙ found)

pub first_is_end : (text : List ℕ) (tokens rest read : List Token) (i : ℕ) → tokens ≡ read ++ rest → i ≡ length tokens - length rest → slice_get tokens i ≡ None → place_at text (length text) ≡ first_place text rest
first_is_end text tokens rest read i split is found =
    let here = first_of_rest read rest i (is ∙ ap (λ (ts : List Token). length ts - length rest) split) in
    end_case text rest (sym here ∙ ap (λ ts. slice_get ts i) (sym split) ∙ found)

-- ---- the tokens of a text are in order

run_length : (b : ℕ) (bytes inside : List ℕ) → bytes ≡ b ∷ inside → 0 < length bytes
run_length b bytes inside is = let len : length bytes ≡ suc (length inside) = ap (λ (l : List ℕ). length l) is in omega (arith, len)

-- one of these marks isn't empty where none of them is
mark_length : (ms : List (List ℕ)) (bytes : List ℕ) → IsOneOf ms bytes → list_all (λ (m : List ℕ). nat_lt 0 (length m)) ms ≡ true → 0 < length bytes
mark_length [] bytes one all = absurd one
mark_length (m ∷ ms) bytes one all =
    let both = and_parts (nat_lt 0 (length m)) (list_all (λ (m : List ℕ). nat_lt 0 (length m)) ms) all in
    elim one [
      | inl e ↦ subst (λ (l : List ℕ). 0 < length l) (sym e) (ltb-true 0 (length m) both.0)
      | inr one ↦ mark_length ms bytes one both.1
    ]

pub token_length : (kind : TokenKind) (bytes behind : List ℕ) → Stands (Some kind) bytes behind → 0 < length bytes
token_length Word bytes behind s = s.0
token_length Half bytes behind s = run_length 49 bytes (47 ∷ 50 ∷ []) s.0
token_length Text bytes behind s = run_length 34 bytes (s.0 ++ 34 ∷ []) s.1
token_length Directive bytes behind s = run_length 37 bytes s.0 s.1
token_length Parts bytes behind s = run_length 37 bytes (37 ∷ []) s
token_length Punct bytes behind s = mark_length punctuations bytes s refl

order_earlier : (at mid end : ℕ) (ts : List Token) → at ≤ mid → AreInOrder mid ts end → AreInOrder at ts end
order_earlier at mid end [] le order = omega (arith, le, order)
order_earlier at mid end (t ∷ ts) le order = (omega (arith, le, order.0), order.1, order.2)

order_one : (kind : Option TokenKind) (bytes behind : List ℕ) (at end : ℕ) (ts : List Token) → Stands kind bytes behind → AreInOrder (at + length bytes) ts end → AreInOrder at (placed_one kind at (at + length bytes) ++ ts) end
order_one None bytes behind at end ts s order = order_earlier at (at + length bytes) end ts (omega arith) order
order_one (Some kind) bytes behind at end ts s order = (omega arith, omega (arith, token_length kind bytes behind s), order)

placed_order : (at : ℕ) (ps : List Piece) (rest : List ℕ) → AllFit ps rest → AreInOrder at (placed at ps) (at + length (joined_pieces ps))
placed_order at [] rest fit = omega arith
placed_order at (p ∷ ps) rest fit =
    let whole : at + length p.bytes + length (joined_pieces ps) ≡ at + length (p.bytes ++ joined_pieces ps) = omega (arith, length-append p.bytes (joined_pieces ps)) in
    order_one p.kind p.bytes (joined_pieces ps ++ rest) at (at + length (p.bytes ++ joined_pieces ps)) (placed (at + length p.bytes) ps) fit.0.stands
    (subst (AreInOrder (at + length p.bytes) (placed (at + length p.bytes) ps)) whole (placed_order (at + length p.bytes) ps rest fit.1))

pub reads_order : (text : List ℕ) (tokens : List Token) → Reads text (Ok tokens) → AreInOrder 0 tokens (length text)
reads_order text tokens reads =
    let order = placed_order 0 reads.0 [] reads.1 in
    let whole : 0 + length (joined_pieces reads.0) ≡ length text = zero-add (length (joined_pieces reads.0)) ∙ ap (λ (l : List ℕ). length l) reads.2 in
    subst (λ n. AreInOrder 0 tokens n) whole (subst (λ ts. AreInOrder 0 ts (0 + length (joined_pieces reads.0))) (sym reads.3) order)
