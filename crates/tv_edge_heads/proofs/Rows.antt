-- Heads, one more at a time.
use Rattle.std.proofs.Common.{◌≡◌, ℕ, suc, ◌+◌, ◌≤◌, List, [], ◌∷◌, ◌++◌, Some, length, drop, refl, sym, ap}
use Rattle.std.proofs.Common.{zero, subst}
use Rattle.std.specs.Prelude.{slice_get, slice_index}
use Rattle.std.proofs.lemmas.Option.{none-some, same_Some}
use Rattle.std.proofs.Common.{append_assoc, arith}
use Rattle.std.proofs.lemmas.List.{append-nil, drop_all}
use Rattle.tv_edge_heads.specs.EdgePlaces.{AreEdgesAt, HasEdgesAt}
use Rattle.tv_lex.specs.Traced.{Traced, Added, byte_of, bytes_of}
use Rattle.tv_lex.specs.declared.token.Token.{Token}
use Rattle.tv_tree.specs.Forms.{EdgeForm, ProgramForm}
use Rattle.tv_edge_heads.specs.Heads.{AreHeadsAt, IsHead}

many_at : (text : List ℕ) (tokens : List Token) (edges : List EdgeForm) (places : List ℕ)
    → AreEdgesAt text tokens edges places → length places ≡ length edges
many_at text tokens [] [] h = refl
many_at text tokens [] (place ∷ places) h = absurd h
many_at text tokens (edge ∷ edges) [] h = absurd h
many_at text tokens (edge ∷ edges) (place ∷ places) h = ap suc (many_at text h.2 edges places h.6)

-- there is a place for each edge
pub as_many : (text : List ℕ) (tokens : List Token) (tree : ProgramForm) (places : List ℕ)
    → HasEdgesAt text tokens tree places → length places ≡ length tree.edges
as_many text tokens tree places has = many_at text has.1 tree.edges places has.4

-- these are the heads in front of the edge of this number: with heads of the rest behind them they are heads of all
abbrev pub BeginHeads : List Traced → List EdgeForm → (places : List ℕ) → (number : ℕ)
    → (heads : List (List ℕ)) → Type 0
BeginHeads traced edges places number heads = (rest : List (List ℕ))
    → AreHeadsAt traced (drop number edges) (drop number places) rest
    → AreHeadsAt traced edges places (heads ++ rest)

pub none_yet : (traced : List Traced) (edges : List EdgeForm) (places : List ℕ) (heads : List (List ℕ))
    → heads ≡ [] → BeginHeads traced edges places 0 heads
none_yet traced edges places heads none = λ rest are. subst (λ hs. AreHeadsAt traced edges places (hs ++ rest)) (sym none) are

pub one_more : (traced : List Traced) (edges : List EdgeForm) (places : List ℕ) (number : ℕ)
    (heads : List (List ℕ)) (edge : EdgeForm) (place : ℕ) (head : List ℕ)
    → drop number edges ≡ edge ∷ drop (number + 1) edges → drop number places ≡ place ∷ drop (number + 1) places
    → IsHead traced edge place head → BeginHeads traced edges places number heads
    → BeginHeads traced edges places (number + 1) (heads ++ head ∷ [])
one_more traced edges places number heads edge place head here there is so_far = λ rest are.
    subst (AreHeadsAt traced edges places) (sym (append_assoc heads (head ∷ []) rest))
    (so_far (head ∷ rest)
    (subst (λ es. AreHeadsAt traced es (drop number places) (head ∷ rest)) (sym here)
    (subst (λ ps. AreHeadsAt traced (edge ∷ drop (number + 1) edges) ps (head ∷ rest)) (sym there) (is, are))))

pub all_heads : (traced : List Traced) (edges : List EdgeForm) (places : List ℕ) (number : ℕ)
    (heads : List (List ℕ)) → length edges ≤ number → length places ≡ length edges
    → BeginHeads traced edges places number heads → AreHeadsAt traced edges places heads
all_heads traced edges places number heads end many so_far =
    subst (AreHeadsAt traced edges places) (append-nil heads)
    (so_far []
    (subst (λ es. AreHeadsAt traced es (drop number places) []) (sym (drop_all number edges end))
    (subst (λ ps. AreHeadsAt traced [] ps []) (sym (drop_all number places (omega (arith, end, many)))) tt)))

-- a byte of no file is a line feed
added_byte : (traced : List Traced) (place : ℕ) → slice_get traced place ≡ Some Added
    → slice_index (bytes_of traced) place ≡ 10
added_byte [] place at = absurd (none-some Added at)
added_byte (t ∷ traced) zero at = ap byte_of (same_Some t Added at)
added_byte (t ∷ traced) (suc place) at = added_byte traced place at

pub added_feed : (traced : List Traced) (text : List ℕ) (place : ℕ) → bytes_of traced ≡ text
    → slice_get traced place ≡ Some Added → slice_index text place ≡ 10
added_feed traced text place is at = subst (λ l. slice_index l place ≡ 10) is (added_byte traced place at)
