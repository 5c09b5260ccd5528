-- Lists of candidates, one individual after the other.
use Rattle.std.proofs.Common.{ℕ, ◌≡◌, ◌⊎◌, ◌<◌, ◌≤◌, ◌+◌, inl, inr, List, [], ◌∷◌, ◌++◌, get_or, sym, ap}
use Rattle.std.proofs.Common.{subst, ◌∙◌, arith}
use Rattle.std.specs.Prelude.{Contains}
use Rattle.std.proofs.lemmas.Bool.{cases_lt}
use Rattle.std.proofs.lemmas.List.{get_or_append_left, get_or_push, length_push}
use Rattle.std.proofs.lemmas.List.Elements.{All-push, All-weaker, Contains-append_left, Contains-push}
use Rattle.std.proofs.lemmas.List.Quantifiers.{all_pairs_push}
use Rattle.tv_structure_form.specs.StructureForm.{StructureForm}
use Rattle.tv_embed.specs.Fits.{IsCandidate}
use Rattle.tv_embed.specs.Search.{AreCandidates, AreAllCandidates}

pub candidates_push : (small large : StructureForm) (u n : ℕ) (list : List ℕ) → AreCandidates small large u n list
    → IsCandidate small large u n → AreCandidates small large u (n + 1) (list ++ n ∷ [])
candidates_push small large u n list are one = record {
  each = λ w lt is. each w is (cases_lt w n) lt;
  within = All-push (λ w. w < n + 1) list n (All-weaker (λ w. w < n) (λ w. w < n + 1) (λ w lt. omega arith) list are.within)
      (omega arith);
  only = All-push (IsCandidate small large u) list n are.only one;
  ascending = all_pairs_push ◌<◌ list n are.ascending (λ k d lt. are.within k d lt);
}
  where
    each : (w : ℕ) → IsCandidate small large u w → (w < n) ⊎ (n ≤ w) → w < n + 1 → Contains (list ++ n ∷ []) w
    each w is (inl before) lt = Contains-append_left list (n ∷ []) w (are.each w before is)
    each w is (inr after) lt =
        let last : n ≡ w = omega arith
        in let P : ℕ → Type 0 = λ x. Contains (list ++ n ∷ []) x
        in subst P last (Contains-push list n)

pub all_more : (small large : StructureForm) (n : ℕ) (lists : List (List ℕ)) (list : List ℕ)
    → AreAllCandidates small large n lists → AreCandidates small large n large.size list
    → AreAllCandidates small large (n + 1) (lists ++ list ∷ [])
all_more small large n lists list are one = record {
  count = length_push lists list ∙ ap (λ k. k + 1) are.count;
  each = λ u lt. at u lt (cases_lt u n);
}
  where
    at : (u : ℕ) → u < n + 1 → (u < n) ⊎ (n ≤ u) → AreCandidates small large u large.size (get_or (lists ++ list ∷ []) u [])
    at u lt (inl before) =
        let P : List ℕ → Type 0 = λ xs. AreCandidates small large u large.size xs
        in subst P (sym (get_or_append_left lists (list ∷ []) [] u (omega (arith, are.count)))) (are.each u before)
    at u lt (inr after) =
        let last : n ≡ u = omega arith
        in let P : List ℕ → Type 0 = λ xs. AreCandidates small large u large.size xs
        in let Q : ℕ → Type 0 = λ x. AreCandidates small large x large.size list
        in subst P (sym (get_or_push lists list [] u (are.count ∙ last))) (subst Q last one)
