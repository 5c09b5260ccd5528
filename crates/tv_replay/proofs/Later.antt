-- Texts of states one behind the other.
use Rattle.std.proofs.Common.{◌≡◌, ◌<◌, ◌≤◌, ◌+◌, ◌++◌, ◌∙◌, ℕ, List, [], ◌∷◌, length, take, get_or, sym, ap}
use Rattle.std.proofs.Common.{ap₂, append_assoc, append-nil, arith}
use Rattle.std.proofs.lemmas.List.{take_more, length-take-le}
use Rattle.tv_model.specs.declared.program.Program.{Program}
use Rattle.tv_replay_laws.specs.declared.state.State.{State}
use Rattle.tv_replay.specs.Text.{later_text, later_texts}

-- the text of a last state stands behind those of the others
later_last : (program : Program) (n : ℕ) (xs : List State) (x : State)
    → later_texts program n (xs ++ x ∷ []) ≡ later_texts program n xs ++ later_text program (n + length xs) x
later_last program n [] x =
    let here : n ≡ n + 0 = omega arith in append-nil (later_text program n x) ∙ ap (λ k. later_text program k x) here
later_last program n (y ∷ xs) x =
    let same : n + 1 + length xs ≡ n + length (y ∷ xs) = omega arith in
    ap (λ t. later_text program n y ++ t) (later_last program (n + 1) xs x
    ∙ ap (λ k. later_texts program (n + 1) xs ++ later_text program k x) same)
    ∙ sym (append_assoc (later_text program n y) (later_texts program (n + 1) xs) (later_text program (n + length (y ∷ xs)) x))

pub one_more : (program : Program) (later : List State) (i number : ℕ) (x : State) (before out new : List ℕ)
    → i < length later → x ≡ get_or later i x → number ≡ i → out ≡ before ++ later_texts program 1 (take i later)
    → new ≡ out ++ later_text program (number + 1) x → new ≡ before ++ later_texts program 1 (take (i + 1) later)
one_more program later i number x before out new lt is at was then =
    then ∙ ap (λ t. t ++ later_text program (number + 1) x) was
    ∙ append_assoc before (later_texts program 1 (take i later)) (later_text program (number + 1) x)
    ∙ ap (λ t. before ++ t) (sym whole)
  where
    counted : 1 + length (take i later) ≡ number + 1
    counted = let inside : i ≤ length later = omega (arith, lt) in omega (arith, at, length-take-le i later inside)

    whole : later_texts program 1 (take (i + 1) later) ≡ later_texts program 1 (take i later) ++ later_text program (number + 1) x
    whole = ap (later_texts program 1) (take_more later i x lt) ∙ later_last program 1 (take i later) (get_or later i x)
        ∙ ap₂ (λ k y. later_texts program 1 (take i later) ++ later_text program k y) counted (sym is)
