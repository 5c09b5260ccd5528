-- Spellings of tokens, one after the other.
use Rattle.std.proofs.Common.{◌≡◌, ℕ, ◌+◌, ◌<◌, ◌≤◌, List, [], ◌∷◌, ◌++◌, length, drop, get_or}
use Rattle.std.proofs.Common.{append_assoc, map}
use Rattle.std.proofs.lemmas.List.{drop_more, drop_all, append-nil}

pub spelling_step : {S T : Type 0} (text : T → S) (out new : List S) (s : S) (xs : List T) (i : ℕ) (d : T) → i < length xs → s ≡ text (get_or xs i d) → new ≡ out ++ s ∷ [] → new ++ map text (drop (i + 1) xs) ≡ out ++ map text (drop i xs)
spelling_step text out new s xs i d below is pushed =
    rw (pushed, drop_more xs i d below, is) (append_assoc out (text (get_or xs i d) ∷ []) (map text (drop (i + 1) xs)))

pub spellings_done : {S T : Type 0} (text : T → S) (out : List S) (xs : List T) (i : ℕ) → length xs ≤ i → out ++ map text (drop i xs) ≡ out
spellings_done text out xs i past = rw (drop_all i xs past) (append-nil out)
