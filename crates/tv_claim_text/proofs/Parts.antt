-- Texts part by part.
use Rattle.std.proofs.Common.{ℕ, ◌≡◌, ◌∙◌, List, ◌++◌, ap, append_assoc}
use Rattle.std.specs.Prelude.{Result, Ok, Err, OnOk}

-- a last part that may fail
pub rest : {U E : Type 0} (r : Result U E) (old mid new a b : List ℕ) → mid ≡ old ++ a → OnOk r (new ≡ mid ++ b)
    → OnOk r (new ≡ old ++ (a ++ b))
rest (Ok u) old mid new a b before is = is ∙ ap (λ xs. xs ++ b) before ∙ append_assoc old a b
rest (Err e) old mid new a b before is = tt
