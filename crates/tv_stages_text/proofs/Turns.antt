-- Texts part by part, and the text of one more of a list.
use Rattle.std.proofs.Common.{ℕ, ◌≡◌, ◌<◌, ◌∙◌, ◌+◌, List, ◌++◌, Some, drop, get_or, length, ap, sym}
use Rattle.std.proofs.Common.{append_assoc}
use Rattle.std.proofs.lemmas.Option.{slice_get-get_or}
use Rattle.std.specs.Prelude.{Result, Ok, Err, OnOk, is_ok, if◌then◌else◌}
use Rattle.tv_lemmas.proofs.Lists.{drop_there}
use Rattle.tv_stages_text.specs.Texts.{each_from}

pub each_turn : {X : Type 0} (text : ℕ → X → List ℕ) (xs : List X) (i : ℕ) (x : X) (out new total : List ℕ)
    → i < length xs → x ≡ get_or xs i x → new ≡ out ++ text i x → out ++ each_from text i (drop i xs) ≡ total
    → new ++ each_from text (i + 1) (drop (i + 1) xs) ≡ total
each_turn text xs i x out new total lt is grown so_far =
    ap (λ t. t ++ each_from text (i + 1) (drop (i + 1) xs)) grown
    ∙ append_assoc out (text i x) (each_from text (i + 1) (drop (i + 1) xs))
    ∙ ap (λ rest. out ++ each_from text i rest)
    (sym (drop_there xs i x (slice_get-get_or xs i x lt ∙ ap Some (sym is)))) ∙ so_far

-- what is put in front of a part that may fail
pub rest : {U E : Type 0} (r : Result U E) (old mid new a b : List ℕ) → mid ≡ old ++ a → OnOk r (new ≡ mid ++ b)
    → OnOk r (new ≡ old ++ (a ++ b))
rest (Ok u) old mid new a b before is = is ∙ ap (λ xs. xs ++ b) before ∙ append_assoc old a b
rest (Err e) old mid new a b before is = tt

-- a last part that is put there whole
pub put : {U E : Type 0} (r : Result U E) (mid new b : List ℕ) → new ≡ (if is_ok r then mid ++ b else mid)
    → OnOk r (new ≡ mid ++ b)
put (Ok u) mid new b is = is
put (Err e) mid new b is = tt
