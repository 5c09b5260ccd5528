-- Tests of each element in turn.
use Rattle.std.proofs.Common.{ℕ, ◌≡◌, ◌<◌, ◌+◌, List, [], ◌∷◌, ◌++◌, length, map, take, get_or, All, Contains}
use Rattle.std.proofs.Common.{sym, subst}
use Rattle.std.proofs.lemmas.List.Elements.{All-contains, All-push}
use Rattle.std.proofs.lemmas.List.Elements.{Contains-get_or}
use Rattle.tv_lemmas.proofs.Lists.{map_next}
use Rattle.tv_model.proofs.Lists.{Contains-map}

-- one more passes
pub all_next : {X Y : Type 0} (P : Y → Type 0) (f : X → Y) (xs : List X) (i : ℕ) (x : X) → i < length xs
    → x ≡ get_or xs i x → P (f x) → All P (map f (take i xs)) → All P (map f (take (i + 1) xs))
all_next P f xs i x within is here all =
    subst (All P) (sym (map_next f xs i x within is)) (All-push P (map f (take i xs)) (f x) all here)

-- one doesn't, so not all do
pub not_all : {X Y : Type 0} (P : Y → Type 0) (f : X → Y) (xs : List X) (i : ℕ) (x : X) → i < length xs
    → x ≡ get_or xs i x → (P (f x) → ⊥) → All P (map f xs) → ⊥
not_all P f xs i x within is fails all =
    fails (All-contains P (map f xs) (f x) all
    (Contains-map f x xs (subst (Contains xs) (sym is) (Contains-get_or xs i x within))))
