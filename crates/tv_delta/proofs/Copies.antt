-- One more element of a list is copied.
use Rattle.std.proofs.Common.{ℕ, ◌≡◌, ◌∙◌, ◌<◌, ◌+◌, List, [], ◌∷◌, ◌++◌, get_or, take, length, map, sym, ap}
use Rattle.std.proofs.lemmas.List.{take_more, map-append}

pub copied_more : {X Y : Type 0} (view : X → Y) (xs out us : List X) (i : ℕ) (x y : X) → i < length xs
    → x ≡ get_or xs i x → map view out ≡ map view (take i xs) → view y ≡ view x → us ≡ out ++ y ∷ []
    → map view us ≡ map view (take (i + 1) xs)
copied_more {X} {Y} view xs out us i x y lt at so_far same pushed =
    ap (map view) pushed
    ∙ map-append view out (y ∷ [])
    ∙ ap (λ zs. zs ++ map view (y ∷ [])) so_far
    ∙ ap (λ z. map view (take i xs) ++ z ∷ []) (same ∙ ap view at)
    ∙ sym (map-append view (take i xs) (get_or xs i x ∷ []))
    ∙ ap (map view) (sym (take_more xs i x lt))

pub same_more : {X : Type 0} (xs out us : List X) (i : ℕ) (x y : X) → i < length xs
    → x ≡ get_or xs i x → out ≡ take i xs → y ≡ x → us ≡ out ++ y ∷ [] → us ≡ take (i + 1) xs
same_more {X} xs out us i x y lt at so_far same pushed =
    pushed ∙ ap (λ zs. zs ++ y ∷ []) so_far ∙ ap (λ z. take i xs ++ z ∷ []) (same ∙ at) ∙ sym (take_more xs i x lt)
