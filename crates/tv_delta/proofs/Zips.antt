-- One more element of a list has its partner.
use Rattle.std.proofs.Common.{ℕ, ◌≡◌, ◌∙◌, ◌<◌, ◌+◌, List, [], ◌∷◌, ◌++◌, get_or, take, length, map}
use Rattle.std.proofs.Common.{sym, ap, subst}
use Rattle.std.specs.List.{AllZip}
use Rattle.std.proofs.lemmas.List.{take_more, map-append}
use Rattle.tv_lemmas.proofs.Zips.{zip_push}
pub use Rattle.tv_lemmas.proofs.Zips.{zip_at}

pub zip_more : {X Y : Type 0} (view : X → Y) (R : Y → Y → Type 0) (xs out us : List X) (i : ℕ) (x y : X) → i < length xs
    → x ≡ get_or xs i x → AllZip R (map view (take i xs)) (map view out) → R (view x) (view y) → us ≡ out ++ y ∷ []
    → AllZip R (map view (take (i + 1) xs)) (map view us)
zip_more {X} {Y} view R xs out us i x y lt at so_far one pushed =
    let more : map view (take (i + 1) xs) ≡ map view (take i xs) ++ view x ∷ []
    = ap (map view) (take_more xs i x lt) ∙ map-append view (take i xs) (get_or xs i x ∷ [])
    ∙ ap (λ z. map view (take i xs) ++ view z ∷ []) (sym at)
    in let grown : map view us ≡ map view out ++ view y ∷ [] = ap (map view) pushed ∙ map-append view out (y ∷ [])
    in subst (λ zs. AllZip R zs (map view us)) (sym more)
    (subst (λ zs. AllZip R (map view (take i xs) ++ view x ∷ []) zs) (sym grown)
    (zip_push R (map view (take i xs)) (map view out) (view x) (view y) so_far one))
