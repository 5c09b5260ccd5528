-- What is listed is what is meant.
use Rattle.std.proofs.Common.{ℕ, ◌≡◌, ◌≢◌, ◌<◌, ◌≤◌, ◌+◌, zero, suc, Bool, true, false, cond, List, [], ◌∷◌}
use Rattle.std.proofs.Common.{◌++◌, ◌⊎◌, inl, inr, ⊎_elim, length, map, refl, sym, ap, subst, ◌∙◌, arith, All}
use Rattle.std.proofs.Common.{Contains}
use Rattle.std.specs.List.{flat_map, AllZip}
use Rattle.std.proofs.lemmas.List.Elements.{Contains-append_cases}
use Rattle.tv_model.proofs.Lists.{Contains-here, Contains-there, Contains-none, Contains-cases, Contains-map}
use Rattle.tv_focus_laws.specs.Choices.{product}
use Rattle.tv_focus_laws.proofs.Membership.{ComesFrom, Contains-from_map, Contains-flat_map}
use Rattle.tv_focus_laws.proofs.Counts.{IsJoined, Contains-from_flat_map}

-- an element of a product has one element of each list
pub product-is : {X : Type 0} (xss : List (List X)) (ys : List X) → Contains (product xss) ys → AllZip Contains xss ys
product-is {X} [] ys at =
    let One : List X → Type 0 = λ zs. AllZip Contains [] zs
    in ⊎_elim (λ e. subst One e tt) (λ none. absurd (Contains-none ys none)) (Contains-cases [] ys [] at)
product-is {X} (xs ∷ xss) ys at =
    let j : IsJoined (λ x. map (λ rest. x ∷ rest) (product xss)) xs ys
    = Contains-from_flat_map (λ x. map (λ rest. x ∷ rest) (product xss)) ys xs at
    in let c : ComesFrom (λ rest. j.source ∷ rest) (product xss) ys = Contains-from_map (λ rest. j.source ∷ rest) ys (product xss) j.has
    in let One : List X → Type 0 = λ zs. AllZip Contains (xs ∷ xss) zs
    in subst One c.goes (j.at, product-is xss c.source c.at)

pub product-from : {X : Type 0} (xss : List (List X)) (ys : List X) → AllZip Contains xss ys → Contains (product xss) ys
product-from [] [] zip = Contains-here [] []
product-from [] (y ∷ ys) zip = absurd zip
product-from (xs ∷ xss) [] zip = absurd zip
product-from (xs ∷ xss) (y ∷ ys) zip =
    Contains-flat_map (λ x. map (λ rest. x ∷ rest) (product xss)) y (y ∷ ys) xs zip.0
    (Contains-map (λ rest. y ∷ rest) ys (product xss) (product-from xss ys zip.1))
