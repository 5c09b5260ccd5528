-- Vectors by their first value, and sublists of one element.
use Rattle.std.proofs.Common.{◌≡◌, List, [], ◌∷◌, ◌++◌, refl, ap, map, append-nil}
use Rattle.tv_kleene.specs.declared.K3.TheVariants.{No, Half, Yes}
use Rattle.tv_focus_laws.specs.Choices.{VectorSet, picks}
use Rattle.tv_focus.specs.Puts.{begun_with}

pub begun_no : (later : VectorSet) → begun_with No later ≡ map (λ v. No ∷ v) later
begun_no later = append-nil (map (λ v. No ∷ v) later)

pub begun_half : (later : VectorSet) → begun_with Half later ≡ map (λ v. No ∷ v) later ++ map (λ v. Yes ∷ v) later
begun_half later = ap (λ vs. map (λ v. No ∷ v) later ++ vs) (append-nil (map (λ v. Yes ∷ v) later))

pub begun_yes : (later : VectorSet) → begun_with Yes later ≡ map (λ v. Yes ∷ v) later
begun_yes later = append-nil (map (λ v. Yes ∷ v) later)

pub picks_one : {X : Type 0} (xs : List X) → picks 1 xs ≡ map (λ x. x ∷ []) xs
picks_one [] = refl
picks_one (x ∷ xs) = ap (λ rest. (x ∷ []) ∷ rest) (picks_one xs)
