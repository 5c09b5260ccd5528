-- What is found of each of the numbers, one more at a time.
use Rattle.std.proofs.Common.{ℕ, ◌≡◌, ◌<◌, ◌≤◌, ◌+◌, ◌∙◌, List, [], ◌∷◌, ◌++◌, length, take, Option, Some}
use Rattle.std.proofs.Common.{sym, subst, slice_get}
use Rattle.std.specs.List.{AllZip}
use Rattle.std.proofs.lemmas.List.{take_all, take_more}
use Rattle.std.proofs.lemmas.Option.{get_or_from_slice_get, same_Some}
use Rattle.std.proofs.lemmas.Slice.Zip.{all_zipped_more}
use Rattle.tv_model.specs.Program.{ProgramForm}
use Rattle.tv_structure_form.specs.StructureForm.{StructureForm}
use Rattle.tv_losses_unmet.specs.Unmet.{IsFound}
use Rattle.tv_losses_unmet.specs.declared.claim.Claim.{Claim}
use Rattle.tv_losses_text.specs.Reports.{IsFoundOf}

module _ {X Y : Type 0} where
  -- one more at the end
  pub zip-push : (R : X → Y → Type 0) (xs : List X) (ys new : List Y) (k : ℕ) (x : X) (y : Y) → k < length xs
      → slice_get xs k ≡ Some x → AllZip R (take k xs) ys → R x y → new ≡ ys ++ y ∷ []
      → AllZip R (take (k + 1) xs) new
  zip-push R xs ys new k x y lt at all more is =
      subst (AllZip R (take (k + 1) xs)) (sym is)
      (subst (λ zs. AllZip R zs (ys ++ y ∷ [])) (sym (take_more xs k x lt))
      (subst (λ z. AllZip R (take k xs ++ z ∷ []) (ys ++ y ∷ [])) (sym (get_or_from_slice_get xs k x x at))
      (all_zipped_more R (take k xs) ys x y all more)))

  -- all of them
  pub zip-all : (R : X → Y → Type 0) (xs : List X) (ys : List Y) (k : ℕ) → length xs ≤ k
      → AllZip R (take k xs) ys → AllZip R xs ys
  zip-all R xs ys k past all = subst (λ zs. AllZip R zs ys) (take_all k xs past) all

-- what is found of one structure, where that is at hand
pub found-of : (p : ProgramForm) (structures : List StructureForm) (number : ℕ) (s : StructureForm)
    (found : Option Claim) → slice_get structures number ≡ Some s → IsFound p s found
    → IsFoundOf p structures number found
found-of p structures number s found at is t there =
    subst (λ z. IsFound p z found) (same_Some s t (sym at ∙ there)) is
