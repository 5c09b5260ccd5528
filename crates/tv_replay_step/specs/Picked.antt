-- Individuals for picked variables.
use Rattle.std.specs.Prelude.{ℕ, ◌≡◌, ◌<◌, List, [], ◌∷◌, Option, ⊤}
use Rattle.std.specs.List.{AllByRecursion}
use Rattle.tv_eval.specs.AssignmentForm.{IsAssigned, assignment_of}
use Rattle.tv_model.specs.Truth.{put_all}

-- one individual of a heap of that size for each variable
abbrev pub AreOneEach : (size : ℕ) → (vars us : List ℕ) → Type 0
AreOneEach size [] [] = ⊤
AreOneEach size [] (u ∷ us) = ⊥
AreOneEach size (v ∷ vars) [] = ⊥
AreOneEach size (v ∷ vars) (u ∷ us) = (u < size) × AreOneEach size vars us

-- b is a with the individuals put for the variables, one for each
pub record PutsPicked (size : ℕ) (a : List (Option ℕ)) (vars us : List ℕ) (b : List (Option ℕ)) : Type 0 where
  pub each : AreOneEach size vars us
  pub total : assignment_of b ≡ put_all (assignment_of a) vars us
  pub assigned : AllByRecursion (IsAssigned size b) vars
  pub stays : (v : ℕ) → IsAssigned size a v → IsAssigned size b v
