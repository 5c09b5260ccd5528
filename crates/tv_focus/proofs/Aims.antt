-- The values at the tuples that are aimed at, pair by pair.
use Rattle.std.proofs.Common.{ℕ, ◌≡◌, List, [], ◌∷◌, map, sym}
use Rattle.tv_kleene.specs.declared.K3.{K3}
use Rattle.tv_model.proofs.Lists.{map-compose}
use Rattle.tv_focus_laws.specs.Choices.{aimed, Before, Behind}
use Rattle.tv_focus.specs.Anchored.{pair_of}
use Rattle.tv_focus.specs.declared.anchors.Place.TheVariants.{First, Second}

pub before_values : (g : List ℕ → K3) (anchors : List ℕ) (u : ℕ)
    → map (λ a. g (pair_of Second a u)) anchors ≡ map g (aimed (Before anchors) u)
before_values g anchors u = sym (map-compose (λ a. u ∷ a ∷ []) g anchors)

pub behind_values : (g : List ℕ → K3) (anchors : List ℕ) (u : ℕ)
    → map (λ a. g (pair_of First a u)) anchors ≡ map g (aimed (Behind anchors) u)
behind_values g anchors u = sym (map-compose (λ a. a ∷ u ∷ []) g anchors)
