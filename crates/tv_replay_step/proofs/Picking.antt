-- Individuals, put for picked variables one after the other.
use Rattle.std.proofs.Common.{ℕ, ◌≡◌, ◌<◌, ◌↔◌, List, [], ◌∷◌, length, refl, ap, arith, All}
use Rattle.std.proofs.Common.{suc}
use Rattle.std.specs.List.{AllByRecursion}
use Rattle.std.proofs.lemmas.List.Elements.{All-cons, All-contains, All-head, All-nil, All-tail}
use Rattle.std.proofs.lemmas.List.Elements.{recursion_from_All}
use Rattle.tv_model.specs.Program.{picks_of}
use Rattle.tv_model.specs.Valid.{IsVariable}
use Rattle.tv_model.specs.declared.formula.Var.{Var}
use Rattle.tv_model.proofs.Lists.{All-from_contains, Contains-map}
use Rattle.tv_replay_step.specs.Picked.{AreOneEach}

pub one-each : (size : ℕ) (vars us : List ℕ) → AreOneEach size vars us ↔ ((length us ≡ length vars) × All (λ u. u < size) us)
one-each size [] [] = (λ t. (refl, All-nil (λ u. u < size)), λ both. tt)
one-each size [] (u ∷ us) = (λ never. absurd never, λ both. let long = both.0 in absurd (omega (arith, long)))
one-each size (v ∷ vars) [] = (λ never. absurd never, λ both. let long = both.0 in absurd (omega (arith, long)))
one-each size (v ∷ vars) (u ∷ us) =
    let rest = one-each size vars us
    in (
      λ all. (ap suc (rest.0 all.1).0, All-cons (λ w. w < size) u us all.0 (rest.0 all.1).1),
      λ both.
          let long = both.0
          in let shorter : length us ≡ length vars = omega (arith, long)
          in (All-head (λ w. w < size) u us both.1, rest.1 (shorter, All-tail (λ w. w < size) u us both.1)),
    )

pub variables-below : (vars : List Var) → All IsVariable (picks_of vars) → AllByRecursion (λ (v : Var). v.0 < 32) vars
variables-below vars all =
    recursion_from_All (λ (v : Var). v.0 < 32) vars
    (All-from_contains (λ (v : Var). v.0 < 32) vars (λ v at.
    All-contains IsVariable (picks_of vars) v.0 all (Contains-map (λ (w : Var). w.0) v vars at)))
