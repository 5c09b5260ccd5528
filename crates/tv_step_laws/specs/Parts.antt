-- Lists that come of lists, element by element.
use Rattle.std.specs.Prelude.{◌≡◌, List, [], ◌∷◌, ◌++◌}

-- the ys are what R makes of each of the xs, one after the other
abbrev pub AreFrom : {X Y : Type 0} → (X → List Y → Type 0) → List X → List Y → Type 0
AreFrom R [] ys = ys ≡ []
AreFrom {X} {Y} R (x ∷ xs) ys = (own rest : List Y) × R x own × AreFrom R xs rest × (ys ≡ own ++ rest)
