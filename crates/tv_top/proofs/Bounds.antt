-- The numbers that words spell are within their limits.
use Rattle.std.proofs.Common.{◌≤◌, ℕ, List, [], ◌∷◌, arith}
use Rattle.tv_top.specs.Laws.{CommandsAreBounded}
use Rattle.tv_words.specs.Words.{Analyzes, Checks, Demos, Joins, Replays, Sources, IsMax}

max_bounded : (values : List (List ℕ)) (max : ℕ) → IsMax values max → max ≤ 100000
max_bounded [] max h = omega (arith, h)
max_bounded (value ∷ []) max h = h.2
max_bounded (first ∷ second ∷ rest) max h = absurd h

pub bounded : CommandsAreBounded
bounded words (Analyzes program initial max mode delta) spells =
    (max_bounded _ max spells.2.says.2, spells.2.says.1.0.2)
bounded words (Checks program initial report mode maps delta) spells = spells.2.says.1.0.2
bounded words (Demos number) spells = (spells.2.says.4.1, spells.2.says.4.2)
bounded words (Joins program initial max mode) spells = max_bounded _ max spells.2.says.2
bounded words (Replays program initial start trace report) spells = tt
bounded words (Sources source initial max) spells = max_bounded _ max spells.2.says.2
