-- Kleene's strong three-valued logic, and the order of information in which Half lies above both
-- definite values (Kleene 1952, section 64; Sagiv, Reps and Wilhelm 2002, section 4.1).
use Rattle.std.specs.Prelude.{◌≡◌, ◌⊎◌, Bool, true, false}
use Rattle.tv_kleene.specs.declared.K3.{K3}
use Rattle.tv_kleene.specs.declared.K3.TheVariants.{No, Half, Yes}

-- the order of information: a value lies under itself and under Half
abbrev pub LiesUnder : K3 → K3 → Type 0
LiesUnder x y = (x ≡ y) ⊎ (y ≡ Half)

-- the smaller of two values in the order of truth, No below Half below Yes
abbrev pub smaller_of : K3 → K3 → K3
smaller_of No _ = No
smaller_of Half No = No
smaller_of Half Half = Half
smaller_of Half Yes = Half
smaller_of Yes y = y

-- x isn't above y in the order of truth
abbrev pub IsAtMost : K3 → K3 → Type 0
IsAtMost x y = smaller_of x y ≡ x

-- the larger of two values in the order of truth
abbrev pub larger_of : K3 → K3 → K3
larger_of No y = y
larger_of Half No = Half
larger_of Half Half = Half
larger_of Half Yes = Yes
larger_of Yes _ = Yes

-- swaps No and Yes
abbrev pub negation_of : K3 → K3
negation_of No = Yes
negation_of Half = Half
negation_of Yes = No

-- the least value, in the order of information, that both values lie under
abbrev pub join_of : K3 → K3 → K3
join_of No No = No
join_of No Half = Half
join_of No Yes = Half
join_of Half _ = Half
join_of Yes No = Half
join_of Yes Half = Half
join_of Yes Yes = Yes

-- whether two values are the same
abbrev pub are_same : K3 → K3 → Bool
are_same No No = true
are_same No Half = false
are_same No Yes = false
are_same Half No = false
are_same Half Half = true
are_same Half Yes = false
are_same Yes No = false
are_same Yes Half = false
are_same Yes Yes = true

abbrev pub is_yes : K3 → Bool
is_yes No = false
is_yes Half = false
is_yes Yes = true
