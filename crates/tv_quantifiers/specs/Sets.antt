-- Sets of variables.
use Rattle.std.specs.Prelude.{ℕ, ◌≡◌, get_or, false}
use Rattle.tv_model.specs.Truth.{Assignment}
use Rattle.tv_quantifiers.specs.declared.variables.Variables.{Variables}

-- the variable isn't in the set
abbrev pub IsOutside : Variables → ℕ → Type 0
IsOutside set v = get_or set.flags v false ≡ false

-- the assignments say the same of all variables that aren't in the set
abbrev pub AgreeOutside : Variables → Assignment → Assignment → Type 0
AgreeOutside set a b = (v : ℕ) → IsOutside set v → b v ≡ a v
