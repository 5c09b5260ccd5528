-- Which individuals stay.
use Rattle.std.specs.Prelude.{◌≡◌, List, All}
use Rattle.tv_kleene.specs.declared.K3.{K3}
use Rattle.tv_kleene.specs.declared.K3.TheVariants.{Yes}
use Rattle.tv_update.specs.declared.kept.Staying.{Staying}
use Rattle.tv_update.specs.declared.kept.Staying.TheVariants.{Whole, By}

-- all individuals stay by these values of the retain formula
abbrev pub AllStay : (values : List K3) → Type 0
AllStay values = All (λ k. k ≡ Yes) values

-- that is what these values of the retain formula say
abbrev pub IsStaying : (values : List K3) → Staying → Type 0
IsStaying values Whole = AllStay values
IsStaying values (By kept) = kept.items ≡ values
