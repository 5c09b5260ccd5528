-- Choices of the individuals that stay, as flags.
use Rattle.std.specs.Prelude.{Bool, true, false, List, [], ◌∷◌, ◌++◌, map}
use Rattle.tv_kleene.specs.declared.K3.{K3}
use Rattle.tv_kleene.specs.declared.K3.TheVariants.{No, Half, Yes}

-- the choices with a flag in front: dropped before kept, where either may be
abbrev pub with_flag : K3 → List (List Bool) → List (List Bool)
with_flag No later = map (λ flags. false ∷ flags) later
with_flag Half later = map (λ flags. false ∷ flags) later ++ map (λ flags. true ∷ flags) later
with_flag Yes later = map (λ flags. true ∷ flags) later

-- a flag for each of the values, whether its individual stays: one list for each choice, in order
abbrev pub flag_choices : List K3 → List (List Bool)
flag_choices [] = [] ∷ []
flag_choices (k ∷ ks) = with_flag k (flag_choices ks)
