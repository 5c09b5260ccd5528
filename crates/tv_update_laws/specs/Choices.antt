-- All structures that an action gives from a structure, one for each choice of the individuals that stay.
use Rattle.std.specs.Prelude.{ℕ, ◌≡◌, ◌≢◌, ◌↔◌, ◌==◌, Bool, List, [], ◌∷◌, ◌++◌, map, filter, Option}
use Rattle.std.specs.Prelude.{AllPairs, Contains}
use Rattle.std.specs.List.{list_any, AllZip}
use Rattle.tv_kleene.specs.declared.K3.{K3}
use Rattle.tv_kleene.specs.declared.K3.TheVariants.{No, Half, Yes}
use Rattle.tv_model.specs.declared.program.Mode.{Mode}
use Rattle.tv_model.specs.Program.{ProgramForm, ActionForm, RetainForm}
use Rattle.tv_model.specs.Truth.{Assignment}
use Rattle.tv_embedding_laws.specs.LogicalStructure.{LogicalStructure}
use Rattle.tv_update_laws.specs.Applied.{keep_value, IsMiddleOf, IsChoice, IsNew}

-- the choices with the individual u in front, by whether it is kept: at Half dropped before kept
abbrev pub with_choice : K3 → ℕ → List (List ℕ) → List (List ℕ)
with_choice No u later = later
with_choice Half u later = later ++ map (λ us. u ∷ us) later
with_choice Yes u later = map (λ us. u ∷ us) later

-- the choices among the individuals, in lexicographic order; a choice is the list of those that stay
abbrev pub choices_of : (keep : ℕ → K3) → List ℕ → List (List ℕ)
choices_of keep [] = [] ∷ []
choices_of keep (u ∷ us) = with_choice (keep u) u (choices_of keep us)

-- whether the individual is among those that stay
abbrev pub stays_in : List ℕ → ℕ → Bool
stays_in us u = list_any (λ w. w == u) us

-- one new structure for each choice, in the order of the choices
abbrev pub AreNew : ProgramForm → Mode → ActionForm → Assignment → (middle : LogicalStructure)
    → List LogicalStructure → Type 0
AreNew p mode action picks middle ts =
    AllZip (λ us t. IsNew p mode action picks middle (stays_in us) t)
    (choices_of (keep_value middle picks action.retain) middle.individuals) ts

-- these are the structures that the action gives from s under the picked individuals, in order
abbrev pub AreGiven : ProgramForm → Mode → ActionForm → LogicalStructure → Assignment → List LogicalStructure
    → Type 0
AreGiven p mode action s picks ts =
    (middle : LogicalStructure) × IsMiddleOf action.fresh s middle × AreNew p mode action picks middle ts

-- a list of individuals is one of the choices exactly where some choice keeps these, in their order
abbrev pub ChoicesAreExact : Type 0
ChoicesAreExact =
    (middle : LogicalStructure) (picks : Assignment) (retain : Option RetainForm)
    → AllPairs ◌≢◌ middle.individuals → (us : List ℕ)
    → Contains (choices_of (keep_value middle picks retain) middle.individuals) us
    ↔ ((keep : ℕ → Bool) × IsChoice middle picks retain keep × (us ≡ filter keep middle.individuals))
