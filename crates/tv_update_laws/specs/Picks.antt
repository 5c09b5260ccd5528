-- The individuals that an action may pick in a structure.
use Rattle.std.specs.Prelude.{ℕ, zero, suc, Bool, true, false, List, [], ◌∷◌, map, filter, length, Option}
use Rattle.std.specs.Prelude.{None, Some}
use Rattle.std.specs.List.{flat_map}
use Rattle.tv_kleene.specs.declared.K3.{K3}
use Rattle.tv_kleene.specs.declared.K3.TheVariants.{No, Half, Yes}
use Rattle.tv_model.specs.Form.{Form}
use Rattle.tv_model.specs.Program.{ActionForm}
use Rattle.tv_model.specs.Rules.{blank}
use Rattle.tv_model.specs.Truth.{Assignment, put_all}
use Rattle.tv_embedding_laws.specs.LogicalStructure.{LogicalStructure}
use Rattle.tv_eval_laws.specs.Value.{value}

-- all lists of n of the individuals, in lexicographic order
abbrev pub lists_of : List ℕ → ℕ → List (List ℕ)
lists_of us zero = [] ∷ []
lists_of us (suc n) = flat_map (λ u. map (λ ws. u ∷ ws) (lists_of us n)) us

-- the assignment by which the picked variables stand for these individuals, in order
abbrev pub picks_of : ActionForm → List ℕ → Assignment
picks_of action us = put_all blank action.picks us

-- the value of the precondition, Yes where there is none
abbrev pub precondition_value : LogicalStructure → Assignment → Option Form → K3
precondition_value s a None = Yes
precondition_value s a (Some f) = value s a f

abbrev pub isnt_no : K3 → Bool
isnt_no No = false
isnt_no Half = true
isnt_no Yes = true

-- the lists of individuals to pick under which the precondition isn't No
abbrev pub passing_picks : ActionForm → LogicalStructure → List (List ℕ)
passing_picks action s =
    filter (λ us. isnt_no (precondition_value s (picks_of action us) action.pre))
    (lists_of s.individuals (length action.picks))
