-- The rules that heaps are judged by, and the first that a heap breaks.
use Rattle.std.specs.Prelude.{ℕ, suc, ◌≡◌, List, [], ◌∷◌, ◌++◌, take, Option, Some, None, All, slice_get}
use Rattle.tv_model.specs.Heap.{Heap}
use Rattle.tv_model.specs.Program.{ProgramForm, PredForm, RuleForm}
use Rattle.tv_model.specs.Rules.{MeetsRule, property_rules}

-- the rules of the predicates' properties, the first of which has the number q
abbrev pub rules_of_properties : ℕ → List PredForm → List RuleForm
rules_of_properties q [] = []
rules_of_properties q (d ∷ preds) = property_rules q d.props ++ rules_of_properties (suc q) preds

-- the rules that are judged, in order: those of the properties, then the declared ones
abbrev pub judged_rules : ProgramForm → List RuleForm
judged_rules p = rules_of_properties 0 p.preds ++ p.rules

-- the first rule that the heap doesn't meet, by its place; none where it meets all
abbrev pub IsFirstUnmet : Heap → List RuleForm → Option ℕ → Type 0
IsFirstUnmet h rules None = All (MeetsRule h) rules
IsFirstUnmet h rules (Some n) =
    ((rule : RuleForm) × (slice_get rules n ≡ Some rule) × (¬ MeetsRule h rule))
    × All (MeetsRule h) (take n rules)
