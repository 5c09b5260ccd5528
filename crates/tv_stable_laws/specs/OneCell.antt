-- Which structures of one individual are stable under a rule of uniqueness and one of reflexivity.
use Rattle.std.specs.Prelude.{Bool, true, false, [], ◌∷◌, None}
use Rattle.tv_kleene.specs.declared.K3.{K3}
use Rattle.tv_kleene.specs.declared.K3.TheVariants.{Half, Yes}
use Rattle.tv_model.specs.Rules.{unique_rule, reflexive_rule}
use Rattle.tv_embedding_laws.specs.LogicalStructure.{LogicalStructure}
use Rattle.tv_stable_laws.specs.Stable.{IsStable}

-- one individual, a summary or not, where all values are k
abbrev pub one_individual : Bool → K3 → LogicalStructure
one_individual summary k = record {
  individuals = 0 ∷ [];
  value = λ pred tuple. k;
  is_summary = λ u. summary;
  fresh = None;
}

-- a predicate that holds of at most one cell holds of no summary, and a reflexive one need not hold of
-- any two cells of a summary
pub record OneCellLaws : Type 0 where
  pub unique_on_cell : IsStable (unique_rule 0 ∷ []) (one_individual false Yes)
  pub unique_on_summary : ¬ IsStable (unique_rule 0 ∷ []) (one_individual true Yes)
  pub reflexive_on_cell : ¬ IsStable (reflexive_rule 0 ∷ []) (one_individual false Half)
  pub reflexive_on_summary : IsStable (reflexive_rule 0 ∷ []) (one_individual true Half)
