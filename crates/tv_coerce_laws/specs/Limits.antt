-- What a split may lose.
use Rattle.std.specs.Prelude.{false, [], ◌∷◌, None}
use Rattle.tv_kleene.specs.declared.K3.{K3}
use Rattle.tv_kleene.specs.declared.K3.TheVariants.{Half, Yes}
use Rattle.tv_model.specs.Rules.{unique_rule, reflexive_rule}
use Rattle.std.specs.Prelude.{true}
use Rattle.tv_embedding_laws.specs.LogicalStructure.{LogicalStructure}
use Rattle.tv_stable_laws.specs.OneCell.{one_individual}
use Rattle.tv_stable_laws.specs.Stable.{IsStableUnder}
use Rattle.tv_coerce_laws.specs.Split.{KeepsRuleValues}

-- two individuals, no summaries, where all values are k
abbrev pub two_individuals : K3 → LogicalStructure
two_individuals k = record {
  individuals = 0 ∷ 1 ∷ [];
  value = λ pred tuple. k;
  is_summary = λ u. false;
  fresh = None;
}

-- a summary that a reflexive predicate relates to itself by a half is lost where the split has ordinary
-- individuals, and so is a cell that alone has a unique predicate
pub record SplitLimits : Type 0 where
  pub reflexive_split : KeepsRuleValues (reflexive_rule 0) (λ u. 0) (two_individuals Half)
      (one_individual true Half)
  pub reflexive_before : IsStableUnder (one_individual true Half) (reflexive_rule 0)
  pub reflexive_lost : ¬ IsStableUnder (two_individuals Half) (reflexive_rule 0)
  pub unique_split : KeepsRuleValues (unique_rule 0) (λ u. 0) (two_individuals Yes) (one_individual false Yes)
  pub unique_before : IsStableUnder (one_individual false Yes) (unique_rule 0)
  pub unique_lost : ¬ IsStableUnder (two_individuals Yes) (unique_rule 0)
