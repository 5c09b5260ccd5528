-- Splits that lose stability.
use Rattle.std.proofs.Common.{ℕ, zero, suc, ◌≡◌, Bool, true, false, [], ◌∷◌, ⊎_elim, refl, sym, ◌∙◌}
use Rattle.std.proofs.Common.{Contains}
use Rattle.std.proofs.lemmas.Bool.{false≢true}
use Rattle.tv_kleene.specs.declared.K3.{K3}
use Rattle.tv_kleene.specs.declared.K3.TheVariants.{Half, Yes}
use Rattle.tv_model.specs.Rules.{unique_rule, reflexive_rule}
use Rattle.tv_model.specs.Truth.{Assignment}
use Rattle.tv_model.proofs.Lists.{Contains-here, Contains-there, Contains-none, Contains-cases}
use Rattle.tv_stable_laws.specs.OneCell.{one_individual}
use Rattle.tv_stable_laws.specs.Stable.{IsStableUnder}
use Rattle.tv_model.specs.Program.{RuleForm}
use Rattle.tv_stable_laws.proofs.OneCells.{unique-cell, reflexive-summary}
use Rattle.tv_coerce_laws.specs.Limits.{two_individuals, SplitLimits}
use Rattle.tv_coerce_laws.specs.Split.{KeepsRuleValues}

split-in_two : (rule : RuleForm) (k : K3) (summary : Bool) → KeepsRuleValues rule (λ u. 0) (two_individuals k) (one_individual summary k)
split-in_two rule k summary = record {
  into = λ u at. Contains-here 0 [];
  onto = λ w at. (
    0,
    Contains-here 0 (1 ∷ []),
    ⊎_elim (λ e. e) (λ there. absurd (Contains-none w there)) (Contains-cases 0 w [] at),
  );
  values = λ pred p tuple all. refl;
}

-- variable 0 stands for individual 0, and each other for individual 1
abbrev pub one_each : Assignment
one_each zero = 0
one_each (suc v) = 1

reflexive-lost : ¬ IsStableUnder (two_individuals Half) (reflexive_rule 0)
reflexive-lost stable =
    ⊎_elim
    (λ e. absurd (cc e))
    (λ may. absurd (false≢true may.summary))
    (stable (λ v. 0) (λ v free. Contains-here 0 (1 ∷ [])) refl)

unique-lost : ¬ IsStableUnder (two_individuals Yes) (unique_rule 0)
unique-lost stable =
    ⊎_elim
    (λ e. absurd (cc e))
    (λ may. let clash : 0 ≡ 1 = may.twice.0 ∙ sym may.twice.1 in absurd (cc))
    (stable one_each (λ v free. inside v) refl)
  where
    inside : (v : ℕ) → Contains (0 ∷ 1 ∷ []) (one_each v)
    inside zero = Contains-here 0 (1 ∷ [])
    inside (suc v) = Contains-there 0 1 (1 ∷ []) (Contains-here 1 [])

pub split_limits : SplitLimits
split_limits = record {
  reflexive_split = split-in_two (reflexive_rule 0) Half true;
  reflexive_before = reflexive-summary;
  reflexive_lost = reflexive-lost;
  unique_split = split-in_two (unique_rule 0) Yes false;
  unique_before = unique-cell;
  unique_lost = unique-lost;
}
