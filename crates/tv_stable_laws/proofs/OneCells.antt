-- Stability of structures of one individual.
use Rattle.std.proofs.Common.{ℕ, ◌≡◌, true, false, [], ◌∷◌, inl, inr, ⊎_elim, refl, sym, ◌∙◌, Contains}
use Rattle.std.proofs.lemmas.Bool.{false≢true}
use Rattle.std.proofs.lemmas.List.Elements.{All-nil, All-cons, All-head}
use Rattle.tv_kleene.specs.declared.K3.TheVariants.{Half, Yes}
use Rattle.tv_model.specs.Rules.{unique_rule, reflexive_rule}
use Rattle.tv_model.specs.Truth.{Assignment}
use Rattle.tv_model.proofs.Lists.{Contains-here, Contains-none, Contains-cases}
use Rattle.tv_eval_laws.proofs.Entries.{same-here}
use Rattle.tv_stable_laws.specs.Stable.{IsStableUnder}
use Rattle.tv_stable_laws.specs.OneCell.{one_individual, OneCellLaws}

pub only-zero : (u : ℕ) → Contains (0 ∷ []) u → 0 ≡ u
only-zero u at = ⊎_elim (λ e. e) (λ there. absurd (Contains-none u there)) (Contains-cases 0 u [] at)

abbrev pub zeros : Assignment
zeros v = 0

pub unique-cell : IsStableUnder (one_individual false Yes) (unique_rule 0)
unique-cell a inside body =
    let first : 0 ≡ a 0 = only-zero (a 0) (inside 0 (inr (inl refl)))
    in let second : 0 ≡ a 1 = only-zero (a 1) (inside 1 (inr (inr refl)))
    in inl (same-here (one_individual false Yes) (a 0) (a 1) (sym first ∙ second))

unique-summary : ¬ IsStableUnder (one_individual true Yes) (unique_rule 0)
unique-summary stable =
    ⊎_elim
    (λ e. absurd (cc e))
    (λ may. let clash : 0 ≡ 1 = may.twice.0 ∙ sym may.twice.1 in absurd (cc))
    (stable zeros (λ v free. Contains-here 0 []) refl)

reflexive-cell : ¬ IsStableUnder (one_individual false Half) (reflexive_rule 0)
reflexive-cell stable =
    ⊎_elim
    (λ e. absurd (cc e))
    (λ may. absurd (false≢true may.summary))
    (stable zeros (λ v free. Contains-here 0 []) refl)

pub reflexive-summary : IsStableUnder (one_individual true Half) (reflexive_rule 0)
reflexive-summary a inside body =
    inr (record { var = 0; twice = refl; summary = refl; half = refl })

pub one_cell_laws : OneCellLaws
one_cell_laws = record {
  unique_on_cell =
      All-cons (IsStableUnder (one_individual false Yes)) (unique_rule 0) [] unique-cell
      (All-nil (IsStableUnder (one_individual false Yes)));
  unique_on_summary = λ stable. unique-summary
      (All-head (IsStableUnder (one_individual true Yes)) (unique_rule 0) [] stable);
  reflexive_on_cell = λ stable. reflexive-cell
      (All-head (IsStableUnder (one_individual false Half)) (reflexive_rule 0) [] stable);
  reflexive_on_summary =
      All-cons (IsStableUnder (one_individual true Half)) (reflexive_rule 0) [] reflexive-summary
      (All-nil (IsStableUnder (one_individual true Half)));
}
