-- How many choices of the individuals that stay there are.
use Rattle.std.proofs.Common.{ℕ, ◌≡◌, ◌*◌, List, [], ◌∷◌, length, map, refl, sym, ap, ◌∙◌, arith}
use Rattle.std.specs.Prelude.{◌^◌}
use Rattle.std.proofs.lemmas.List.{length-map, length-append}
use Rattle.std.proofs.lemmas.List.Sums.{sum_by-cons}
use Rattle.std.proofs.lemmas.Nat.{pow-add}
use Rattle.tv_kleene.specs.declared.K3.{K3}
use Rattle.tv_kleene.specs.declared.K3.TheVariants.{No, Half, Yes}
use Rattle.tv_structure_form.specs.Halves.{half_of, row_halves}
use Rattle.tv_update_laws.specs.Choices.{with_choice, choices_of}
use Rattle.tv_update_laws.specs.Tables.{ChoicesAreCounted}

with-count : (k : K3) (u : ℕ) (later : List (List ℕ))
    → length (with_choice k u later) ≡ 2 ^ half_of k * length later
with-count No u later = omega arith
with-count Half u later = length-append later (map (λ us. u ∷ us) later)
    ∙ omega (arith, length-map later (λ us. u ∷ us))
with-count Yes u later = length-map later (λ us. u ∷ us) ∙ omega arith

pub choices_are_counted : ChoicesAreCounted
choices_are_counted keep [] = refl
choices_are_counted keep (u ∷ us) =
    with-count (keep u) u (choices_of keep us)
    ∙ ap (λ n. 2 ^ half_of (keep u) * n) (choices_are_counted keep us)
    ∙ sym (pow-add 2 (half_of (keep u)) (row_halves (map keep us)))
    ∙ ap (λ n. 2 ^ n) (sym (sum_by-cons half_of (keep u) (map keep us)))
