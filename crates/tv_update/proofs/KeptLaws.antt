-- Choices as flags, and as lists of those that stay.
use Rattle.std.proofs.Common.{ℕ, ◌≡◌, ◌+◌, Bool, true, false, List, [], ◌∷◌, ◌++◌, length, map, replicate}
use Rattle.std.proofs.Common.{refl, sym, ap, ◌∙◌, append_assoc, All}
use Rattle.std.specs.List.{range_with_len}
use Rattle.std.proofs.lemmas.List.{map-append, map-id}
use Rattle.std.proofs.lemmas.List.Elements.{All-head, All-tail}
use Rattle.tv_kleene.specs.declared.K3.{K3}
use Rattle.tv_kleene.specs.declared.K3.TheVariants.{No, Half, Yes}
use Rattle.tv_model.proofs.Lists.{map-compose, map-agreed}
use Rattle.tv_structure_form.specs.Halves.{row_halves}
use Rattle.tv_structure_form.specs.StructureForm.{kept_from}
use Rattle.tv_update_laws.specs.Choices.{with_choice, choices_of}
use Rattle.tv_update.specs.Kept.{with_flag, flag_choices}

-- what begins with one more flag
pub begun_more : (begun : List Bool) (stays : Bool) (later : List (List Bool))
    → map (λ flags. (begun ++ stays ∷ []) ++ flags) later ≡ map (λ flags. begun ++ flags)
    (map (λ flags. stays ∷ flags) later)
begun_more begun stays later =
    map-agreed (λ flags. (begun ++ stays ∷ []) ++ flags) (λ flags. begun ++ (stays ∷ flags)) later
    (λ flags at. append_assoc begun (stays ∷ []) flags)
    ∙ sym (map-compose (λ flags. stays ∷ flags) (λ flags. begun ++ flags) later)

-- what begins with no flag
pub begun_none : (later : List (List Bool)) → map (λ flags. [] ++ flags) later ≡ later
begun_none later = map-id later

-- ---- flags and lists of those that stay

fronted : (n : ℕ) (later : List (List Bool))
    → map (kept_from n) (map (λ flags. true ∷ flags) later) ≡ map (λ us. n ∷ us)
    (map (kept_from (n + 1)) later)
fronted n later =
    map-compose (λ flags. true ∷ flags) (kept_from n) later
    ∙ sym (map-compose (kept_from (n + 1)) (λ us. n ∷ us) later)

passed : (n : ℕ) (later : List (List Bool))
    → map (kept_from n) (map (λ flags. false ∷ flags) later) ≡ map (kept_from (n + 1)) later
passed n later = map-compose (λ flags. false ∷ flags) (kept_from n) later

with-flag : (k : K3) (n : ℕ) (later : List (List Bool))
    → map (kept_from n) (with_flag k later) ≡ with_choice k n (map (kept_from (n + 1)) later)
with-flag No n later = passed n later
with-flag Half n later =
    map-append (kept_from n) (map (λ flags. false ∷ flags) later) (map (λ flags. true ∷ flags) later)
    ∙ ap (λ xs. xs ++ map (kept_from n) (map (λ flags. true ∷ flags) later)) (passed n later)
    ∙ ap (λ xs. map (kept_from (n + 1)) later ++ xs) (fronted n later)
with-flag Yes n later = fronted n later

-- the flags' individuals are the choices
pub kept_choices : (keep : ℕ → K3) (n m : ℕ)
    → map (kept_from n) (flag_choices (map keep (range_with_len n m))) ≡ choices_of keep (range_with_len n m)
kept_choices keep n ℕ.zero = refl
kept_choices keep n (ℕ.suc m) =
    with-flag (keep n) n (flag_choices (map keep (range_with_len (n + 1) m)))
    ∙ ap (with_choice (keep n) n) (kept_choices keep (n + 1) m)

-- ---- where all stay

-- there is one choice
pub choices_of_yes : (values : List K3) → All (λ k. k ≡ Yes) values
    → flag_choices values ≡ replicate (length values) true ∷ []
choices_of_yes [] all = refl
choices_of_yes (k ∷ values) all =
    ap (λ x. with_flag x (flag_choices values)) (All-head (λ x. x ≡ Yes) k values all)
    ∙ ap (map (λ flags. true ∷ flags)) (choices_of_yes values (All-tail (λ x. x ≡ Yes) k values all))

-- no value is unknown
pub halves_of_yes : (values : List K3) → All (λ k. k ≡ Yes) values → row_halves values ≡ 0
halves_of_yes [] all = refl
halves_of_yes (k ∷ values) all =
    ap (λ x. row_halves (x ∷ values)) (All-head (λ x. x ≡ Yes) k values all)
    ∙ halves_of_yes values (All-tail (λ x. x ≡ Yes) k values all)
