-- The values of messages are kept by edge and place.
use Rattle.std.proofs.Common.{ℕ, ◌≡◌, ◌≢◌, ◌<◌, ◌≤◌, ◌⊎◌, inl, inr, List, [], ◌∷◌, ◌++◌, length, get_or, set}
use Rattle.std.proofs.Common.{sym, ap, ◌∙◌, arith}
use Rattle.std.proofs.lemmas.Bool.{cases_eq, cases_lt}
use Rattle.std.proofs.lemmas.List.{get_or_append_left, get_or_past, get_or_push, get_or-set_other}
use Rattle.std.proofs.lemmas.List.{get_or-set_same, length-set, length_push}
use Rattle.tv_kleene.specs.declared.K3.{K3}
use Rattle.tv_join.specs.Values.{values_at, ChangesAlong, ChangesPlace, AreValuesAsBefore}

-- where nothing stands there are no values
pub none-past : (row : List (List K3)) (place : ℕ) (values : List K3) → length values ≡ 0 → length row ≤ place
    → get_or row place [] ≡ values
none-past row place [] none past = get_or_past row place [] past
none-past row place (k ∷ ks) none past = absurd (omega (arith, none))

-- a place without values changes nothing
pub none-pushed : (row : List (List K3)) → AreValuesAsBefore row (row ++ [] ∷ [])
none-pushed row p = by (cases_lt p (length row)) (cases_eq p (length row))
  where
    by : (p < length row) ⊎ (length row ≤ p) → (p ≡ length row) ⊎ (p ≢ length row)
        → get_or (row ++ [] ∷ []) p [] ≡ get_or row p []
    by (inl lt) other = get_or_append_left row ([] ∷ []) [] p lt
    by (inr past) (inl same) =
        get_or_push row [] [] p (sym same) ∙ sym (get_or_past row p [] past)
    by (inr past) (inr apart) =
        get_or_past (row ++ [] ∷ []) p [] (omega (arith, past, apart, length_push row []))
        ∙ sym (get_or_past row p [] past)

pub keeps-on : (a b c : List (List K3)) → AreValuesAsBefore a b → AreValuesAsBefore b c → AreValuesAsBefore a c
keeps-on a b c first second p = second p ∙ first p

module _ (old row : List (List K3)) (place : ℕ) (values : List K3) (same : AreValuesAsBefore old row) (within : place < length row) where
  pub put-here : get_or (set row place values) place [] ≡ values
  put-here = get_or-set_same row place values [] within

  pub put-others : ChangesPlace place old (set row place values)
  put-others p = by (cases_eq p place)
    where
      by : (p ≡ place) ⊎ (p ≢ place) → (p ≡ place) ⊎ (get_or (set row place values) p [] ≡ get_or old p [])
      by (inl here) = inl here
      by (inr apart) = inr (get_or-set_other row place p values [] apart ∙ same p)

module _ (rows new : List (List (List K3))) (edge place : ℕ) (row : List (List K3)) (values : List K3)
    (within : edge < length rows) (is : new ≡ set rows edge row) where
  at-edge : get_or new edge [] ≡ row
  at-edge = ap (λ rs. get_or rs edge []) is ∙ get_or-set_same rows edge row [] within

  pub keep-here : get_or row place [] ≡ values → values_at new edge place ≡ values
  keep-here here = ap (λ r. get_or r place []) at-edge ∙ here

  pub keep-others : ChangesPlace place (get_or rows edge []) row → ChangesAlong edge place rows new
  keep-others changes = record {
    count = ap length is ∙ length-set rows edge row;
    others = λ e p. by e p (cases_eq e edge);
  }
    where
      in-row : (e p : ℕ) → e ≡ edge → (p ≡ place) ⊎ (get_or row p [] ≡ get_or (get_or rows edge []) p [])
          → ((e ≡ edge) × (p ≡ place)) ⊎ (values_at new e p ≡ values_at rows e p)
      in-row e p same (inl here) = inl (same, here)
      in-row e p same (inr kept) =
          inr (ap (λ n. values_at new n p) same ∙ ap (λ r. get_or r p []) at-edge ∙ kept
          ∙ sym (ap (λ n. values_at rows n p) same))

      by : (e p : ℕ) → (e ≡ edge) ⊎ (e ≢ edge)
          → ((e ≡ edge) × (p ≡ place)) ⊎ (values_at new e p ≡ values_at rows e p)
      by e p (inl same) = in-row e p same (changes p)
      by e p (inr apart) =
          inr (ap (λ rs. values_at rs e p) is ∙ ap (λ r. get_or r p []) (get_or-set_other rows edge e row [] apart))
