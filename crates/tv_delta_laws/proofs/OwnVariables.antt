-- The own variables of an update are different, none is picked, and there are as many as in the definition.
use Rattle.std.proofs.Common.{ℕ, ◌≡◌, ◌≢◌, ◌<◌, ◌⊎◌, Bool, true, false, List, [], ◌∷◌, length, Option, Some}
use Rattle.std.proofs.Common.{None, inl, inr, ⊎_elim, refl, sym, subst, cond, arith, All, Contains}
use Rattle.std.specs.Prelude.{AllPairs, IfSome, option_map, option_and_then}
use Rattle.std.proofs.lemmas.List.Elements.{All-nil, All-cons, All-head, All-tail}
use Rattle.std.proofs.lemmas.List.Kept.{AllPairs-cons}
use Rattle.tv_model.specs.Valid.{IsVariable}
use Rattle.tv_model.proofs.Lists.{Contains-here, Contains-there, Contains-none, Contains-cases}
use Rattle.tv_model.proofs.Lists.{All-from_contains}
use Rattle.tv_delta_laws.specs.Putting.{has, least_slot, own_variables}
use Rattle.tv_delta_laws.proofs.Options.{if-mapped, if-bound, has-not, least-slot_free}
use Rattle.tv_delta_laws.proofs.Assigned.{pairs-head, pairs-tail}

-- own variables for these
pub record Owns (picks used vars own : List ℕ) : Type 0 where
  pub as_many : length own ≡ length vars
  pub differ : AllPairs ◌≢◌ own
  pub kept_or_new : (x : ℕ) → Contains own x → Contains vars x ⊎ (¬ Contains used x)
  pub apart : (x : ℕ) → Contains own x → Contains picks x → ⊥
  pub variables : All IsVariable vars → All IsVariable own

owned : (picks used : List ℕ) (v : ℕ) (vars : List ℕ) (w : ℕ) (more own : List ℕ) → Owns picks more vars own
    → (¬ Contains picks w) → ((x : ℕ) → Contains used x → Contains more x) → Contains more w
    → ((v ≡ w) ⊎ (¬ Contains used w)) → ((x : ℕ) → Contains vars x → x ≢ w) → (IsVariable v → IsVariable w)
    → Owns picks used (v ∷ vars) (w ∷ own)
owned picks used v vars w more own is free more_used among new others variable = record {
  as_many = omega (arith, is.as_many);
  differ = AllPairs-cons ◌≢◌ w own
      (All-from_contains (λ x. w ≢ x) own
      (λ x at e. ⊎_elim (λ kept. others x kept (sym e))
      (λ no. no (let At : ℕ → Type 0 = λ y. Contains more y in subst At e among)) (is.kept_or_new x at)))
      is.differ;
  kept_or_new = λ x at. ⊎_elim
      (λ here. let At : ℕ → Type 0 = λ y. Contains (v ∷ vars) y ⊎ (¬ Contains used y)
      in let first : Contains (v ∷ vars) w ⊎ (¬ Contains used w)
      = ⊎_elim (λ e. let In : ℕ → Type 0 = λ y. Contains (v ∷ vars) y in inl (subst In e (Contains-here v vars)))
      (λ no. inr no) new
      in subst At here first)
      (λ there. ⊎_elim (λ kept. inl (Contains-there v x vars kept)) (λ no. inr (λ old. no (more_used x old)))
      (is.kept_or_new x there))
      (Contains-cases w x own at);
  apart = λ x at picked. ⊎_elim
      (λ here. free (let At : ℕ → Type 0 = λ y. Contains picks y in subst At (sym here) picked))
      (λ there. is.apart x there picked)
      (Contains-cases w x own at);
  variables = λ all.
      All-cons IsVariable w own (variable (All-head IsVariable v vars all)) (is.variables (All-tail IsVariable v vars all));
}

slot-apart : (used : List ℕ) → IfSome (least_slot used) (λ s. (¬ Contains used s) × (s < 32))
slot-apart used = go (least_slot used) refl
  where
    go : (o : Option ℕ) → least_slot used ≡ o → IfSome o (λ s. (¬ Contains used s) × (s < 32))
    go None e = tt
    go (Some s) e = least-slot_free used s e

pub own-fit : (picks used vars : List ℕ) → ((x : ℕ) → Contains vars x → Contains used x)
    → ((x : ℕ) → Contains picks x → Contains used x) → AllPairs ◌≢◌ vars
    → IfSome (own_variables picks used vars) (Owns picks used vars)
own-fit picks used [] vars_used picks_used apart = record {
  as_many = refl;
  differ = λ i j d below within. absurd (omega (arith, within));
  kept_or_new = λ x at. absurd (Contains-none x at);
  apart = λ x at. absurd (Contains-none x at);
  variables = λ all. All-nil IsVariable;
}
own-fit picks used (v ∷ vars) vars_used picks_used apart =
    go (has picks v) refl
    (λ s. own-fit picks (s ∷ used) vars
    (λ x at. Contains-there s x used (vars_used x (Contains-there v x vars at)))
    (λ x at. Contains-there s x used (picks_used x at)) (pairs-tail v vars apart))
    (own-fit picks used vars (λ x at. vars_used x (Contains-there v x vars at)) picks_used (pairs-tail v vars apart))
  where
    renamed : (s : ℕ) → (¬ Contains used s) × (s < 32)
        → IfSome (own_variables picks (s ∷ used) vars) (Owns picks (s ∷ used) vars)
        → IfSome (option_map (λ own. s ∷ own) (own_variables picks (s ∷ used) vars)) (Owns picks used (v ∷ vars))
    renamed s free rest =
        if-mapped (Owns picks (s ∷ used) vars) (Owns picks used (v ∷ vars)) (λ own. s ∷ own)
        (own_variables picks (s ∷ used) vars) rest
        (λ own is. owned picks used v vars s (s ∷ used) own is (λ at. free.0 (picks_used s at))
        (λ x at. Contains-there s x used at) (Contains-here s used) (inr free.0)
        (λ x at e. free.0 (let At : ℕ → Type 0 = λ y. Contains used y
        in subst At e (vars_used x (Contains-there v x vars at))))
        (λ is. free.1))

    go : (b : Bool) → has picks v ≡ b
        → ((s : ℕ) → IfSome (own_variables picks (s ∷ used) vars) (Owns picks (s ∷ used) vars))
        → IfSome (own_variables picks used vars) (Owns picks used vars)
        → IfSome (cond b (option_and_then (λ s. option_map (λ own. s ∷ own) (own_variables picks (s ∷ used) vars)) (least_slot used))
        (option_map (λ own. v ∷ own) (own_variables picks used vars))) (Owns picks used (v ∷ vars))
    go true e each same =
        if-bound (λ s. (¬ Contains used s) × (s < 32)) (Owns picks used (v ∷ vars))
        (λ s. option_map (λ own. s ∷ own) (own_variables picks (s ∷ used) vars)) (least_slot used) (slot-apart used)
        (λ s free. renamed s free (each s))
    go false e each same =
        if-mapped (Owns picks used vars) (Owns picks used (v ∷ vars)) (λ own. v ∷ own) (own_variables picks used vars) same
        (λ own is. owned picks used v vars v used own is (has-not picks v e) (λ x at. at)
        (vars_used v (Contains-here v vars)) (inl refl)
        (λ x at same. pairs-head v vars apart (let At : ℕ → Type 0 = λ y. Contains vars y in subst At same at))
        (λ is. is))
