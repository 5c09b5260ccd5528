-- What values in heaps, tests and lists say.
use Rattle.std.specs.List.{list_any}
use Rattle.std.proofs.Common.{ℕ, ◌≡◌, ◌≢◌, ◌↔◌, ◌||◌, Bool, true, false, List, [], ◌∷◌, map, Some, find}
use Rattle.std.proofs.Common.{⊎_elim, refl, sym, ap, subst, ◌∙◌, All, Contains, eqb, eq-eqb, ne_eqb}
use Rattle.std.proofs.lemmas.Bool.{cases_eq, cond-true, cond-false}
use Rattle.std.proofs.lemmas.List.Elements.{All-contains}
use Rattle.tv_kleene.specs.declared.K3.{K3}
use Rattle.tv_kleene.proofs.Thresholds.{May-from_Must, thresholds_determine}
use Rattle.tv_model.proofs.Lists.{Contains-here, Contains-there, Contains-none, Contains-cases, map-agreed}
use Rattle.tv_eval_laws.proofs.InHeaps.{Tells}

-- ---- values that tell the same fact are equal

pub told-same : (x y : K3) (P Q : Type 0) → Tells x P → Tells y Q → P ↔ Q → x ≡ y
told-same x y P Q p q same =
    thresholds_determine x y
    (λ m. q.yes (same.0 (p.holds (May-from_Must x m))))
    (λ m. May-from_Must y (q.yes (same.0 (p.holds m))))
    (λ m. p.yes (same.1 (q.holds (May-from_Must y m))))
    (λ m. May-from_Must x (p.yes (same.1 (q.holds m))))

-- ---- lists

pub any-found : (u : ℕ) (us : List ℕ) → Contains us u → list_any (λ w. eqb w u) us ≡ true
any-found u [] at = absurd (Contains-none u at)
any-found u (w ∷ us) at =
    ⊎_elim
    (λ e. ap (λ b. b || list_any (λ x. eqb x u) us) (eq-eqb w u e))
    (λ ne. ap (λ b. b || list_any (λ x. eqb x u) us) (ne_eqb w u ne)
    ∙ any-found u us (⊎_elim (λ e. absurd (ne e)) (λ later. later) (Contains-cases w u us at)))
    (cases_eq w u)

pub any-none : (u : ℕ) (us : List ℕ) → (¬ Contains us u) → list_any (λ w. eqb w u) us ≡ false
any-none u [] none = refl
any-none u (w ∷ us) none =
    let differ : w ≢ u = λ e. let Has : ℕ → Type 0 = λ x. Contains (w ∷ us) x
    in none (subst Has e (Contains-here w us))
    in ap (λ b. b || list_any (λ x. eqb x u) us) (ne_eqb w u differ)
    ∙ any-none u us (λ at. none (Contains-there w u us at))

-- maps that agree on the individuals map a tuple of them alike
pub tuple-agreed : (f g : ℕ → ℕ) (individuals tuple : List ℕ) → All (Contains individuals) tuple
    → ((u : ℕ) → Contains individuals u → f u ≡ g u) → map f tuple ≡ map g tuple
tuple-agreed f g individuals tuple all same =
    map-agreed f g tuple (λ u at. same u (All-contains (Contains individuals) tuple u all at))

-- the first element that passes is an element, and passes
pub find-found : {X : Type 0} (test : X → Bool) (xs : List X) (x : X) → find test xs ≡ Some x
    → Contains xs x × (test x ≡ true)
find-found test [] x found = absurd (cc found)
find-found test (y ∷ xs) x found = go (find-found test xs x) (test y) refl
  where
    go : (find test xs ≡ Some x → Contains xs x × (test x ≡ true)) → (b : Bool) → test y ≡ b
        → Contains (y ∷ xs) x × (test x ≡ true)
    go rest true e =
        let same : Some y ≡ Some x = sym (cond-true (test y) (Some y) (find test xs) e) ∙ found
        in let is : y ≡ x = cc same
        in (subst (λ z. Contains (y ∷ xs) z) is (Contains-here y xs), subst (λ z. test z ≡ true) is e)
    go rest false e =
        let later : Contains xs x × (test x ≡ true) =
        rest (sym (cond-false (test y) (Some y) (find test xs) e) ∙ found)
        in (Contains-there y x xs later.0, later.1)
