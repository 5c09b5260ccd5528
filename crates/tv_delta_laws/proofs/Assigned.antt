-- What an assignment gives once a tuple is put for variables, and which arguments stand for variables.
use Rattle.std.proofs.Common.{ℕ, ◌≡◌, ◌≢◌, ◌⊎◌, ◌∙◌, Bool, true, false, suc, List, [], ◌∷◌, length, map, inl}
use Rattle.std.proofs.Common.{inr, ⊎_elim, refl, sym, ap, subst, cond, eqb, eq-eqb, ne_eqb, arith, Contains}
use Rattle.std.specs.Prelude.{AllPairs}
use Rattle.std.specs.List.{zip}
use Rattle.std.proofs.lemmas.Bool.{cases_eq, cond-true, cond-false}
use Rattle.tv_model.specs.Truth.{Assignment, put, put_all}
use Rattle.tv_model.proofs.Assignments.{put-same, put-other}
use Rattle.tv_model.proofs.Lists.{Contains-here, Contains-there, Contains-none, Contains-cases}
use Rattle.tv_delta_laws.specs.Putting.{argument_for}

-- ---- different elements

pub pairs-head : {X : Type 0} (x : X) (xs : List X) → AllPairs ◌≢◌ (x ∷ xs) → ¬ Contains xs x
pairs-head x xs apart at = apart 0 (suc at.0) x (omega arith) (omega (arith, at.1)) (sym at.2)

pub pairs-tail : {X : Type 0} (x : X) (xs : List X) → AllPairs ◌≢◌ (x ∷ xs) → AllPairs ◌≢◌ xs
pairs-tail x xs apart = λ i j d below within. apart (suc i) (suc j) d (omega (arith, below)) (omega (arith, within))

-- ---- tuples put for variables

pub put-all_outside : (a : Assignment) (vars tuple : List ℕ) (x : ℕ) → (¬ Contains vars x) → put_all a vars tuple x ≡ a x
put-all_outside a [] tuple x out = refl
put-all_outside a (v ∷ vars) [] x out = refl
put-all_outside a (v ∷ vars) (u ∷ tuple) x out =
    put-all_outside (put a v u) vars tuple x (λ at. out (Contains-there v x vars at))
    ∙ put-other a v u x (λ e. out (let At : ℕ → Type 0 = λ y. Contains (v ∷ vars) y in subst At (sym e) (Contains-here v vars)))

-- the tuple that arguments stand for, put for variables, gives each variable what its argument stands for
pub put-all_arguments : (a b : Assignment) (vars args : List ℕ) (x : ℕ) → length vars ≡ length args
    → AllPairs ◌≢◌ vars → ((¬ Contains vars x) → a x ≡ b x)
    → put_all a vars (map b args) x ≡ b (argument_for (zip vars args) x)
put-all_arguments a b [] args x same apart others = others (Contains-none x)
put-all_arguments a b (v ∷ vars) [] x same apart others = absurd (omega (arith, same))
put-all_arguments a b (v ∷ vars) (y ∷ args) x same apart others =
    ⊎_elim
    (λ e. let At : ℕ → Type 0 = λ z. ¬ Contains vars z
    in put-all_outside (put a v (b y)) vars (map b args) x (subst At (sym e) (pairs-head v vars apart))
    ∙ put-same a v (b y) x e
    ∙ ap b (sym (cond-true (eqb v x) y (argument_for (zip vars args) x) (eq-eqb v x (sym e)))))
    (λ ne. put-all_arguments (put a v (b y)) b vars args x (omega (arith, same)) (pairs-tail v vars apart)
    (λ no. put-other a v (b y) x ne ∙ others (λ at. ⊎_elim (λ e. ne (sym e)) no (Contains-cases v x vars at)))
    ∙ ap b (sym (cond-false (eqb v x) y (argument_for (zip vars args) x) (ne_eqb v x (λ e. ne (sym e))))))
    (cases_eq x v)

-- different variables stand for the tuple that is put for them
pub put-all_reads : (a : Assignment) (vars tuple : List ℕ) → length vars ≡ length tuple → AllPairs ◌≢◌ vars
    → map (put_all a vars tuple) vars ≡ tuple
put-all_reads a [] [] same apart = refl
put-all_reads a [] (u ∷ tuple) same apart = absurd (omega (arith, same))
put-all_reads a (v ∷ vars) [] same apart = absurd (omega (arith, same))
put-all_reads a (v ∷ vars) (u ∷ tuple) same apart =
    let first : put_all (put a v u) vars tuple v ≡ u
    = put-all_outside (put a v u) vars tuple v (pairs-head v vars apart) ∙ put-same a v u v refl
    in let rest : map (put_all (put a v u) vars tuple) vars ≡ tuple
    = put-all_reads (put a v u) vars tuple (omega (arith, same)) (pairs-tail v vars apart)
    in cc (first, rest)

-- the argument of one of the variables is one of the arguments
pub argument-in : (vars args : List ℕ) (x : ℕ) → length vars ≡ length args → Contains vars x
    → Contains args (argument_for (zip vars args) x)
argument-in [] args x same at = absurd (Contains-none x at)
argument-in (v ∷ vars) [] x same at = absurd (omega (arith, same))
argument-in (v ∷ vars) (y ∷ args) x same at =
    go (eqb v x) (Contains-cases v x vars at) (λ there. argument-in vars args x (omega (arith, same)) there) refl
  where
    go : (b : Bool) → (v ≡ x) ⊎ Contains vars x → (Contains vars x → Contains args (argument_for (zip vars args) x))
        → eqb v x ≡ b → Contains (y ∷ args) (cond b y (argument_for (zip vars args) x))
    go true cases later is = Contains-here y args
    go false (inl e) later is = absurd (cc (sym (eq-eqb v x e) ∙ is))
    go false (inr there) later is = Contains-there y (argument_for (zip vars args) x) args (later there)

-- what isn't one of the variables is put for itself
pub argument-outside : (vars args : List ℕ) (x : ℕ) → (¬ Contains vars x) → argument_for (zip vars args) x ≡ x
argument-outside [] args x out = refl
argument-outside (v ∷ vars) [] x out = refl
argument-outside (v ∷ vars) (y ∷ args) x out =
    cond-false (eqb v x) y (argument_for (zip vars args) x)
    (ne_eqb v x (λ e. out (let At : ℕ → Type 0 = λ z. Contains (v ∷ vars) z in subst At e (Contains-here v vars))))
    ∙ argument-outside vars args x (λ at. out (Contains-there v x vars at))
