-- Lemmas on assignments, for the crates above: what an assignment gives once an individual is put for a
-- variable.
use Rattle.std.proofs.Common.{ℕ, ◌≡◌, ◌≢◌, List, map, get_or, ⊎_elim, sym, subst, ◌∙◌, All, Contains, eqb}
use Rattle.std.proofs.Common.{ap, eq-eqb, ne_eqb}
use Rattle.std.proofs.lemmas.Bool.{cases_eq, cond-true, cond-false}
use Rattle.std.proofs.lemmas.List.Elements.{All-map, Contains-get_or}
use Rattle.tv_model.specs.Truth.{Assignment, put}
use Rattle.tv_model.proofs.Lists.{map-compose, map-agreed}

pub put-same : (a : Assignment) (v u x : ℕ) → x ≡ v → put a v u x ≡ u
put-same a v u x e = cond-true (eqb x v) u (a x) (eq-eqb x v e)

pub put-other : (a : Assignment) (v u x : ℕ) → x ≢ v → put a v u x ≡ a x
put-other a v u x ne = cond-false (eqb x v) u (a x) (ne_eqb x v ne)

-- what holds at the other variables holds at all once it holds of what is put for v
pub put-holds : (P : ℕ → ℕ → Type 0) (a : Assignment) (v u : ℕ) → P v u → ((x : ℕ) → x ≢ v → P x (a x))
    → (x : ℕ) → P x (put a v u x)
put-holds P a v u new old x =
    ⊎_elim
    (λ e. let At : ℕ → Type 0 = λ w. P w u in subst (P x) (sym (put-same a v u x e)) (subst At (sym e) new))
    (λ ne. subst (P x) (sym (put-other a v u x ne)) (old x ne))
    (cases_eq x v)

-- individuals at the other variables that matter, and one put for v, are individuals at all that matter
pub put-inside : (xs : List ℕ) (matters : ℕ → Type 0) (a : Assignment) (v u : ℕ) → Contains xs u
    → ((x : ℕ) → (x ≢ v) × matters x → Contains xs (a x)) → (x : ℕ) → matters x → Contains xs (put a v u x)
put-inside xs matters a v u new old x =
    put-holds (λ w y. matters w → Contains xs y) a v u (λ m. new) (λ w ne m. old w (ne, m)) x

-- what is matched at the other variables is matched at all once matched individuals are put for v
pub put-matched : (matters : ℕ → Type 0) (M : ℕ → ℕ → Type 0) (a b : Assignment) (v u w : ℕ) → M u w
    → ((x : ℕ) → (x ≢ v) × matters x → M (a x) (b x))
    → (x : ℕ) → matters x → M (put a v u x) (put b v w x)
put-matched matters M a b v u w new old x m =
    let Left : ℕ → Type 0 = λ y. M y (put b v w x)
    in ⊎_elim
    (λ e. let Right : ℕ → Type 0 = λ y. M u y
    in subst Left (sym (put-same a v u x e)) (subst Right (sym (put-same b v w x e)) new))
    (λ ne. let Right : ℕ → Type 0 = λ y. M (a x) y
    in subst Left (sym (put-other a v u x ne)) (subst Right (sym (put-other b v w x ne)) (old x (ne, m))))
    (cases_eq x v)

-- a tuple that variables stand for consists of what they stand for
pub All-values : (P : ℕ → Type 0) (a : Assignment) (vars : List ℕ) → ((v : ℕ) → Contains vars v → P (a v))
    → All P (map a vars)
All-values P a vars each = All-map P a vars (λ k d below. each (get_or vars k d) (Contains-get_or vars k d below))

-- the images of a tuple that variables stand for
pub map-images : (m : ℕ → ℕ) (a b : Assignment) (vars : List ℕ) → ((v : ℕ) → Contains vars v → m (a v) ≡ b v)
    → map m (map a vars) ≡ map b vars
map-images m a b vars same = map-compose a m vars ∙ map-agreed (λ v. m (a v)) b vars same

-- u and m are exchanged
abbrev pub swap : ℕ → ℕ → ℕ → ℕ
swap u m = put (put (λ w. w) m u) u m

pub swap-first : (u m w : ℕ) → w ≡ u → swap u m w ≡ m
swap-first u m w e = put-same (put (λ x. x) m u) u m w e

pub swap-rest : (u m w : ℕ) → w ≢ u → w ≢ m → swap u m w ≡ w
swap-rest u m w nu nm = put-other (put (λ x. x) m u) u m w nu ∙ put-other (λ x. x) m u w nm

pub swap-second : (u m w : ℕ) → w ≡ m → swap u m w ≡ u
swap-second u m w e =
    ⊎_elim
    (λ f. swap-first u m w f ∙ sym e ∙ f)
    (λ ne. put-other (put (λ x. x) m u) u m w ne ∙ put-same (λ x. x) m u w e)
    (cases_eq w u)

pub swap-twice : (u m w : ℕ) → swap u m (swap u m w) ≡ w
swap-twice u m w =
    ⊎_elim
    (λ e. swap-second u m (swap u m w) (swap-first u m w e) ∙ sym e)
    (λ nu. ⊎_elim
    (λ e. swap-first u m (swap u m w) (swap-second u m w e) ∙ sym e)
    (λ nm. ap (swap u m) (swap-rest u m w nu nm) ∙ swap-rest u m w nu nm)
    (cases_eq w m))
    (cases_eq w u)
