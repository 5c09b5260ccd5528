-- The copies of a choice: which they are, that none stands twice, and the place of each.
use Rattle.std.proofs.Common.{ℕ, ◌≡◌, ◌≢◌, ◌<◌, ◌≤◌, ◌+◌, zero, suc, Bool, true, false, cond, eqb, List, []}
use Rattle.std.proofs.Common.{◌∷◌, ◌++◌, ◌⊎◌, inl, inr, ⊎_elim, length, get_or, map, refl, sym, ap, subst}
use Rattle.std.proofs.Common.{◌∙◌, arith, All, Contains, eq-eqb}
use Rattle.std.specs.Prelude.{◌&&◌}
use Rattle.std.proofs.lemmas.Bool.{cases_Bool, cond-true, cond-false, false≢true, eqb-true, and_parts}
use Rattle.std.proofs.lemmas.Bool.{and_from}
use Rattle.std.proofs.lemmas.List.Elements.{Contains-append_left, Contains-append_right}
use Rattle.std.proofs.lemmas.List.Elements.{Contains-append_cases, Contains-get_or}
use Rattle.tv_kleene.specs.declared.K3.{K3}
use Rattle.tv_kleene.specs.declared.K3.TheVariants.{No, Half, Yes}
use Rattle.tv_model.proofs.Lists.{Contains-here, Contains-there, Contains-none, Contains-cases, Contains-map}
use Rattle.tv_focus_laws.specs.Choices.{MemberForm, members, members_of}
use Rattle.tv_focus_laws.proofs.Membership.{ComesFrom, Contains-from_map}
use Rattle.tv_focus_laws.proofs.Distinct.{Distinct, Distinct-append, Distinct-map, Distinct-place}

-- ---- equality of vectors and of copies, as tests

abbrev pub same_kleene : K3 → K3 → Bool
same_kleene No No = true
same_kleene No Half = false
same_kleene No Yes = false
same_kleene Half No = false
same_kleene Half Half = true
same_kleene Half Yes = false
same_kleene Yes No = false
same_kleene Yes Half = false
same_kleene Yes Yes = true

kleene-same : (x y : K3) → same_kleene x y ≡ true → x ≡ y
kleene-same No No e = refl
kleene-same No Half e = absurd (false≢true e)
kleene-same No Yes e = absurd (false≢true e)
kleene-same Half No e = absurd (false≢true e)
kleene-same Half Half e = refl
kleene-same Half Yes e = absurd (false≢true e)
kleene-same Yes No e = absurd (false≢true e)
kleene-same Yes Half e = absurd (false≢true e)
kleene-same Yes Yes e = refl

kleene-own : (x : K3) → same_kleene x x ≡ true
kleene-own No = refl
kleene-own Half = refl
kleene-own Yes = refl

abbrev pub same_vector : List K3 → List K3 → Bool
same_vector [] [] = true
same_vector [] (y ∷ ys) = false
same_vector (x ∷ xs) [] = false
same_vector (x ∷ xs) (y ∷ ys) = same_kleene x y && same_vector xs ys

pub vector-same : (xs ys : List K3) → same_vector xs ys ≡ true → xs ≡ ys
vector-same [] [] e = refl
vector-same [] (y ∷ ys) e = absurd (false≢true e)
vector-same (x ∷ xs) [] e = absurd (false≢true e)
vector-same (x ∷ xs) (y ∷ ys) e =
    let parts : (same_kleene x y ≡ true) × (same_vector xs ys ≡ true) = and_parts (same_kleene x y) (same_vector xs ys) e
    in let first : x ≡ y = kleene-same x y parts.0
    in let rest : xs ≡ ys = vector-same xs ys parts.1
    in cc

pub vector-own : (xs : List K3) → same_vector xs xs ≡ true
vector-own [] = refl
vector-own (x ∷ xs) = and_from (same_kleene x x) (same_vector xs xs) (kleene-own x) (vector-own xs)

abbrev pub same_member : MemberForm → MemberForm → Bool
same_member m n = eqb m.origin n.origin && same_vector m.vector n.vector

member-same : (m n : MemberForm) → same_member m n ≡ true → m ≡ n
member-same m n e =
    let parts : (eqb m.origin n.origin ≡ true) × (same_vector m.vector n.vector ≡ true)
    = and_parts (eqb m.origin n.origin) (same_vector m.vector n.vector) e
    in let origins : m.origin ≡ n.origin = eqb-true m.origin n.origin parts.0
    in let vectors : m.vector ≡ n.vector = vector-same m.vector n.vector parts.1
    in ap (λ (u : ℕ). record { origin = u; vector = m.vector }) origins
    ∙ ap (λ (v : List K3). record { origin = n.origin; vector = v }) vectors

member-own : (m : MemberForm) → same_member m m ≡ true
member-own m = and_from (eqb m.origin m.origin) (same_vector m.vector m.vector) (eq-eqb m.origin m.origin refl) (vector-own m.vector)

-- ---- the place of a copy

abbrev pub place_of : MemberForm → List MemberForm → ℕ
place_of m [] = 0
place_of m (n ∷ ms) = cond (same_member m n) 0 (suc (place_of m ms))

pub record IsPlace (m : MemberForm) (ms : List MemberForm) (i : ℕ) (d : MemberForm) : Type 0 where
  pub inside : i < length ms
  pub is : get_or ms i d ≡ m

pub place-found : (m : MemberForm) (ms : List MemberForm) (d : MemberForm) → Contains ms m → IsPlace m ms (place_of m ms) d
place-found m [] d at = absurd (Contains-none m at)
place-found m (n ∷ ms) d at =
    let At : ℕ → Type 0 = λ i. IsPlace m (n ∷ ms) i d
    in ⊎_elim
    (λ e. subst At (sym (cond-true (same_member m n) 0 (suc (place_of m ms)) e))
    (record { inside = omega arith; is = sym (member-same m n e) }))
    (λ e. subst At (sym (cond-false (same_member m n) 0 (suc (place_of m ms)) e))
    (⊎_elim
    (λ here. let Own : MemberForm → Type 0 = λ k. same_member m k ≡ true
    in absurd (false≢true (sym e ∙ subst Own (sym here) (member-own m))))
    (λ there. let rest : IsPlace m ms (place_of m ms) d = place-found m ms d there
    in record { inside = omega (arith, rest.inside); is = rest.is })
    (Contains-cases n m ms at)))
    (cases_Bool (same_member m n))

-- ---- which copies there are

pub members-have : (set : ℕ → List (List K3)) (us : List ℕ) (u : ℕ) (v : List K3) → Contains us u → Contains (set u) v
    → Contains (members us (map set us)) (record { origin = u; vector = v })
members-have set [] u v at has = absurd (Contains-none u at)
members-have set (x ∷ us) u v at has =
    let Has : ℕ → Type 0 = λ y. Contains (members_of y (set y)) (record { origin = u; vector = v })
    in ⊎_elim
    (λ e. Contains-append_left (members_of x (set x)) (members us (map set us)) (record { origin = u; vector = v })
    (subst Has (sym e) (Contains-map (λ (w : List K3). record { origin = u; vector = w }) v (set u) has)))
    (λ there. Contains-append_right (members_of x (set x)) (members us (map set us)) (record { origin = u; vector = v })
    (members-have set us u v there has))
    (Contains-cases x u us at)

pub record IsMember (set : ℕ → List (List K3)) (us : List ℕ) (m : MemberForm) : Type 0 where
  pub individual : Contains us m.origin
  pub chosen : Contains (set m.origin) m.vector

pub members-are : (set : ℕ → List (List K3)) (us : List ℕ) (m : MemberForm) → Contains (members us (map set us)) m
    → IsMember set us m
members-are set [] m at = absurd (Contains-none m at)
members-are set (x ∷ us) m at =
    let Is : MemberForm → Type 0 = λ n. IsMember set (x ∷ us) n
    in ⊎_elim
    (λ first. let from : ComesFrom (λ (w : List K3). record { origin = x; vector = w }) (set x) m
    = Contains-from_map (λ (w : List K3). record { origin = x; vector = w }) m (set x) first
    in subst Is from.goes (record { individual = Contains-here x us; chosen = from.at }))
    (λ there. let rest : IsMember set us m = members-are set us m there
    in record { individual = Contains-there x m.origin us rest.individual; chosen = rest.chosen })
    (Contains-append_cases (members_of x (set x)) (members us (map set us)) m at)

pub members-distinct : (set : ℕ → List (List K3)) (us : List ℕ) → Distinct us → ((u : ℕ) → Distinct (set u))
    → Distinct (members us (map set us))
members-distinct set [] distinct each = tt
members-distinct set (x ∷ us) distinct each =
    Distinct-append (members_of x (set x)) (members us (map set us))
    (Distinct-map (λ (w : List K3). record { origin = x; vector = w }) (λ v w e. ap (λ (m : MemberForm). m.vector) e) (set x) (each x))
    (members-distinct set us distinct.1 each)
    (λ m first there. let from : ComesFrom (λ (w : List K3). record { origin = x; vector = w }) (set x) m
    = Contains-from_map (λ (w : List K3). record { origin = x; vector = w }) m (set x) first
    in let Has : ℕ → Type 0 = λ u. Contains us u
    in let same : m.origin ≡ x = ap (λ (n : MemberForm). n.origin) (sym from.goes)
    in distinct.0 (subst Has same (members-are set us m there).individual))
