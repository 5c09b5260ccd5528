-- Updates found in a list, and heaps compared.
use Rattle.std.proofs.Common.{ℕ, ◌≡◌, ◌<◌, ◌≤◌, ◌↔◌, ◌∙◌, List, [], ◌∷◌, length, get_or, map, Option, Some}
use Rattle.std.proofs.Common.{None, refl, sym, ap, subst, arith, suc, zero, eqb, eq-eqb, ne_eqb, All}
use Rattle.std.proofs.Common.{Contains, Bool, IsTrue, false}
use Rattle.std.proofs.lemmas.Bool.{cond-true, cond-false, false≢true}
use Rattle.std.proofs.lemmas.List.Elements.{All-contains}
use Rattle.tv_model.proofs.Lists.{All-from_contains}
use Rattle.tv_concrete.proofs.TupleLists.{tuple-fits, tuple-found}
use Rattle.tv_concrete.specs.Tuples.{tuples_of}
use Rattle.tv_model.specs.declared.program.Update.{Update}
use Rattle.tv_model.specs.Program.{UpdateForm, update_of}
use Rattle.tv_model.specs.Step.{update_for}

-- none of the first i updates is of the predicate q
abbrev pub NoneOf : ℕ → List Update → ℕ → Type 0
NoneOf q updates i = (k : ℕ) (d : Update) → k < i → (get_or updates k d).pred.0 ≡ q → ⊥

pub update-first : (q : ℕ) (updates : List Update) (i : ℕ) (x : Update) → i < length updates → x ≡ get_or updates i x
    → NoneOf q updates i → x.pred.0 ≡ q → Some (update_of x) ≡ update_for q (map update_of updates)
update-first q [] i x below is before here = absurd (omega (arith, below))
update-first q (u ∷ updates) zero x below is before here =
    let same : u.pred.0 ≡ q = ap (λ y. y.pred.0) (sym is) ∙ here
    in ap (λ y. Some (update_of y)) is
    ∙ sym (cond-true (eqb u.pred.0 q) (Some (update_of u)) (update_for q (map update_of updates))
    (eq-eqb u.pred.0 q same))
update-first q (u ∷ updates) (suc i) x below is before here =
    let other : u.pred.0 ≡ q → ⊥ = before 0 u (omega arith)
    in update-first q updates i x (omega (arith, below)) is (λ k d less. before (suc k) d (omega (arith, less))) here
    ∙ sym (cond-false (eqb u.pred.0 q) (Some (update_of u)) (update_for q (map update_of updates))
    (ne_eqb u.pred.0 q other))

pub update-none : (q : ℕ) (updates : List Update) (i : ℕ) → length updates ≤ i → NoneOf q updates i
    → None ≡ update_for q (map update_of updates)
update-none q [] i done before = refl
update-none q (u ∷ updates) zero done before = absurd (omega (arith, done))
update-none q (u ∷ updates) (suc i) done before =
    let other : u.pred.0 ≡ q → ⊥ = before 0 u (omega arith)
    in update-none q updates i (omega (arith, done)) (λ k d less. before (suc k) d (omega (arith, less)))
    ∙ sym (cond-false (eqb u.pred.0 q) (Some (update_of u)) (update_for q (map update_of updates))
    (ne_eqb u.pred.0 q other))

-- exactly the kept individuals, from both sides
pub exactly-kept : (new middle : List ℕ) (keeps : ℕ → Type 0)
    → All (λ u. Contains middle u × keeps u) new → All (λ u. keeps u → Contains new u) middle
    → (u : ℕ) → Contains new u ↔ (Contains middle u × keeps u)
exactly-kept new middle keeps only all u = (
  λ at. All-contains (λ w. Contains middle w × keeps w) new u only at,
  λ both. All-contains (λ w. keeps w → Contains new w) middle u all both.0 both.1,
)

pub only-kept : (new middle : List ℕ) (keeps : ℕ → Type 0) → ((u : ℕ) → Contains new u ↔ (Contains middle u × keeps u))
    → All (λ u. Contains middle u × keeps u) new
only-kept new middle keeps exact = All-from_contains (λ u. Contains middle u × keeps u) new (λ u at. (exact u).0 at)

pub all-kept : (new middle : List ℕ) (keeps : ℕ → Type 0) → ((u : ℕ) → Contains new u ↔ (Contains middle u × keeps u))
    → All (λ u. keeps u → Contains new u) middle
all-kept new middle keeps exact = All-from_contains (λ u. keeps u → Contains new u) middle
    (λ u at kept. (exact u).1 (at, kept))

-- an answer at the update that was found
pub some-answer : {X : Type 0} (Q : X → Type 0) (x : X) (b : Bool) → IsTrue b ↔ Q x → IsTrue b
    ↔ ((w : X) → Some x ≡ Some w → Q w)
some-answer {X} Q x b answer =
    (λ t w e. let Of : X → Type 0 = λ y. Q y in subst Of (some-same x w e) (answer.0 t), λ each. answer.1 (each x refl))
  where
    some-same : (x w : X) → Some x ≡ Some w → x ≡ w
    some-same x w e = cc e

-- an answer on the enumerated tuples at the update that was found is one on all tuples
pub found-answer : (K : Type 0) (o : Option UpdateForm) (P : UpdateForm → List ℕ → Type 0) (xs : List ℕ) (n : ℕ)
    (all : List (List ℕ)) (b : Bool)
    → all ≡ tuples_of xs n → K → IsTrue b ↔ ((w : UpdateForm) → o ≡ Some w → All (P w) all)
    → IsTrue b ↔ (K → (w : UpdateForm) → o ≡ Some w → (us : List ℕ) → (length us ≡ n) × All (Contains xs) us → P w us)
found-answer K o P xs n all b is k answer =
    let Of : UpdateForm → List (List ℕ) → Type 0 = λ w ts. All (P w) ts
    in (
      λ t k w found us fits. All-contains (P w) (tuples_of xs n) us (subst (Of w) is (answer.0 t w found))
          (tuple-found xs n us fits.0 fits.1),
      λ each. answer.1 (λ w found. subst (Of w) (sym is)
          (All-from_contains (P w) (tuples_of xs n) (λ us at. each k w found us (tuple-fits xs n us at)))),
    )

-- a test that answered false
pub refuted : (P : Type 0) (b : Bool) → b ≡ false → IsTrue b ↔ P → ¬ P
refuted P b is answer p = false≢true (sym is ∙ answer.1 p)
