-- Values that differ: of one alone, of the first of several, and of one behind it.
use Rattle.std.proofs.Common.{ℕ, suc, ◌≡◌, ◌≢◌, ◌≤◌, List, [], ◌∷◌, length, get_or, refl, sym, subst}
use Rattle.std.proofs.Common.{◌∙◌, arith}
use Rattle.std.specs.Prelude.{Any}
use Rattle.std.specs.List.{between}
use Rattle.std.proofs.lemmas.Slice.{first_rest}
use Rattle.tv_kleene.specs.declared.K3.{K3}
use Rattle.tv_kleene.specs.declared.K3.TheVariants.{No, Half}
use Rattle.tv_structure_form.specs.StructureForm.{StructureForm, value_at}
use Rattle.tv_focus_laws.specs.Choices.{Alone}
use Rattle.tv_focus_laws.specs.Written.{vector_writes}
use Rattle.tv_focus_step_laws.specs.Above.{IsOther}
use Rattle.tv_focus_walk.specs.Walk.{HasOther}

any-here : {X : Type 0} (P : X → Type 0) (x : X) (xs : List X) → P x → Any P (x ∷ xs)
any-here P x xs holds = (0, x, omega arith, refl, holds)

any-there : {X : Type 0} (P : X → Type 0) (x : X) (xs : List X) → Any P xs → Any P (x ∷ xs)
any-there P x xs (k, y, lt, is, holds) = (suc k, y, omega (arith, lt), is, holds)

-- both values are definite, and not the same
other-value : (c : StructureForm) (pred : ℕ) (tuple : List ℕ) (k x : K3) → k ≡ value_at c pred tuple → k ≢ Half
    → x ≢ Half → k ≢ x → IsOther c pred (record { tuple = tuple; value = x })
other-value c pred tuple k x is known definite other = record {
  known = λ half. known (is ∙ half);
  definite = definite;
  other = λ same. other (is ∙ same);
}

pub alone-apart : (c : StructureForm) (pred u : ℕ) (vector : List K3) (k x : K3) → k ≡ value_at c pred (u ∷ [])
    → x ≡ get_or vector 0 No → k ≢ Half → x ≢ Half → k ≢ x → HasOther c pred Alone u vector
alone-apart c pred u vector k x is first known definite other =
    subst (λ y. Any (IsOther c pred) (record { tuple = u ∷ []; value = y } ∷ [])) first
    (any-here (IsOther c pred) (record { tuple = u ∷ []; value = x }) []
    (other-value c pred (u ∷ []) k x is known definite other))

-- of the first pair
pub first-apart : (c : StructureForm) (pred : ℕ) (tuple : ℕ → List ℕ) (anchors : List ℕ) (vector : List K3) (k : K3)
    (d : ℕ) (e : K3) → 1 ≤ length anchors → 1 ≤ length vector → k ≡ value_at c pred (tuple (get_or anchors 0 d))
    → k ≢ Half → get_or vector 0 e ≢ Half → k ≢ get_or vector 0 e
    → Any (IsOther c pred) (vector_writes tuple anchors vector)
first-apart c pred tuple anchors vector k d e some_anchors some_values is known definite other =
    subst (λ us. Any (IsOther c pred) (vector_writes tuple us vector)) (sym (first_rest anchors d (omega (arith, some_anchors))))
    (subst (λ xs. Any (IsOther c pred)
    (vector_writes tuple (get_or anchors 0 d ∷ between 1 (length anchors) anchors) xs))
    (sym (first_rest vector e (omega (arith, some_values))))
    (any-here (IsOther c pred) (record { tuple = tuple (get_or anchors 0 d); value = get_or vector 0 e })
    (vector_writes tuple (between 1 (length anchors) anchors) (between 1 (length vector) vector))
    (other-value c pred (tuple (get_or anchors 0 d)) k (get_or vector 0 e) is known definite other)))

-- of a pair behind the first
pub later-apart : (c : StructureForm) (pred : ℕ) (tuple : ℕ → List ℕ) (anchors : List ℕ) (vector : List K3)
    (d : ℕ) (e : K3) → 1 ≤ length anchors → 1 ≤ length vector
    → Any (IsOther c pred)
    (vector_writes tuple (between 1 (length anchors) anchors) (between 1 (length vector) vector))
    → Any (IsOther c pred) (vector_writes tuple anchors vector)
later-apart c pred tuple anchors vector d e some_anchors some_values later =
    subst (λ us. Any (IsOther c pred) (vector_writes tuple us vector)) (sym (first_rest anchors d (omega (arith, some_anchors))))
    (subst (λ xs. Any (IsOther c pred)
    (vector_writes tuple (get_or anchors 0 d ∷ between 1 (length anchors) anchors) xs))
    (sym (first_rest vector e (omega (arith, some_values))))
    (any-there (IsOther c pred) (record { tuple = tuple (get_or anchors 0 d); value = get_or vector 0 e })
    (vector_writes tuple (between 1 (length anchors) anchors) (between 1 (length vector) vector)) later))
