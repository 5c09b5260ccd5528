-- A place is noted among others.
use Rattle.std.proofs.Common.{ℕ, ◌≡◌, ◌<◌, ◌⊎◌, ◌∙◌, zero, suc, inl, inr, Bool, true, false, true≢false, List}
use Rattle.std.proofs.Common.{[], ◌∷◌, refl, sym, ap, subst, arith}
use Rattle.std.specs.Prelude.{Any, Contains, MatchBool}
use Rattle.std.specs.List.{list_any}
use Rattle.std.specs.BTreeSet.{insert_key}
use Rattle.std.specs.declared.cmp.Ordering.{Ordering}
use Rattle.std.specs.declared.cmp.Ordering.TheVariants.{Less, Equal, Greater}
use Rattle.std.specs.Ordering.{MatchOrdering, match_ordering, is_eq, nat_cmp, ordering_then}
use Rattle.std.proofs.lemmas.Cmp.{nat_cmp_total, ranked, tied_itself}
use Rattle.std.proofs.lemmas.List.Folds.{Any-from_list_any, list_any-from_Any}
use Rattle.tv_lemmas.proofs.Orderings.{then_equal}
use Rattle.tv_model.proofs.Lists.{Contains-here}
use Rattle.tv_join.specs.Places.{Notes}
use Rattle.tv_join.specs.declared.places.Place.{Place}

-- ---- the first element and those behind it

pub contains-behind : {X : Type 0} (x : X) (xs : List X) (y : X) → Contains xs y → Contains (x ∷ xs) y
contains-behind x xs y (k, lt, at) = (suc k, omega (arith, lt), at)

pub contains-cases : {X : Type 0} (x : X) (xs : List X) (y : X) → Contains (x ∷ xs) y → (x ≡ y) ⊎ Contains xs y
contains-cases x xs y (zero, lt, at) = inl at
contains-cases x xs y (suc k, lt, at) = inr (k, omega (arith, lt), at)

-- ---- a key is put among others

module _ {K : Type 0} (cmp : K → K → Ordering) (k : K) where
  inserted-has : ((x : K) → cmp k x ≡ Equal → x ≡ k) → (ks : List K) → Contains (insert_key cmp ks k) k
  inserted-has exact [] = Contains-here k []
  inserted-has exact (x ∷ xs) = by (cmp k x) refl (inserted-has exact xs)
    where
      by : (r : Ordering) → cmp k x ≡ r → Contains (insert_key cmp xs k) k
          → Contains (match_ordering r (k ∷ x ∷ xs) (x ∷ xs) (x ∷ insert_key cmp xs k)) k
      by Less e h = Contains-here k (x ∷ xs)
      by Equal e h = subst (Contains (x ∷ xs)) (exact x e) (Contains-here x xs)
      by Greater e h = contains-behind x (insert_key cmp xs k) k h

  inserted-keeps : (ks : List K) (y : K) → Contains ks y → Contains (insert_key cmp ks k) y
  inserted-keeps [] y has = contains-behind k [] y has
  inserted-keeps (x ∷ xs) y has = by (cmp k x) (inserted-keeps xs y)
    where
      behind : (Contains xs y → Contains (insert_key cmp xs k) y) → (x ≡ y) ⊎ Contains xs y
          → Contains (x ∷ insert_key cmp xs k) y
      behind h (inl e) = subst (Contains (x ∷ insert_key cmp xs k)) e (Contains-here x (insert_key cmp xs k))
      behind h (inr rest) = contains-behind x (insert_key cmp xs k) y (h rest)

      by : (r : Ordering) → (Contains xs y → Contains (insert_key cmp xs k) y)
          → Contains (match_ordering r (k ∷ x ∷ xs) (x ∷ xs) (x ∷ insert_key cmp xs k)) y
      by Less h = contains-behind k (x ∷ xs) y has
      by Equal h = has
      by Greater h = behind h (contains-cases x xs y has)

  inserted-only : (ks : List K) (y : K) → Contains (insert_key cmp ks k) y → Contains ks y ⊎ (y ≡ k)
  inserted-only [] y has = by (contains-cases k [] y has)
    where
      by : (k ≡ y) ⊎ Contains [] y → Contains [] y ⊎ (y ≡ k)
      by (inl e) = inr (sym e)
      by (inr none) = inl none
  inserted-only (x ∷ xs) y has = by (cmp k x) has (inserted-only xs y)
    where
      first : (k ≡ y) ⊎ Contains (x ∷ xs) y → Contains (x ∷ xs) y ⊎ (y ≡ k)
      first (inl e) = inr (sym e)
      first (inr rest) = inl rest

      more : Contains xs y ⊎ (y ≡ k) → Contains (x ∷ xs) y ⊎ (y ≡ k)
      more (inl rest) = inl (contains-behind x xs y rest)
      more (inr e) = inr e

      behind : (Contains (insert_key cmp xs k) y → Contains xs y ⊎ (y ≡ k))
          → (x ≡ y) ⊎ Contains (insert_key cmp xs k) y → Contains (x ∷ xs) y ⊎ (y ≡ k)
      behind h (inl e) = inl (subst (Contains (x ∷ xs)) e (Contains-here x xs))
      behind h (inr rest) = more (h rest)

      by : (r : Ordering) → Contains (match_ordering r (k ∷ x ∷ xs) (x ∷ xs) (x ∷ insert_key cmp xs k)) y
          → (Contains (insert_key cmp xs k) y → Contains xs y ⊎ (y ≡ k)) → Contains (x ∷ xs) y ⊎ (y ≡ k)
      by Less among h = first (contains-cases k (x ∷ xs) y among)
      by Equal among h = inl among
      by Greater among h = behind h (contains-cases x (insert_key cmp xs k) y among)

-- ---- places

-- by node, and of one node by the place there
abbrev pub place_cmp : Place → Place → Ordering
place_cmp v w = ordering_then (nat_cmp v.node w.node) (nat_cmp v.at w.at)

nat-equal : (x y : ℕ) → nat_cmp x y ≡ Equal → x ≡ y
nat-equal x y e = subst (λ r. MatchOrdering r (x < y) (x ≡ y) (y < x)) e (ranked x y (nat_cmp x y) refl)

place-equal : (v w : Place) → place_cmp v w ≡ Equal → w ≡ v
place-equal v w e =
    let both = then_equal (nat_cmp v.node w.node) (nat_cmp v.at w.at) e
    in let node = nat-equal v.node w.node both.0
    in let at = nat-equal v.at w.at both.1
    in λ i. record { node = (sym node) i; at = (sym at) i }

same-place : (w : Place) → place_cmp w w ≡ Equal
same-place w = rw (tied_itself nat_cmp_total w.node, tied_itself nat_cmp_total w.at) refl

is-equal : (r : Ordering) → is_eq r ≡ true → r ≡ Equal
is-equal Less e = absurd (true≢false (sym e))
is-equal Equal e = refl
is-equal Greater e = absurd (true≢false (sym e))

-- a place is told to be among others where it is
pub has-noted : (places : List Place) (w : Place) (has : Bool) → has ≡ list_any (λ v. is_eq (place_cmp w v)) places
    → MatchBool has (Contains places w) (¬ Contains places w)
has-noted places w true e = by (Any-from_list_any (λ v. is_eq (place_cmp w v)) places (sym e))
  where
    by : Any (λ v. is_eq (place_cmp w v) ≡ true) places → Contains places w
    by (k, v, within, at, same) =
        subst (Contains places) (place-equal w v (is-equal (place_cmp w v) same)) (k, within, at)
has-noted places w false e = λ (k, within, at).
    true≢false (sym (list_any-from_Any (λ v. is_eq (place_cmp w v)) places
    (k, w, within, at, ap is_eq (same-place w))) ∙ sym e)

pub notes-inserted : (place : Place) (old new : List Place) → new ≡ insert_key place_cmp old place → Notes place old new
notes-inserted place old new e = subst (Notes place old) (sym e) (record {
  has = inserted-has place_cmp place (place-equal place) old;
  kept = λ w has. inserted-keeps place_cmp place old w has;
  only = λ w has. inserted-only place_cmp place old w has;
})
