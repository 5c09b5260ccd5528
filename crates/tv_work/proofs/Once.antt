-- Structures of which none stands twice.
use Rattle.std.proofs.Common.{ℕ, ◌≡◌, ◌≢◌, ◌<◌, ◌≤◌, ◌+◌, suc, Bool, true, false, true≢false, List, [], ◌∷◌}
use Rattle.std.proofs.Common.{◌++◌, length, get_or, take, refl, sym, ap, ◌∙◌, arith, if◌then◌else◌}
use Rattle.std.specs.Prelude.{AllPairs, sum_by, IsPermutation, IsSorted}
use Rattle.std.specs.List.Sorted.{IsStrictlySortedBy}
use Rattle.std.specs.Ordering.{is_eq, is_lt, ordering_reverse}
use Rattle.std.specs.declared.cmp.Ordering.{Ordering}
use Rattle.std.specs.declared.cmp.Ordering.TheVariants.{Less, Equal, Greater}
use Rattle.std.proofs.lemmas.List.{get_or-take, length-take-le}
use Rattle.std.proofs.lemmas.List.Elements.{recursion_from_All}
use Rattle.std.proofs.lemmas.List.Sums.{sum_by_push, sum_by-cons, get_or-le-sum_by, sum_by_more_le}
use Rattle.std.proofs.lemmas.List.Sorted.{sum_by-IsPermutation, sorted_far, ranks_by}
use Rattle.tv_listing.specs.ListingForm.{HasEqual}
use Rattle.tv_struct.specs.Order.{structure_cmp, structure_cmp_total}
use Rattle.tv_structure_form.specs.StructureForm.{StructureForm, unmarked}
use Rattle.tv_struct.proofs.OrderLaws.{structure_cmp-Equal, Equal-from_unmarked}
use Rattle.tv_work.specs.Search.{is_same, IsOnce}

-- two places of a list add at least their own terms
twice : {X : Type 0} (f : X → ℕ) (xs : List X) (i j : ℕ) (d : X) → i < j → j < length xs
    → f (get_or xs i d) + f (get_or xs j d) ≤ sum_by f xs
twice f xs i j d before within =
    let low : f (get_or (take j xs) i d) ≤ sum_by f (take j xs) = get_or-le-sum_by f (take j xs) i d
    (rw (length-take-le j xs (omega (arith, within))) before)
    in let here : f (get_or (take j xs) i d) ≡ f (get_or xs i d) = ap f (get_or-take j xs i d before)
    in omega (arith, low, here, sum_by_more_le f xs j d within)

same-self : (s t : StructureForm) → structure_cmp s t ≡ Equal → is_same t s ≡ 1
same-self s t e = rw e refl

-- no two places of structures that stand once have equal structures
pub once-apart : (xs : List StructureForm) → IsOnce xs → (i j : ℕ) (d : StructureForm) → i < j → j < length xs
    → structure_cmp (get_or xs i d) (get_or xs j d) ≢ Equal
once-apart xs once i j d before within e =
    let t : StructureForm = get_or xs j d
    in omega (
      arith,
      twice (is_same t) xs i j d before within,
      same-self (get_or xs i d) t e,
      same-self t t
          (Equal-from_unmarked t t refl),
      once t,
    )

-- so they differ
pub once-different : (xs : List StructureForm) → IsOnce xs → AllPairs (λ s t. s ≢ t) xs
once-different xs once i j d before within e =
    once-apart xs once i j d before within (Equal-from_unmarked (get_or xs i d) (get_or xs j d)
    (ap unmarked e))

pub once-none : IsOnce []
once-none t = omega arith

absent-sum : (xs : List StructureForm) (t : StructureForm) → ¬ HasEqual xs t → sum_by (is_same t) xs ≡ 0
absent-sum [] t absent = refl
absent-sum (x ∷ xs) t absent =
    omega (arith, sum_by-cons (is_same t) x xs, apart, absent-sum xs t (λ has. absent (there has)))
  where
    differs : structure_cmp x t ≢ Equal
    differs e = absent (0, x, omega arith, refl, structure_cmp-Equal x t e)

    none : (o : Ordering) → o ≢ Equal → is_eq o ≡ false
    none Less h = refl
    none Equal h = absurd (h refl)
    none Greater h = refl

    apart : is_same t x ≡ 0
    apart = rw (none (structure_cmp x t) differs) refl

    there : HasEqual xs t → HasEqual (x ∷ xs) t
    there (k, y, within, at, e) = (suc k, y, omega (arith, within), at, e)

is-same-most : (t s : StructureForm) → is_same t s ≤ 1
is-same-most t s = most (is_eq (structure_cmp s t)) (is_same t s) refl
  where
    most : (b : Bool) (n : ℕ) → n ≡ (if b then 1 else 0) → n ≤ 1
    most true n e = omega (arith, e)
    most false n e = omega (arith, e)

pub once-push : (xs : List StructureForm) (s : StructureForm) → IsOnce xs → ¬ HasEqual xs s
    → IsOnce (xs ++ s ∷ [])
once-push xs s once absent t = with-last (structure_cmp s t) refl
  where
    none-like : structure_cmp s t ≡ Equal → sum_by (is_same t) xs ≡ 0
    none-like e = absent-sum xs t (λ has. absent (like has))
      where
        like : HasEqual xs t → HasEqual xs s
        like (k, y, within, at, same) = (k, y, within, at, same ∙ sym (structure_cmp-Equal s t e))

    with-last : (o : Ordering) → structure_cmp s t ≡ o → sum_by (is_same t) (xs ++ s ∷ []) ≤ 1
    with-last Equal e = omega (arith, sum_by_push (is_same t) xs s, none-like e, is-same-most t s)
    with-last Less e = let none : is_same t s ≡ 0 = rw e refl in omega
        (arith, sum_by_push (is_same t) xs s, none, once t)
    with-last Greater e = let none : is_same t s ≡ 0 = rw e refl in omega
        (arith, sum_by_push (is_same t) xs s, none, once t)

-- what is sorted and stands once ascends strictly
pub once-strict : (xs : List StructureForm) → IsSorted structure_cmp xs → IsOnce xs
    → IsStrictlySortedBy structure_cmp xs
unfolding IsStrictlySortedBy
once-strict xs sorted once = strict xs apart
  where
    less : (o : Ordering) → o ≢ Equal → is_lt (ordering_reverse o) ≡ false → o ≡ Less
    less Less h down = refl
    less Equal h down = absurd (h refl)
    less Greater h down = absurd (true≢false down)

    apart : AllPairs (λ s t. structure_cmp s t ≡ Less) xs
    apart i j d before within =
        let far : is_lt (structure_cmp (get_or xs j d) (get_or xs i d)) ≡ false
        = sorted_far _ (ranks_by structure_cmp_total (λ a. a)) xs sorted i j d (omega (arith, before)) within
        in less (structure_cmp (get_or xs i d) (get_or xs j d)) (once-apart xs once i j d before within)
        (ap is_lt (sym (structure_cmp_total.antisymm (get_or xs j d) (get_or xs i d))) ∙ far)

    strict : (ys : List StructureForm) → AllPairs (λ s t. structure_cmp s t ≡ Less) ys
        → IsStrictlySortedBy structure_cmp ys
    strict [] pairs = tt
    strict (y ∷ ys) pairs = (
      recursion_from_All _ ys (λ k d within. pairs 0 (suc k) d (omega arith) (omega (arith, within))),
      strict ys (λ i j d before within. pairs (suc i) (suc j) d (omega (arith, before))
          (omega (arith, within))),
    )

pub once-permuted : (xs ys : List StructureForm) → IsPermutation xs ys → IsOnce xs → IsOnce ys
once-permuted xs ys permuted once t = omega (arith, sum_by-IsPermutation (is_same t) xs ys permuted, once t)
