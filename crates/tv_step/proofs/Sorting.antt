-- Structures that are sorted, and of which each is kept once.
use Rattle.std.proofs.Common.{◌≡◌, ◌∙◌, ◌↔◌, ◌<◌, true, List, [], ◌∷◌, length, arith, None, refl, sym, ap}
use Rattle.std.proofs.Common.{subst, All, Contains}
use Rattle.std.specs.Prelude.{Any}
use Rattle.std.specs.Cmp.{eq_by_cmp_equiv, Equal-is}
use Rattle.std.specs.Ordering.{eq_by_cmp}
use Rattle.std.specs.List.{dedup}
use Rattle.std.specs.List.Sorted.{IsPermutation, IsSorted, IsStrictlySortedBy}
use Rattle.std.specs.List.Retain.{IsFiltered, DiffersFromLast}
use Rattle.std.proofs.lemmas.List.Elements.{All-contains}
use Rattle.std.proofs.lemmas.List.Filters.{dedup_is}
use Rattle.std.proofs.lemmas.List.Kept.{Any-dedup, Contains-from_dedup, IsStrictlySortedBy-dedup}
use Rattle.std.proofs.lemmas.List.Sorted.{Contains-permutation, IsPermutation-sym}
use Rattle.tv_struct.specs.Order.{structure_cmp, structure_cmp_total}
use Rattle.tv_structure_form.specs.StructureForm.{StructureForm, unmarked}
use Rattle.tv_struct.proofs.OrderLaws.{structure_cmp-Equal}

-- structures without marks are equal where they compare as equal
same-unmarked : (s t : StructureForm) → s.fresh ≡ None → t.fresh ≡ None
    → eq_by_cmp structure_cmp s t ≡ true → t ≡ s
same-unmarked s t no_mark none equal =
    let as_it_is : (u : StructureForm) → u.fresh ≡ None → u ≡ unmarked u
    = λ u is. ap (λ fresh. record u { fresh = fresh }) is
    in as_it_is t none ∙ sym (structure_cmp-Equal s t ((Equal-is (structure_cmp s t)).0 equal))
    ∙ sym (as_it_is s no_mark)

-- one structure alone is in order
pub few-sorted : (xs : List StructureForm) → length xs < 2 → IsStrictlySortedBy structure_cmp xs
unfolding IsStrictlySortedBy
few-sorted [] few = tt
few-sorted (x ∷ []) few = (tt, tt)
few-sorted (x ∷ y ∷ rest) few = absurd (omega (arith, few))

pub sorted-members : (xs ys zs : List StructureForm) → IsPermutation xs ys
    → IsFiltered (DiffersFromLast (eq_by_cmp structure_cmp)) [] ys zs → All (λ s. s.fresh ≡ None) xs
    → (t : StructureForm) → Contains zs t ↔ Contains xs t
sorted-members xs ys zs moved kept none t = (from, to)
  where
    is : zs ≡ dedup (eq_by_cmp structure_cmp) ys
    is = dedup_is (eq_by_cmp structure_cmp) ys zs kept

    back : (u : StructureForm) → Contains zs u → Contains xs u
    back u at =
        Contains-permutation ys xs u (IsPermutation-sym xs ys moved)
        (Contains-from_dedup (eq_by_cmp structure_cmp) ys u (subst (λ us. Contains us u) is at))

    from : Contains zs t → Contains xs t
    from at = back t at

    to : Contains xs t → Contains zs t
    to at =
        let found : Any (λ u. eq_by_cmp structure_cmp t u ≡ true) zs
        = subst (Any (λ u. eq_by_cmp structure_cmp t u ≡ true)) (sym is)
        (Any-dedup (eq_by_cmp_equiv structure_cmp_total) ys t (Contains-permutation xs ys t moved at))
        in let there : Contains zs found.1 = (found.0, found.2, found.3)
        in let same : found.1 ≡ t
        = same-unmarked t found.1 (All-contains (λ s. s.fresh ≡ None) xs t none at)
        (All-contains (λ s. s.fresh ≡ None) xs found.1 none (back found.1 there)) found.4
        in subst (Contains zs) same there

pub strictly-sorted : (ys zs : List StructureForm) → IsSorted structure_cmp ys
    → IsFiltered (DiffersFromLast (eq_by_cmp structure_cmp)) [] ys zs → IsStrictlySortedBy structure_cmp zs
strictly-sorted ys zs sorted kept =
    subst (IsStrictlySortedBy structure_cmp) (sym (dedup_is (eq_by_cmp structure_cmp) ys zs kept))
    (IsStrictlySortedBy-dedup structure_cmp_total (λ x y. refl) ys sorted)
