-- What orderings that are combined say.
use Rattle.std.proofs.Common.{◌≡◌, ◌≢◌, ℕ, List, refl, Less, Equal, Greater}
use Rattle.std.specs.Prelude.{IsTrue}
use Rattle.std.specs.declared.cmp.Ordering.{Ordering}
use Rattle.std.specs.Ordering.{ordering_then, is_le, nat_cmp}
use Rattle.std.specs.Cmp.Lexicographic.{slice_cmp, nat_list_cmp_total}
use Rattle.std.proofs.lemmas.Cmp.{tied_itself}

pub then_equal : (a b : Ordering) → ordering_then a b ≡ Equal → (a ≡ Equal) × (b ≡ Equal)
then_equal Less b e = (e, cc)
then_equal Equal b e = (refl, e)
then_equal Greater b e = (e, cc)

pub then_nothing : (o : Ordering) → ordering_then o Equal ≡ o
then_nothing Less = refl
then_nothing Equal = refl
then_nothing Greater = refl

pub then_decided : (a b : Ordering) → a ≢ Equal → ordering_then a b ≡ a
then_decided Less b ne = refl
then_decided Equal b ne = absurd (ne refl)
then_decided Greater b ne = refl

pub le_same : (xs ys : List ℕ) → xs ≡ ys → IsTrue (is_le (slice_cmp nat_cmp xs ys))
le_same xs ys e = rw e (rw (tied_itself nat_list_cmp_total ys) refl)
