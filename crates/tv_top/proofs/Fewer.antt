-- Different structures that are all listed are at most as many as are listed.
use Rattle.std.proofs.Common.{ℕ, ◌≡◌, ◌≢◌, ◌≤◌, ◌⊎◌, inl, inr, suc, List, [], ◌∷◌, length, refl, sym}
use Rattle.std.proofs.Common.{ap}
use Rattle.std.proofs.Common.{subst, ◌∙◌, arith}
use Rattle.std.specs.Prelude.{All, AllPairs, Contains, sum_by}
use Rattle.std.proofs.lemmas.List.Elements.{All-head, All-tail}
use Rattle.std.proofs.lemmas.List.Sums.{sum_by-cons}
use Rattle.tv_model.proofs.Lists.{Contains-cases, Contains-here, Contains-none, Contains-there}
use Rattle.tv_structure_form.specs.StructureForm.{StructureForm}
use Rattle.tv_work.specs.Reach.{AreMoreThan, IsListed, Point}

module _ {X : Type 0} where
  -- the rest has one element less, and each but this one
  abbrev IsWithout : List X → X → List X → Type 0
  IsWithout ys x rest =
      (suc (length rest) ≡ length ys) × ((z : X) → Contains ys z → (z ≡ x) ⊎ Contains rest z)

  without_first : (y x : X) (ys : List X) → y ≡ x → IsWithout (y ∷ ys) x ys
  without_first y x ys e = (refl, λ z there. by z (Contains-cases y z ys there))
    where
      by : (z : X) → (y ≡ z) ⊎ Contains ys z → (z ≡ x) ⊎ Contains ys z
      by z (inl f) = inl (sym f ∙ e)
      by z (inr later) = inr later

  without_later : (y x : X) (ys rest : List X) → IsWithout ys x rest → IsWithout (y ∷ ys) x (y ∷ rest)
  without_later y x ys rest is = (ap suc is.0, λ z there. by z (Contains-cases y z ys there))
    where
      kept : (z : X) → (z ≡ x) ⊎ Contains rest z → (z ≡ x) ⊎ Contains (y ∷ rest) z
      kept z (inl e) = inl e
      kept z (inr later) = inr (Contains-there y z rest later)

      by : (z : X) → (y ≡ z) ⊎ Contains ys z → (z ≡ x) ⊎ Contains (y ∷ rest) z
      by z (inl f) = inr (subst (Contains (y ∷ rest)) f (Contains-here y rest))
      by z (inr later) = kept z (is.1 z later)

  without : (ys : List X) (x : X) → Contains ys x → (rest : List X) × IsWithout ys x rest
  without [] x there = absurd (Contains-none x there)
  without (y ∷ ys) x there = by (without ys x) (Contains-cases y x ys there)
    where
      by : (Contains ys x → (rest : List X) × IsWithout ys x rest) → (y ≡ x) ⊎ Contains ys x
          → (rest : List X) × IsWithout (y ∷ ys) x rest
      by on (inl e) = (ys, without_first y x ys e)
      by on (inr later) = (y ∷ (on later).0, without_later y x ys (on later).0 (on later).1)

  differs : (x : X) (xs : List X) → AllPairs (λ a b. a ≢ b) (x ∷ xs) → (z : X) → Contains xs z → x ≢ z
  differs x xs all z at = subst (λ w. x ≢ w) at.2 (all 0 (suc at.0) z (omega arith) (omega (arith, at.1)))

  pub no_more : (xs ys : List X) → AllPairs (λ a b. a ≢ b) xs → ((z : X) → Contains xs z → Contains ys z)
      → length xs ≤ length ys
  no_more [] ys apart among = omega arith
  no_more (x ∷ xs) ys apart among =
      let other = without ys x (among x (Contains-here x xs)) in
      let rest : length xs ≤ length other.0
      = no_more xs other.0 (λ i j d lt within. apart (suc i) (suc j) d (omega (arith, lt)) (omega (arith, within)))
      (λ z there. still other.0 z there (other.1.1 z (among z (Contains-there x z xs there)))) in
      omega (arith, rest, other.1.0)
    where
      still : (rest : List X) (z : X) → Contains xs z → (z ≡ x) ⊎ Contains rest z → Contains rest z
      still rest z there (inl e) = absurd (differs x xs apart z there (sym e))
      still rest z there (inr kept) = kept

no_more_listed : (found listing : List (List StructureForm)) → All (AllPairs (λ s t. s ≢ t)) found
    → ((x : Point) → IsListed found x → IsListed listing x) → sum_by length found ≤ sum_by length listing
no_more_listed [] listing different listed = omega arith
no_more_listed (ss ∷ found) [] different listed =
    let first : length ss ≤ 0
    = no_more ss [] (All-head (AllPairs (λ s t. s ≢ t)) ss found different)
    (λ s there. listed (record { node = 0; structure = s }) there) in
    let rest : sum_by length found ≤ 0
    = no_more_listed found [] (All-tail (AllPairs (λ s t. s ≢ t)) ss found different)
    (λ x there. listed (record { node = suc x.node; structure = x.structure }) there) in
    omega (arith, first, rest, sum_by-cons length ss found)
no_more_listed (ss ∷ found) (ts ∷ listing) different listed =
    let first : length ss ≤ length ts
    = no_more ss ts (All-head (AllPairs (λ s t. s ≢ t)) ss found different)
    (λ s there. listed (record { node = 0; structure = s }) there) in
    let rest : sum_by length found ≤ sum_by length listing
    = no_more_listed found listing (All-tail (AllPairs (λ s t. s ≢ t)) ss found different)
    (λ x there. listed (record { node = suc x.node; structure = x.structure }) there) in
    omega (arith, first, rest, sum_by-cons length ss found, sum_by-cons length ts listing)

-- where at most so many are listed, there aren't more of them
pub not_more : (max : ℕ) (P : Point → Type 0) (listing : List (List StructureForm))
    → ((x : Point) → P x → IsListed listing x) → sum_by length listing ≤ max → ¬ AreMoreThan max P
not_more max P listing all within many =
    let fewer = no_more_listed many.found listing many.different (λ x there. all x (many.each x there)) in
    omega (arith, fewer, within, many.more)
