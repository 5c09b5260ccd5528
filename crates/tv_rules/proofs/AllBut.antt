-- A list with x behind it: all of it but one stand where x takes that one's place.
use Rattle.std.proofs.Common.{ℕ, zero, suc, ◌≡◌, ◌≢◌, ◌<◌, ◌⊎◌, ◌↔◌, ◌∙◌, List, [], ◌∷◌, ◌++◌, length}
use Rattle.std.proofs.Common.{Some, slice_get, slice_set, Contains, inl, inr, refl, sym, ap, arith}
use Rattle.std.proofs.lemmas.Bool.{cases_eq}
use Rattle.std.proofs.lemmas.Option.{get_or_from_slice_get, slice_get-get_or, slice_get_within}

-- the elements of a list but the one at a number
abbrev pub OtherAt : {X : Type 0} → List X → ℕ → X → Type 0
OtherAt xs n f = (k : ℕ) × (k ≢ n) × (slice_get xs k ≡ Some f)

module _ {X : Type 0} where
  place-of : (xs : List X) (f : X) → Contains xs f → (k : ℕ) × (slice_get xs k ≡ Some f)
  place-of xs f there = (there.0, slice_get-get_or xs there.0 f there.1 ∙ ap Some there.2)

  pub contains-at : (xs : List X) (k : ℕ) (f : X) → slice_get xs k ≡ Some f → Contains xs f
  contains-at xs k f at = (k, slice_get_within xs k f at, get_or_from_slice_get xs k f f at)

  pub behind-all : (xs : List X) (x : X) → slice_get (xs ++ x ∷ []) (length xs) ≡ Some x
  behind-all [] x = refl
  behind-all (y ∷ xs) x = behind-all xs x

  pub before-all : (xs : List X) (x f : X) (k : ℕ) → slice_get xs k ≡ Some f → slice_get (xs ++ x ∷ []) k ≡ Some f
  before-all [] x f k at = absurd (cc at)
  before-all (y ∷ xs) x f zero at = at
  before-all (y ∷ xs) x f (suc k) at = before-all xs x f k at

  before-or-behind : (xs : List X) (x f : X) (k : ℕ) → slice_get (xs ++ x ∷ []) k ≡ Some f
      → (slice_get xs k ≡ Some f) ⊎ ((k ≡ length xs) × (x ≡ f))
  before-or-behind [] x f zero at = inr (refl, cc at)
  before-or-behind [] x f (suc k) at = absurd (cc at)
  before-or-behind (y ∷ xs) x f zero at = inl at
  before-or-behind (y ∷ xs) x f (suc k) at = later (before-or-behind xs x f k at)
    where
      later : (slice_get xs k ≡ Some f) ⊎ ((k ≡ length xs) × (x ≡ f))
          → (slice_get xs k ≡ Some f) ⊎ ((suc k ≡ suc (length xs)) × (x ≡ f))
      later (inl before) = inl before
      later (inr behind) = inr (ap suc behind.0, behind.1)

  pub but-last : (xs : List X) (x f : X) → Contains xs f ↔ OtherAt (xs ++ x ∷ []) (length xs) f
  but-last xs x f = (
    λ there. let at : (k : ℕ) × (slice_get xs k ≡ Some f) = place-of xs f there
        in (at.0, λ same. absurd (omega (arith, slice_get_within xs at.0 f at.1, same)), before-all xs x f at.0 at.1),
    λ other. back other (before-or-behind xs x f other.0 other.2),
  )
    where
      back : (other : OtherAt (xs ++ x ∷ []) (length xs) f)
          → (slice_get xs other.0 ≡ Some f) ⊎ ((other.0 ≡ length xs) × (x ≡ f)) → Contains xs f
      back other (inl before) = contains-at xs other.0 f before
      back other (inr behind) = absurd (other.1 behind.0)

  set-here : (xs : List X) (n : ℕ) (x : X) → n < length xs → slice_get (slice_set xs n x) n ≡ Some x
  set-here [] n x below = absurd (omega (arith, below))
  set-here (y ∷ xs) zero x below = refl
  set-here (y ∷ xs) (suc n) x below = set-here xs n x (omega (arith, below))

  set-other : (xs : List X) (n k : ℕ) (x : X) → k ≢ n → slice_get (slice_set xs n x) k ≡ slice_get xs k
  set-other [] n k x apart = refl
  set-other (y ∷ xs) zero zero x apart = absurd (apart refl)
  set-other (y ∷ xs) zero (suc k) x apart = refl
  set-other (y ∷ xs) (suc n) zero x apart = refl
  set-other (y ∷ xs) (suc n) (suc k) x apart = set-other xs n k x (λ same. apart (ap suc same))

  pub but-set : (xs : List X) (n : ℕ) (x f : X) → n < length xs → Contains (slice_set xs n x) f ↔ OtherAt (xs ++ x ∷ []) n f
  but-set xs n x f below = (
    λ there. let at : (k : ℕ) × (slice_get (slice_set xs n x) k ≡ Some f) = place-of (slice_set xs n x) f there
        in out at.0 at.1 (cases_eq at.0 n),
    λ other. back other (before-or-behind xs x f other.0 other.2),
  )
    where
      out : (k : ℕ) → slice_get (slice_set xs n x) k ≡ Some f → (k ≡ n) ⊎ (k ≢ n) → OtherAt (xs ++ x ∷ []) n f
      out k at (inl same) =
          let is : x ≡ f = cc (set-here xs n x below, ap (slice_get (slice_set xs n x)) same, at)
          in (length xs, λ whole. absurd (omega (arith, below, whole)), behind-all xs x ∙ ap Some is)
      out k at (inr apart) = (k, apart, before-all xs x f k (sym (set-other xs n k x apart) ∙ at))

      back : (other : OtherAt (xs ++ x ∷ []) n f)
          → (slice_get xs other.0 ≡ Some f) ⊎ ((other.0 ≡ length xs) × (x ≡ f)) → Contains (slice_set xs n x) f
      back other (inl before) =
          contains-at (slice_set xs n x) other.0 f (set-other xs n other.0 x other.1 ∙ before)
      back other (inr behind) = contains-at (slice_set xs n x) n f (set-here xs n x below ∙ ap Some behind.1)
