-- What holds of all of a list, what stands at its places, and what maps and ranges have there.
use Rattle.std.proofs.Common.{ℕ, zero, suc, ◌≡◌, ◌≢◌, ◌<◌, ◌+◌, ◌∙◌, ◌⊎◌, inl, inr, List, [], ◌∷◌, ◌++◌}
use Rattle.std.proofs.Common.{length, map, not, cond, Bool, Some, refl, sym, ap, subst, arith, All, Contains}
use Rattle.std.proofs.Common.{slice_get, take, drop, get_or, true, ◌≤◌, add-one, append_assoc, append-nil}
use Rattle.std.specs.Prelude.{◌==◌}
use Rattle.std.specs.List.{flat_map, list_all, range_with_len, AllPairs, position, position_or_len}
use Rattle.std.proofs.lemmas.Bool.{and_from, and_parts, eqb-true}
use Rattle.std.proofs.lemmas.List.{drop_more, length-map, map-append, map-id, length-set, get_or-set_same}
use Rattle.std.proofs.lemmas.List.{nil_from_length}
use Rattle.std.proofs.Math.ListN.{set}
use Rattle.std.proofs.Math.Seq.{take-suc}
use Rattle.std.proofs.lemmas.List.Elements.{All-nil, All-cons, All-head, All-map, All-tail, All-append}
use Rattle.std.proofs.lemmas.List.FromFn.{map-range_with_len_more, length-range_with_len}
use Rattle.std.proofs.lemmas.List.FromFn.{get_or-range_with_len}
use Rattle.std.proofs.lemmas.Option.{get_or_from_slice_get, slice_get-get_or, slice_get_within}

-- ---- what holds of all

pub All-found : {X : Type 0} (P : X → Type 0) (xs : List X) (q : ℕ) (d : X) → All P xs → slice_get xs q ≡ Some d → P d
All-found P [] q d all found = absurd (cc)
All-found P (x ∷ xs) zero d all found = let same : x ≡ d = cc in subst P same (All-head P x xs all)
All-found P (x ∷ xs) (suc q) d all found = All-found P xs q d (All-tail P x xs all) found

pub All-mapped : {X Y : Type 0} (P : Y → Type 0) (f : X → Y) (xs : List X) → All P (map f xs) → All (λ x. P (f x)) xs
All-mapped P f [] all = All-nil (λ x. P (f x))
All-mapped P f (x ∷ xs) all =
    All-cons (λ y. P (f y)) x xs (All-head P (f x) (map f xs) all)
    (All-mapped P f xs (All-tail P (f x) (map f xs) all))

pub All-flat_map : {X Y : Type 0} (P : Y → Type 0) (f : X → List Y) (xs : List X) → All (λ x. All P (f x)) xs
    → All P (flat_map f xs)
All-flat_map P f [] all = All-nil P
All-flat_map P f (x ∷ xs) all =
    All-append P (f x) (flat_map f xs) (All-head (λ y. All P (f y)) x xs all)
    (All-flat_map P f xs (All-tail (λ y. All P (f y)) x xs all))

pub All-left : {X : Type 0} (P : X → Type 0) (xs ys : List X) → All P (xs ++ ys) → All P xs
All-left P [] ys all = All-nil P
All-left P (x ∷ xs) ys all =
    All-cons P x xs (All-head P x (xs ++ ys) all) (All-left P xs ys (All-tail P x (xs ++ ys) all))

pub All-right : {X : Type 0} (P : X → Type 0) (xs ys : List X) → All P (xs ++ ys) → All P ys
All-right P [] ys all = all
All-right P (x ∷ xs) ys all = All-right P xs ys (All-tail P x (xs ++ ys) all)

pub All-map_into : (f : ℕ → ℕ) (us ws tuple : List ℕ) → ((u : ℕ) → Contains us u → Contains ws (f u)) → All (Contains us) tuple
    → All (Contains ws) (map f tuple)
All-map_into f us ws tuple into all =
    All-map (Contains ws) f tuple (λ k d lt. into (get_or tuple k d) (all k d lt))

pub list_all-weaker : (p q : ℕ → Bool) → ((x : ℕ) → p x ≡ true → q x ≡ true) → (xs : List ℕ) → list_all p xs ≡ true
    → list_all q xs ≡ true
list_all-weaker p q step [] all = refl
list_all-weaker p q step (x ∷ xs) all =
    let both = and_parts (p x) (list_all p xs) all
    in and_from (q x) (list_all q xs) (step x both.0) (list_all-weaker p q step xs both.1)

-- ---- what stands at a place

pub some_at : {X : Type 0} (xs : List X) (i : ℕ) → i < length xs → (x : X) × (slice_get xs i ≡ Some x)
some_at [] i lt = absurd (omega arith)
some_at (x ∷ xs) zero lt = (x, refl)
some_at (x ∷ xs) (suc i) lt = some_at xs i (omega arith)

pub found_at : {X : Type 0} (xs : List X) (x : X) → Contains xs x → (i : ℕ) × (slice_get xs i ≡ Some x)
found_at xs x (i, lt, at) = (i, slice_get-get_or xs i x lt ∙ ap Some at)

pub pushed_at : {X : Type 0} (xs : List X) (y x : X) (i : ℕ) → slice_get (xs ++ y ∷ []) i ≡ Some x
    → (slice_get xs i ≡ Some x) ⊎ ((i ≡ length xs) × (y ≡ x))
pushed_at [] y x zero at = inr (refl, cc at)
pushed_at [] y x (suc i) at = absurd (cc at)
pushed_at (z ∷ xs) y x zero at = inl at
pushed_at (z ∷ xs) y x (suc i) at = later (pushed_at xs y x i at)
  where
    later : (slice_get xs i ≡ Some x) ⊎ ((i ≡ length xs) × (y ≡ x))
        → (slice_get xs i ≡ Some x) ⊎ ((suc i ≡ suc (length xs)) × (y ≡ x))
    later (inl earlier) = inl earlier
    later (inr (last, same)) = inr (ap suc last, same)

-- what stands in the first part stands in the whole
pub still_at : {X : Type 0} (xs ys : List X) (i : ℕ) (x : X) → slice_get xs i ≡ Some x → slice_get (xs ++ ys) i ≡ Some x
still_at [] ys i x at = absurd (cc at)
still_at (z ∷ xs) ys zero x at = at
still_at (z ∷ xs) ys (suc i) x at = still_at xs ys i x at

pub pushed_there : {X : Type 0} (xs : List X) (x : X) → slice_get (xs ++ x ∷ []) (length xs) ≡ Some x
pushed_there [] x = refl
pushed_there (z ∷ xs) x = pushed_there xs x

pub drop_there : {X : Type 0} (xs : List X) (i : ℕ) (x : X) → slice_get xs i ≡ Some x → drop i xs ≡ x ∷ drop (i + 1) xs
drop_there xs i x at =
    drop_more xs i x (slice_get_within xs i x at)
    ∙ ap (λ y. y ∷ drop (i + 1) xs) (get_or_from_slice_get xs i x x at)

pub set_there : {X : Type 0} (xs : List X) (place : ℕ) (y : X) → place < length xs
    → slice_get (set xs place y) place ≡ Some y
set_there xs place y within =
    slice_get-get_or (set xs place y) place y (omega (arith, within, length-set xs place y))
    ∙ ap Some (get_or-set_same xs place y y within)

-- ---- parts of lists

pub none_left : {X : Type 0} (xs : List X) → (length xs == 0) ≡ true → xs ≡ []
none_left xs none = nil_from_length xs (eqb-true (length xs) 0 none)

pub nothing_added : {X : Type 0} (xs : List X) → xs ≡ xs ++ []
nothing_added xs = sym (append-nil xs)

pub two_behind : {X : Type 0} (old mid new xs ys : List X) → mid ≡ old ++ xs → new ≡ mid ++ ys → new ≡ old ++ (xs ++ ys)
two_behind old mid new xs ys before is = is ∙ ap (λ zs. zs ++ ys) before ∙ append_assoc old xs ys

pub map_next : {X Y : Type 0} (f : X → Y) (xs : List X) (i : ℕ) (x : X) → i < length xs → x ≡ get_or xs i x
    → map f (take (i + 1) xs) ≡ map f (take i xs) ++ f x ∷ []
map_next f xs i x lt is = rw (add-one, take-suc xs i x lt, ← is) (map-append f (take i xs) (x ∷ []))

-- ---- positions

position_or_len-map : {X Y : Type 0} (f : X → Y) (p : Y → Bool) (xs : List X)
    → position_or_len p (map f xs) ≡ position_or_len (λ x. p (f x)) xs
position_or_len-map f p [] = refl
position_or_len-map f p (x ∷ xs) = ap (λ n. cond (not (p (f x))) (1 + n) 0) (position_or_len-map f p xs)

pub position-map : {X Y : Type 0} (f : X → Y) (p : Y → Bool) (xs : List X)
    → position p (map f xs) ≡ position (λ x. p (f x)) xs
position-map f p xs = rw (position_or_len-map f p xs, length-map xs f) refl

-- ---- ranges

pub map_range_more : {X : Type 0} (f : ℕ → X) (n : ℕ)
    → map f (range_with_len 0 (n + 1)) ≡ map f (range_with_len 0 n) ++ f n ∷ []
map_range_more f n = map-range_with_len_more f 0 n n (omega arith)

pub range_more : (a n : ℕ) → range_with_len a (n + 1) ≡ range_with_len a n ++ (a + n) ∷ []
range_more a n =
    sym (map-id _) ∙ map-range_with_len_more (λ u. u) a n (a + n) refl ∙ ap (λ us. us ++ (a + n) ∷ []) (map-id _)

pub in_range : (n u : ℕ) → u < n → Contains (range_with_len 0 n) u
in_range n u lt = (u, rw (length-range_with_len 0 n) lt, get_or-range_with_len 0 n u u lt ∙ omega arith)

pub range_below : (a n u : ℕ) → Contains (range_with_len a n) u → u < a + n
range_below a n u (k, lt, at) =
    let within : k < n = rw (← length-range_with_len a n) lt
    in let same : u ≡ a + k = sym at ∙ get_or-range_with_len a n k u within
    in omega arith

pub range_differs : (n : ℕ) → AllPairs ◌≢◌ (range_with_len 0 n)
range_differs n i j d lt within same =
    let top : j < n = rw (← length-range_with_len 0 n) within
    in let a = get_or-range_with_len 0 n i d (omega (arith, lt, top))
    in let b = get_or-range_with_len 0 n j d top
    in omega (arith, lt, sym a ∙ same ∙ b)

-- what agrees at each number of a range
pub flat_map-range : {X : Type 0} (f g : ℕ → List X) (a n : ℕ) → ((k : ℕ) → a ≤ k → k < a + n → f k ≡ g k)
    → flat_map f (range_with_len a n) ≡ flat_map g (range_with_len a n)
flat_map-range f g a zero same = refl
flat_map-range f g a (suc n) same = λ i. same a (omega arith) (omega arith) i
    ++ flat_map-range f g (a + 1) n (λ k low less. same k (omega (arith, low)) (omega (arith, less))) i
