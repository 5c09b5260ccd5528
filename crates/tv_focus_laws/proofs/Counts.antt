-- The numbers of vectors, sets and choices.
use Rattle.std.proofs.Common.{ℕ, ◌≡◌, ◌≢◌, ◌<◌, ◌≤◌, ◌+◌, ◌-◌, ◌*◌, ◌^◌, min, zero, suc, Bool, true, false}
use Rattle.std.proofs.Common.{cond, List, [], ◌∷◌, ◌++◌, ◌⊎◌, inl, inr, ⊎_elim, length, get_or, map, take}
use Rattle.std.proofs.Common.{sum, refl, sym, ap, subst, ◌∙◌, arith, All, Contains, length-append}
use Rattle.std.proofs.lemmas.List.{length-map}
use Rattle.std.proofs.lemmas.List.Sums.{sum_by-cons}
use Rattle.std.specs.Prelude.{fold}
use Rattle.std.specs.List.{flat_map}
use Rattle.std.proofs.lemmas.Bool.{cases_lt, cases_eq}
use Rattle.std.proofs.lemmas.Nat.{pow_pos}
use Rattle.std.proofs.Math.Nat.{pow-suc, suc-mul, mul_comm, mul_assoc, mul-le-mul_left, pow-le-pow_right}
use Rattle.std.proofs.lemmas.List.Elements.{Contains-append_left, Contains-append_right}
use Rattle.std.proofs.lemmas.List.Elements.{Contains-append_cases, Contains-get_or}
use Rattle.tv_kleene.specs.declared.K3.{K3}
use Rattle.tv_kleene.specs.declared.K3.TheVariants.{No, Half, Yes}
use Rattle.tv_embedding_laws.specs.LogicalStructure.{LogicalStructure}
use Rattle.tv_model.proofs.Lists.{Contains-here, Contains-there, Contains-none, Contains-cases, Contains-map}
use Rattle.tv_focus_laws.specs.Choices.{AimForm, aimed, definite, vectors, picks, picks_to, sets_of, product}
use Rattle.tv_focus_laws.specs.Choices.{sets_in, choices, members, members_of}
use Rattle.tv_focus_laws.specs.Counts.{halves, halves_at, set_count, multiplied, set_counts, choice_count}
use Rattle.tv_focus_laws.specs.Counts.{vector_count, largest_size, few_sets, few_choices, HasChoiceOf}
use Rattle.tv_focus_laws.specs.Counts.{AreCounted, HasFewHalves, FewChoicesHaveFewHalves, ChoicesAreCounted}
use Rattle.tv_focus_laws.proofs.Membership.{ComesFrom, Contains-from_map}
use Rattle.tv_focus_laws.proofs.Listed.{product-has, picks_to-has}

-- ---- vectors

pub vectors-count : (ks : List K3) → length (vectors ks) ≡ 2 ^ halves ks
vectors-count [] = refl
vectors-count (No ∷ ks) =
    let rest : length (vectors ks) ≡ 2 ^ halves ks = vectors-count ks
    in omega (arith, length-append (map (λ rest. No ∷ rest) (vectors ks)) [], length-map (vectors ks) (λ rest. No ∷ rest))
vectors-count (Half ∷ ks) =
    let rest : length (vectors ks) ≡ 2 ^ halves ks = vectors-count ks
    in omega (
      arith,
      pow-suc 2 (halves ks),
      length-append (map (λ rest. No ∷ rest) (vectors ks)) (map (λ rest. Yes ∷ rest) (vectors ks) ++ []),
      length-append (map (λ rest. Yes ∷ rest) (vectors ks)) [],
      length-map (vectors ks) (λ rest. No ∷ rest),
      length-map (vectors ks) (λ rest. Yes ∷ rest),
    )
vectors-count (Yes ∷ ks) =
    let rest : length (vectors ks) ≡ 2 ^ halves ks = vectors-count ks
    in omega (arith, length-append (map (λ rest. Yes ∷ rest) (vectors ks)) [], length-map (vectors ks) (λ rest. Yes ∷ rest))

-- ---- sublists

picks-cons : {X : Type 0} (n : ℕ) (x : X) (xs : List X)
    → length (picks (suc n) (x ∷ xs)) ≡ length (picks n xs) + length (picks (suc n) xs)
picks-cons n x xs =
    length-append (map (λ rest. x ∷ rest) (picks n xs)) (picks (suc n) xs)
    ∙ ap (λ k. k + length (picks (suc n) xs)) (length-map (picks n xs) (λ rest. x ∷ rest))

picks-past : {X : Type 0} (n : ℕ) (xs : List X) → length xs < n → length (picks n xs) ≡ 0
picks-past zero xs past = absurd (omega (arith, past))
picks-past (suc n) [] past = refl
picks-past (suc n) (x ∷ xs) past =
    let a : length (picks n xs) ≡ 0 = picks-past n xs (omega (arith, past))
    in let b : length (picks (suc n) xs) ≡ 0 = picks-past (suc n) xs (omega (arith, past))
    in omega (arith, picks-cons n x xs)

picks_to-suc : {X : Type 0} (n : ℕ) (xs : List X) → length (picks_to (suc n) xs) ≡ length (picks_to n xs) + length (picks (suc n) xs)
picks_to-suc n xs = length-append (picks_to n xs) (picks (suc n) xs)

picks_to-cons : {X : Type 0} (n : ℕ) (x : X) (xs : List X)
    → length (picks_to (suc n) (x ∷ xs)) ≡ length (picks_to (suc n) xs) + length (picks_to n xs) + 1
picks_to-cons zero x xs = omega (arith, picks_to-suc zero (x ∷ xs), picks_to-suc zero xs, picks-cons zero x xs)
picks_to-cons (suc n) x xs =
    let before : length (picks_to (suc n) (x ∷ xs)) ≡ length (picks_to (suc n) xs) + length (picks_to n xs) + 1 = picks_to-cons n x xs
    in omega (arith, picks_to-suc (suc n) (x ∷ xs), picks_to-suc (suc n) xs, picks_to-suc n xs, picks-cons (suc n) x xs)

picks_to-all : {X : Type 0} (xs : List X) → length (picks_to (length xs) xs) + 1 ≡ 2 ^ length xs
picks_to-all [] = refl
picks_to-all (x ∷ xs) =
    let rest : length (picks_to (length xs) xs) + 1 ≡ 2 ^ length xs = picks_to-all xs
    in omega (
      arith,
      picks_to-cons (length xs) x xs,
      picks_to-suc (length xs) xs,
      picks-past (suc (length xs)) xs (omega arith),
      pow-suc 2 (length xs),
    )

picks-one : {X : Type 0} (xs : List X) → length (picks 1 xs) ≡ length xs
picks-one [] = refl
picks-one (x ∷ xs) = let rest : length (picks 1 xs) ≡ length xs = picks-one xs in omega (arith, picks-cons zero x xs)

pub sets-count : (summary : Bool) (ks : List K3) → length (sets_of summary ks) ≡ set_count summary (halves ks)
sets-count false ks = picks-one (vectors ks) ∙ vectors-count ks
sets-count true ks =
    let all : length (picks_to (length (vectors ks)) (vectors ks)) + 1 ≡ 2 ^ length (vectors ks) = picks_to-all (vectors ks)
    in let power : 2 ^ length (vectors ks) ≡ 2 ^ (2 ^ halves ks) = ap (λ n. 2 ^ n) (vectors-count ks)
    in omega arith

-- ---- choices

flat_map-times : {X Y : Type 0} (f : X → List Y) (n : ℕ) → ((x : X) → length (f x) ≡ n) → (xs : List X)
    → length (flat_map f xs) ≡ length xs * n
flat_map-times f n each [] = omega arith
flat_map-times f n each (x ∷ xs) =
    let rest : length (flat_map f xs) ≡ length xs * n = flat_map-times f n each xs
    in omega (arith, length-append (f x) (flat_map f xs), each x, suc-mul (length xs) n)

product-count : {T X : Type 0} (all : T → List X) (count : T → ℕ) → ((t : T) → length (all t) ≡ count t) → (ts : List T)
    → length (product (map all ts)) ≡ multiplied (map count ts)
product-count all count each [] = refl
product-count {T} {X} all count each (t ∷ ts) =
    flat_map-times (λ x. map (λ rest. x ∷ rest) (product (map all ts))) (length (product (map all ts)))
    (λ x. length-map (product (map all ts)) (λ rest. x ∷ rest)) (all t)
    ∙ ap (λ n. n * length (product (map all ts))) (each t)
    ∙ ap (λ n. count t * n) (product-count all count each ts)

choices-count : (s : LogicalStructure) (pred : ℕ) (aim : AimForm) → length (choices s pred aim) ≡ choice_count s pred aim
choices-count s pred aim =
    product-count (λ u. sets_of (s.is_summary u) (map (s.value pred) (aimed aim u)))
    (λ u. set_count (s.is_summary u) (halves_at s pred aim u))
    (λ u. sets-count (s.is_summary u) (map (s.value pred) (aimed aim u))) s.individuals

-- ---- the limit

le-times : (a b : ℕ) → 1 ≤ b → a ≤ a * b
le-times a b some =
    let product : a * 1 ≤ a * b = mul-le-mul_left {m = 1} {n = b} a some
    in omega arith

some-times : (a b : ℕ) → 1 ≤ a → 1 ≤ b → 1 ≤ a * b
some-times a b x y = let more : a ≤ a * b = le-times a b y in omega arith

-- a product of factors that are cut off at the limit
cut-times : (limit t n m : ℕ) → 1 ≤ t → 1 ≤ n → 1 ≤ m
    → min (min (t * min n limit) limit * m) limit ≡ min (t * (n * m)) limit
cut-times limit t n m st sn sm =
    let whole : (t * n) * m ≡ t * (n * m) = mul_assoc t n m
    in let above_tn : t * n ≤ (t * n) * m = le-times (t * n) m sm
    in let above_limit : limit ≤ limit * m = le-times limit m sm
    in let above_n : n ≤ t * n = let e : n ≤ n * t = le-times n t st in omega (arith, mul_comm t n)
    in ⊎_elim
    (λ lt. let cut : min n limit ≡ n = omega arith
    in let At : ℕ → Type 0 = λ k. min (min (t * k) limit * m) limit ≡ min (t * (n * m)) limit
    in subst At (sym cut)
    (⊎_elim
    (λ few. let second : min (t * n) limit ≡ t * n = omega arith
    in let Of : ℕ → Type 0 = λ k. min (k * m) limit ≡ min (t * (n * m)) limit
    in subst Of (sym second) (ap (λ k. min k limit) whole))
    (λ many. let second : min (t * n) limit ≡ limit = omega arith
    in let Of : ℕ → Type 0 = λ k. min (k * m) limit ≡ min (t * (n * m)) limit
    in subst Of (sym second) (omega arith))
    (cases_lt (t * n) limit)))
    (λ ge. let cut : min n limit ≡ limit = omega arith
    in let above_t : limit ≤ t * limit = let e : limit ≤ limit * t = le-times limit t st in omega (arith, mul_comm t limit)
    in let second : min (t * limit) limit ≡ limit = omega arith
    in let At : ℕ → Type 0 = λ k. min (min (t * k) limit * m) limit ≡ min (t * (n * m)) limit
    in let Of : ℕ → Type 0 = λ k. min (k * m) limit ≡ min (t * (n * m)) limit
    in subst At (sym cut) (subst Of (sym second) (omega arith)))
    (cases_lt n limit)

multiplied-some : {T : Type 0} (count : T → ℕ) → ((t : T) → 1 ≤ count t) → (ts : List T) → 1 ≤ multiplied (map count ts)
multiplied-some count some [] = omega arith
multiplied-some count some (t ∷ ts) = some-times (count t) (multiplied (map count ts)) (some t) (multiplied-some count some ts)

limited-product : {T : Type 0} (limit : ℕ) → 1 ≤ limit → (count few : T → ℕ) → ((t : T) → 1 ≤ count t) → ((t : T) → few t ≡ min (count t) limit)
    → (total : ℕ) → 1 ≤ total → (ts : List T)
    → min (fold (λ all t. min (all * few t) limit) total ts) limit ≡ min (total * multiplied (map count ts)) limit
limited-product limit pos count few some is total st [] = let e : total * 1 ≡ total = omega arith in ap (λ k. min k limit) (sym e)
limited-product {T} limit pos count few some is total st (t ∷ ts) =
    let next : ℕ = min (total * few t) limit
    in let same : next ≡ min (total * min (count t) limit) limit = ap (λ k. min (total * k) limit) (is t)
    in let sf : 1 ≤ few t = omega (arith, is t, some t)
    in let sn : 1 ≤ next = omega (arith, some-times total (few t) st sf)
    in limited-product limit pos count few some is next sn ts
    ∙ ap (λ k. min (k * multiplied (map count ts)) limit) same
    ∙ cut-times limit total (count t) (multiplied (map count ts)) st (some t) (multiplied-some count some ts)

-- ---- numbers of sets, as far as 4097

at_least_sixteen : (half : ℕ) → 16 ≤ 2 ^ suc (suc (suc (suc half)))
at_least_sixteen half =
    let pos : 0 < 2 ^ half = pow_pos half
    in omega (arith, pow-suc 2 half, pow-suc 2 (suc half), pow-suc 2 (suc (suc half)), pow-suc 2 (suc (suc (suc half))))

few-sets : (summary : Bool) (half : ℕ) → few_sets summary half ≡ min (set_count summary half) 4097
few-sets false half = refl
few-sets true zero = refl
few-sets true (suc zero) = refl
few-sets true (suc (suc zero)) = refl
few-sets true (suc (suc (suc zero))) = refl
few-sets true (suc (suc (suc (suc half)))) =
    let many : 2 ^ 16 ≤ 2 ^ (2 ^ suc (suc (suc (suc half)))) = pow-le-pow_right {n = 2} (omega arith) {i = 16} {j = 2 ^ suc (suc (suc (suc half)))} (at_least_sixteen half)
    in let known : 2 ^ 16 ≡ 65536 = refl
    in omega arith

some-sets : (summary : Bool) (half : ℕ) → 1 ≤ set_count summary half
some-sets false half = pow_pos half
some-sets true half =
    let pos : 0 < 2 ^ half = pow_pos half
    in let two : 2 ^ 1 ≤ 2 ^ (2 ^ half) = pow-le-pow_right {n = 2} (omega arith) {i = 1} {j = 2 ^ half} (omega arith)
    in let known : 2 ^ 1 ≡ 2 = refl
    in omega arith

choices-limited : (s : LogicalStructure) (pred : ℕ) (aim : AimForm) → few_choices s pred aim ≡ min (choice_count s pred aim) 4097
choices-limited s pred aim =
    let few : ℕ → ℕ = λ u. few_sets (s.is_summary u) (halves_at s pred aim u)
    in let count : ℕ → ℕ = λ u. set_count (s.is_summary u) (halves_at s pred aim u)
    in let within : fold (λ all t. min (all * few t) 4097) 1 s.individuals ≤ 4097 = folded-within few 4097 1 (omega arith) s.individuals
    in let law : min (fold (λ all t. min (all * few t) 4097) 1 s.individuals) 4097 ≡ min (1 * multiplied (map count s.individuals)) 4097
    = limited-product 4097 (omega arith) count few (λ u. some-sets (s.is_summary u) (halves_at s pred aim u))
    (λ u. few-sets (s.is_summary u) (halves_at s pred aim u)) 1 (omega arith) s.individuals
    in omega arith
  where
    folded-within : (few : ℕ → ℕ) (limit total : ℕ) → total ≤ limit → (us : List ℕ)
        → fold (λ all t. min (all * few t) limit) total us ≤ limit
    folded-within few limit total le [] = le
    folded-within few limit total le (u ∷ us) = folded-within few limit (min (total * few u) limit) (omega arith) us

-- ---- sizes

pub record IsJoined {X Y : Type 0} (f : X → List Y) (xs : List X) (y : Y) : Type 0 where
  pub source : X
  pub at : Contains xs source
  pub has : Contains (f source) y

pub Contains-from_flat_map : {X Y : Type 0} (f : X → List Y) (y : Y) (xs : List X) → Contains (flat_map f xs) y → IsJoined f xs y
Contains-from_flat_map f y [] at = absurd (Contains-none y at)
Contains-from_flat_map f y (x ∷ xs) at =
    ⊎_elim
    (λ here. record { source = x; at = Contains-here x xs; has = here })
    (λ there. let rest : IsJoined f xs y = Contains-from_flat_map f y xs there
    in record { source = rest.source; at = Contains-there x rest.source xs rest.at; has = rest.has })
    (Contains-append_cases (f x) (flat_map f xs) y at)

pub picks-length : {X : Type 0} (n : ℕ) (xs ys : List X) → Contains (picks n xs) ys → length ys ≡ n
picks-length {X} zero xs ys at =
    let Long : List X → Type 0 = λ zs. length zs ≡ 0
    in ⊎_elim (λ e. subst Long e refl) (λ none. absurd (Contains-none ys none)) (Contains-cases [] ys [] at)
picks-length (suc n) [] ys at = absurd (Contains-none ys at)
picks-length {X} (suc n) (x ∷ xs) ys at =
    let Long : List X → Type 0 = λ zs. length zs ≡ suc n
    in ⊎_elim
    (λ first. let from : ComesFrom (λ rest. x ∷ rest) (picks n xs) ys = Contains-from_map (λ rest. x ∷ rest) ys (picks n xs) first
    in subst Long from.goes (ap suc (picks-length n xs from.source from.at)))
    (λ other. picks-length (suc n) xs ys other)
    (Contains-append_cases (map (λ rest. x ∷ rest) (picks n xs)) (picks (suc n) xs) ys at)

pub picks_to-length : {X : Type 0} (n : ℕ) (xs ys : List X) → Contains (picks_to n xs) ys → length ys ≤ n
picks_to-length zero xs ys at = absurd (Contains-none ys at)
picks_to-length (suc n) xs ys at =
    ⊎_elim
    (λ first. let le : length ys ≤ n = picks_to-length n xs ys first in omega arith)
    (λ last. let is : length ys ≡ suc n = picks-length (suc n) xs ys last in omega arith)
    (Contains-append_cases (picks_to n xs) (picks (suc n) xs) ys at)

picks_to-some : {X : Type 0} (n : ℕ) (xs ys : List X) → Contains (picks_to n xs) ys → 1 ≤ length ys
picks_to-some zero xs ys at = absurd (Contains-none ys at)
picks_to-some (suc n) xs ys at =
    ⊎_elim
    (λ first. picks_to-some n xs ys first)
    (λ last. let is : length ys ≡ suc n = picks-length (suc n) xs ys last in omega arith)
    (Contains-append_cases (picks_to n xs) (picks (suc n) xs) ys at)

pub some-set : (summary : Bool) (ks : List K3) (set : List (List K3)) → Contains (sets_of summary ks) set → 1 ≤ length set
some-set false ks set at = let is : length set ≡ 1 = picks-length 1 (vectors ks) set at in omega arith
some-set true ks set at = picks_to-some (length (vectors ks)) (vectors ks) set at

set-length : (summary : Bool) (ks : List K3) (set : List (List K3)) → Contains (sets_of summary ks) set
    → length set ≤ vector_count summary (halves ks)
set-length false ks set at = let is : length set ≡ 1 = picks-length 1 (vectors ks) set at in omega arith
set-length true ks set at =
    let le : length set ≤ length (vectors ks) = picks_to-length (length (vectors ks)) (vectors ks) set at
    in omega (arith, vectors-count ks)

members-cons : (u : ℕ) (us : List ℕ) (set : List (List K3)) (rest : List (List (List K3)))
    → length (members (u ∷ us) (set ∷ rest)) ≡ length set + length (members us rest)
members-cons u us set rest =
    length-append (members_of u set) (members us rest)
    ∙ ap (λ n. n + length (members us rest)) (length-map set (λ vector. record { origin = u; vector = vector }))

sum-cons : (n : ℕ) (ns : List ℕ) → sum (n ∷ ns) ≡ n + sum ns
sum-cons n ns = sum_by-cons (λ x. x) n ns

most-copies : (all : ℕ → List (List (List K3))) (most : ℕ → ℕ)
    → ((u : ℕ) (set : List (List K3)) → Contains (all u) set → length set ≤ most u)
    → (us : List ℕ) (choice : List (List (List K3))) → Contains (product (map all us)) choice
    → length (members us choice) ≤ sum (map most us)
most-copies all most each [] choice at = omega arith
most-copies all most each (u ∷ us) choice at =
    let rests : List (List (List (List K3))) = product (map all us)
    in let j : IsJoined (λ x. map (λ rest. x ∷ rest) rests) (all u) choice
    = Contains-from_flat_map (λ x. map (λ rest. x ∷ rest) rests) choice (all u) at
    in let c : ComesFrom (λ rest. j.source ∷ rest) rests choice = Contains-from_map (λ rest. j.source ∷ rest) choice rests j.has
    in let later : length (members us c.source) ≤ sum (map most us) = most-copies all most each us c.source c.at
    in let first : length j.source ≤ most u = each u j.source j.at
    in let Few : List (List (List K3)) → Type 0 = λ other. length (members (u ∷ us) other) ≤ sum (map most (u ∷ us))
    in subst Few c.goes (omega (arith, members-cons u us j.source c.source, sum-cons (most u) (map most us)))

-- the largest set: all vectors of a summary, and one of another
largest_set : Bool → List K3 → List (List K3)
largest_set true ks = vectors ks
largest_set false ks = take 1 (vectors ks)

pub picks-all : {X : Type 0} (xs : List X) → Contains (picks (length xs) xs) xs
picks-all [] = Contains-here [] []
picks-all (x ∷ xs) =
    Contains-append_left (map (λ rest. x ∷ rest) (picks (length xs) xs)) (picks (suc (length xs)) xs) (x ∷ xs)
    (Contains-map (λ rest. x ∷ rest) xs (picks (length xs) xs) (picks-all xs))

picks-first : {X : Type 0} (xs : List X) → 1 ≤ length xs → Contains (picks 1 xs) (take 1 xs)
picks-first [] some = absurd (omega (arith, some))
picks-first (x ∷ xs) some = Contains-here (x ∷ []) (picks 1 xs)

largest-listed : (summary : Bool) (ks : List K3) → Contains (sets_of summary ks) (largest_set summary ks)
unfolding largest_set
largest-listed true ks =
    let pos : 0 < 2 ^ halves ks = pow_pos (halves ks)
    in picks_to-has (length (vectors ks)) (length (vectors ks)) (vectors ks) (vectors ks)
    (omega (arith, vectors-count ks)) (omega arith) (picks-all (vectors ks))
largest-listed false ks =
    let pos : 0 < 2 ^ halves ks = pow_pos (halves ks)
    in picks-first (vectors ks) (omega (arith, vectors-count ks))

largest-length : (summary : Bool) (ks : List K3) → length (largest_set summary ks) ≡ vector_count summary (halves ks)
unfolding largest_set
largest-length true ks = vectors-count ks
largest-length false ks = first (vectors ks) (let pos : 0 < 2 ^ halves ks = pow_pos (halves ks) in omega (arith, vectors-count ks))
  where
    first : (vs : List (List K3)) → 1 ≤ length vs → length (take 1 vs) ≡ 1
    first [] some = absurd (omega (arith, some))
    first (v ∷ vs) some = refl

members-count : (set : ℕ → List (List K3)) (count : ℕ → ℕ) → ((u : ℕ) → length (set u) ≡ count u) → (us : List ℕ)
    → length (members us (map set us)) ≡ sum (map count us)
members-count set count each [] = refl
members-count set count each (u ∷ us) =
    let rest : length (members us (map set us)) ≡ sum (map count us) = members-count set count each us
    in omega (arith, members-cons u us (set u) (map set us), sum-cons (count u) (map count us), each u)

largest-reached : (s : LogicalStructure) (pred : ℕ) (aim : AimForm) → HasChoiceOf s pred aim (largest_size s pred aim)
largest-reached s pred aim =
    let ks : ℕ → List K3 = λ u. map (s.value pred) (aimed aim u)
    in let set : ℕ → List (List K3) = λ u. largest_set (s.is_summary u) (ks u)
    in (
      map set s.individuals,
      product-has (λ u. sets_of (s.is_summary u) (ks u)) set s.individuals
          (λ k d lt. largest-listed (s.is_summary (get_or s.individuals k d)) (ks (get_or s.individuals k d))),
      members-count set (λ u. vector_count (s.is_summary u) (halves_at s pred aim u))
          (λ u. largest-length (s.is_summary u) (ks u)) s.individuals,
    )

pub choices_are_counted : ChoicesAreCounted
choices_are_counted s pred aim = record {
  number = choices-count s pred aim;
  limited = choices-limited s pred aim;
  most = λ choice at.
      most-copies (λ u. sets_of (s.is_summary u) (map (s.value pred) (aimed aim u)))
      (λ u. vector_count (s.is_summary u) (halves_at s pred aim u))
      (λ u set has. set-length (s.is_summary u) (map (s.value pred) (aimed aim u)) set has) s.individuals choice at;
  reached = largest-reached s pred aim;
}

-- ---- few choices

factor-le : {T : Type 0} (count : T → ℕ) → ((t : T) → 1 ≤ count t) → (ts : List T) (t : T) → Contains ts t
    → count t ≤ multiplied (map count ts)
factor-le count some [] t at = absurd (Contains-none t at)
factor-le {T} count some (x ∷ ts) t at =
    let rest : 1 ≤ multiplied (map count ts) = multiplied-some count some ts
    in let Le : T → Type 0 = λ y. count y ≤ count x * multiplied (map count ts)
    in ⊎_elim
    (λ e. subst Le e (le-times (count x) (multiplied (map count ts)) rest))
    (λ there. let le : count t ≤ multiplied (map count ts) = factor-le count some ts t there
    in let more : multiplied (map count ts) ≤ multiplied (map count ts) * count x = le-times (multiplied (map count ts)) (count x) (some x)
    in omega (arith, mul_comm (count x) (multiplied (map count ts))))
    (Contains-cases x t ts at)

few-summary : (half : ℕ) → set_count true half ≤ 4096 → half ≤ 3
few-summary zero few = omega arith
few-summary (suc zero) few = omega arith
few-summary (suc (suc zero)) few = omega arith
few-summary (suc (suc (suc zero))) few = omega arith
few-summary (suc (suc (suc (suc half)))) few =
    let many : 2 ^ 16 ≤ 2 ^ (2 ^ suc (suc (suc (suc half)))) = pow-le-pow_right {n = 2} (omega arith) {i = 16} {j = 2 ^ suc (suc (suc (suc half)))} (at_least_sixteen half)
    in let known : 2 ^ 16 ≡ 65536 = refl
    in absurd (omega (arith, few))

few-ordinary : (half : ℕ) → set_count false half ≤ 4096 → half ≤ 12
few-ordinary half few =
    ⊎_elim
    (λ lt. let many : 2 ^ 13 ≤ 2 ^ half = pow-le-pow_right {n = 2} (omega arith) {i = 13} {j = half} lt
    in let known : 2 ^ 13 ≡ 8192 = refl
    in absurd (omega (arith, few)))
    (λ le. le)
    (cases_lt 12 half)

pub few_choices_have_few_halves : FewChoicesHaveFewHalves
few_choices_have_few_halves s pred aim few u at =
    let half : ℕ = halves_at s pred aim u
    in let Few : Bool → Type 0 = λ b. set_count b half ≤ 4096
    in let le : set_count (s.is_summary u) half ≤ choice_count s pred aim
    = factor-le (λ x. set_count (s.is_summary x) (halves_at s pred aim x)) (λ x. some-sets (s.is_summary x) (halves_at s pred aim x)) s.individuals u at
    in let own : Few (s.is_summary u) = omega arith
    in record {
      summary = λ e. few-summary half (subst Few e own);
      ordinary = λ e. few-ordinary half (subst Few e own);
    }
