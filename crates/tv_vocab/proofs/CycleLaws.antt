-- Cycles of definitions: the decision is right, and without one there are ranks.
use Rattle.std.proofs.Common.{◌≡◌, ℕ, zero, suc, ◌+◌, ◌<◌, ◌≤◌, ◌⊎◌, inl, inr, Bool, true, false, ◌&&◌}
use Rattle.std.proofs.Common.{cond, get_or, List, [], ◌∷◌, ◌++◌, length, refl, ap, sym, subst, ◌∙◌, arith}
use Rattle.std.specs.Prelude.{Contains, nat_lt, ◌==◌}
use Rattle.std.specs.List.{list_any}
use Rattle.std.proofs.lemmas.Bool.{true≢false, false≢true, and_from, cases_lt, or_cases, or_left, or_right}
use Rattle.std.proofs.lemmas.Bool.Decides.{nat_tests}
use Rattle.tv_model.specs.Truth.{IsWalk}
use Rattle.tv_vocab.specs.Cycles.{mentioned_at, MentionsPred, RestsOn, HasCycle, HasRanks, rests_below}
use Rattle.tv_vocab.specs.Cycles.{some_below, has_cycle, CyclesAreFound, AcyclicHasRanks}
pub use Rattle.tv_model.proofs.Walks.{IsWalk-join as walk_join}

-- ---- tests

record Both (a b : Bool) : Type 0 where
  one : a ≡ true
  two : b ≡ true

and_both : (a b : Bool) → (a && b) ≡ true → Both a b
and_both true b h = record { one = refl; two = h }
and_both false b h = absurd (false≢true h)

same_number : (m n : ℕ) → (m == n) ≡ true → m ≡ n
same_number m n h = grind (arith, nat_tests)

number_same : (m n : ℕ) → m ≡ n → (m == n) ≡ true
number_same m n h = grind (arith, nat_tests)

pub less_or_last : (x n : ℕ) → x < suc n → (x < n) ⊎ (x ≡ n)
less_or_last zero zero lt = inr refl
less_or_last zero (suc n) lt = inl (omega arith)
less_or_last (suc x) zero lt = absurd (omega arith)
less_or_last (suc x) (suc n) lt = elim (less_or_last x n (omega arith)) [ inl e ↦ inl (omega (arith, e)) | inr e ↦ inr (ap suc e) ]

-- ---- mentions

pub later_in : (q x : ℕ) (xs : List ℕ) → Contains xs q → Contains (x ∷ xs) q
later_in q x xs h = let lt = h.1 in (suc h.0, omega (arith, lt), h.2)

found_by : (q x : ℕ) (xs : List ℕ) → (list_any (λ r. r == q) xs ≡ true → Contains xs q) → (x == q ≡ true) ⊎ (list_any (λ r. r == q) xs ≡ true) → Contains (x ∷ xs) q
found_by q x xs more (inl e) = (0, omega arith, same_number x q e)
found_by q x xs more (inr e) = later_in q x xs (more e)

found : (q : ℕ) (xs : List ℕ) → list_any (λ r. r == q) xs ≡ true → Contains xs q
found q [] h = absurd (false≢true h)
found q (x ∷ xs) h = found_by q x xs (found q xs) (or_cases (x == q) (list_any (λ r. r == q) xs) h)

found_at : (q : ℕ) (xs : List ℕ) (k : ℕ) → k < length xs → get_or xs k q ≡ q → list_any (λ r. r == q) xs ≡ true
found_at q [] k lt e = absurd (omega arith)
found_at q (x ∷ xs) zero lt e = or_left (x == q) (list_any (λ r. r == q) xs) (number_same x q e)
found_at q (x ∷ xs) (suc k) lt e = or_right (x == q) (list_any (λ r. r == q) xs) (found_at q xs k (omega arith) e)

among : (q : ℕ) (xs : List ℕ) → Contains xs q → list_any (λ r. r == q) xs ≡ true
among q xs h = found_at q xs h.0 h.1 h.2

not_in_none : (q : ℕ) → Contains [] q → ⊥
not_in_none q h = let lt = h.1 in absurd (omega arith)

-- what mentions something is one of the predicates
pub inside : (uses : List (List ℕ)) (p q : ℕ) → MentionsPred uses p q → p < length uses
inside [] p q h = absurd (not_in_none q h)
inside (x ∷ uses) zero q h = omega arith
inside (x ∷ uses) (suc p) q h = let lt = inside uses p q h in omega (arith, lt)

-- ---- chains

pub rests_then : (uses : List (List ℕ)) (p q r : ℕ) → RestsOn uses p q → RestsOn uses q r → RestsOn uses p r
rests_then uses p q r h k = (h.0 ++ q ∷ k.0, walk_join (MentionsPred uses) p q r h.0 k.0 h.1 k.1)

pub rests_once : (uses : List (List ℕ)) (p q : ℕ) → MentionsPred uses p q → RestsOn uses p q
rests_once uses p q h = ([], h)

-- ---- the decision finds chains

module _ (uses : List (List ℕ)) where
  rests_by : (n p q : ℕ) → ((p' q' : ℕ) → rests_below uses n p' q' ≡ true → RestsOn uses p' q') → (rests_below uses n p q ≡ true) ⊎ ((rests_below uses n p n && rests_below uses n n q) ≡ true) → RestsOn uses p q
  rests_by n p q less (inl h) = less p q h
  rests_by n p q less (inr h) =
      let both = and_both (rests_below uses n p n) (rests_below uses n n q) h in
      rests_then uses p n q (less p n both.one) (less n q both.two)

  rests_on : (n p q : ℕ) → rests_below uses n p q ≡ true → RestsOn uses p q
  rests_on zero p q h = rests_once uses p q (found q (mentioned_at uses p) h)
  rests_on (suc n) p q h = rests_by n p q (rests_on n) (or_cases (rests_below uses n p q) (rests_below uses n p n && rests_below uses n n q) h)

  mentions_rests : (n p q : ℕ) → MentionsPred uses p q → rests_below uses n p q ≡ true
  mentions_rests zero p q h = among q (mentioned_at uses p) h
  mentions_rests (suc n) p q h = or_left (rests_below uses n p q) (rests_below uses n p n && rests_below uses n n q) (mentions_rests n p q h)

  -- what leads to n leads there over stops below n
  before : (n p : ℕ) → rests_below uses (suc n) p n ≡ true → rests_below uses n p n ≡ true
  before n p h = elim (or_cases (rests_below uses n p n) (rests_below uses n p n && rests_below uses n n n) h) [
    | inl e ↦ e
    | inr e ↦ (and_both (rests_below uses n p n) (rests_below uses n n n) e).one
  ]

  behind : (n q : ℕ) → rests_below uses (suc n) n q ≡ true → rests_below uses n n q ≡ true
  behind n q h = elim (or_cases (rests_below uses n n q) (rests_below uses n n n && rests_below uses n n q) h) [
    | inl e ↦ e
    | inr e ↦ (and_both (rests_below uses n n n) (rests_below uses n n q) e).two
  ]

  over : (n p q : ℕ) → rests_below uses n p n ≡ true → rests_below uses n n q ≡ true → rests_below uses (suc n) p q ≡ true
  over n p q h k = or_right (rests_below uses n p q) (rests_below uses n p n && rests_below uses n n q) (and_from (rests_below uses n p n) (rests_below uses n n q) h k)

  still : (n p q : ℕ) → rests_below uses n p q ≡ true → rests_below uses (suc n) p q ≡ true
  still n p q h = or_left (rests_below uses n p q) (rests_below uses n p n && rests_below uses n n q) h

  module _ (n : ℕ) (join : (p x q : ℕ) → x < n → rests_below uses n p x ≡ true → rests_below uses n x q ≡ true → rests_below uses n p q ≡ true) where
    to_then : (p x q : ℕ) → x < n → rests_below uses n p x ≡ true → (rests_below uses n x q ≡ true) ⊎ ((rests_below uses n x n && rests_below uses n n q) ≡ true) → rests_below uses (suc n) p q ≡ true
    to_then p x q lt a (inl b) = still n p q (join p x q lt a b)
    to_then p x q lt a (inr b) =
        let both = and_both (rests_below uses n x n) (rests_below uses n n q) b in
        over n p q (join p x n lt a both.one) both.two

    over_then : (p x q : ℕ) → x < n → rests_below uses n p n ≡ true → rests_below uses n n x ≡ true → (rests_below uses n x q ≡ true) ⊎ ((rests_below uses n x n && rests_below uses n n q) ≡ true) → rests_below uses (suc n) p q ≡ true
    over_then p x q lt a c (inl b) = over n p q a (join n x q lt c b)
    over_then p x q lt a c (inr b) = over n p q a (and_both (rests_below uses n x n) (rests_below uses n n q) b).two

    through_by : (p x q : ℕ) → x < n → (rests_below uses n p x ≡ true) ⊎ ((rests_below uses n p n && rests_below uses n n x) ≡ true) → (rests_below uses n x q ≡ true) ⊎ ((rests_below uses n x n && rests_below uses n n q) ≡ true) → rests_below uses (suc n) p q ≡ true
    through_by p x q lt (inl a) b = to_then p x q lt a b
    through_by p x q lt (inr a) b =
        let both = and_both (rests_below uses n p n) (rests_below uses n n x) a in
        over_then p x q lt both.one both.two b

    through_at : (p x q : ℕ) → (x < n) ⊎ (x ≡ n) → rests_below uses (suc n) p x ≡ true → rests_below uses (suc n) x q ≡ true → rests_below uses (suc n) p q ≡ true
    through_at p x q (inl lt) h k = through_by p x q lt (or_cases (rests_below uses n p x) (rests_below uses n p n && rests_below uses n n x) h) (or_cases (rests_below uses n x q) (rests_below uses n x n && rests_below uses n n q) k)
    through_at p x q (inr same) h k =
        over n p q
        (before n p (subst (λ (y : ℕ). rests_below uses (suc n) p y ≡ true) same h))
        (behind n q (subst (λ (y : ℕ). rests_below uses (suc n) y q ≡ true) same k))

  -- chains over stops below n are joined at such a stop
  through : (n p x q : ℕ) → x < n → rests_below uses n p x ≡ true → rests_below uses n x q ≡ true → rests_below uses n p q ≡ true
  through zero p x q lt h k = absurd (omega arith)
  through (suc n) p x q lt h k = through_at n (through n) p x q (less_or_last x n lt) h k

  -- every chain has its stops among the predicates
  first_inside : (p q : ℕ) (stops : List ℕ) → IsWalk (MentionsPred uses) p stops q → p < length uses
  first_inside p q [] h = inside uses p q h
  first_inside p q (x ∷ stops) h = inside uses p x h.0

  walk_rests : (p q : ℕ) (stops : List ℕ) → IsWalk (MentionsPred uses) p stops q → rests_below uses (length uses) p q ≡ true
  walk_rests p q [] h = mentions_rests (length uses) p q h
  walk_rests p q (x ∷ stops) h = through (length uses) p x q (first_inside x q stops h.1) (mentions_rests (length uses) p x h.0) (walk_rests x q stops h.1)

  rests : (p q : ℕ) → RestsOn uses p q → rests_below uses (length uses) p q ≡ true
  rests p q h = walk_rests p q h.0 h.1

-- ---- the decision is right

record SomeBelow (n : ℕ) (test : ℕ → Bool) : Type 0 where
  at : ℕ
  below : at < n
  holds : test at ≡ true

wider : (n : ℕ) (test : ℕ → Bool) → SomeBelow n test → SomeBelow (suc n) test
wider n test s = let lt = s.below in record { at = s.at; below = omega (arith, lt); holds = s.holds }

some_by : (n : ℕ) (test : ℕ → Bool) → (some_below n test ≡ true → SomeBelow n test) → (some_below n test ≡ true) ⊎ (test n ≡ true) → SomeBelow (suc n) test
some_by n test less (inl h) = wider n test (less h)
some_by n test less (inr h) = record { at = n; below = omega arith; holds = h }

some_found : (n : ℕ) (test : ℕ → Bool) → some_below n test ≡ true → SomeBelow n test
some_found zero test h = absurd (false≢true h)
some_found (suc n) test h = some_by n test (some_found n test) (or_cases (some_below n test) (test n) h)

some_at_by : (n p : ℕ) (test : ℕ → Bool) → ((p < n) → some_below n test ≡ true) → test p ≡ true → (p < n) ⊎ (p ≡ n) → some_below (suc n) test ≡ true
some_at_by n p test less h (inl lt) = or_left (some_below n test) (test n) (less lt)
some_at_by n p test less h (inr same) = or_right (some_below n test) (test n) (subst (λ (m : ℕ). test m ≡ true) same h)

some_at : (n p : ℕ) (test : ℕ → Bool) → p < n → test p ≡ true → some_below n test ≡ true
some_at zero p test lt h = absurd (omega arith)
some_at (suc n) p test lt h = some_at_by n p test (λ less. some_at n p test less h) h (less_or_last p n lt)

pub cycle_when_found : (uses : List (List ℕ)) → has_cycle uses ≡ true → HasCycle uses
unfolding has_cycle
cycle_when_found uses h =
    let s = some_found (length uses) (λ p. rests_below uses (length uses) p p) h in
    (s.at, rests_on uses (length uses) s.at s.at s.holds)

pub found_where_cycle : (uses : List (List ℕ)) → HasCycle uses → has_cycle uses ≡ true
unfolding has_cycle
found_where_cycle uses c = some_at (length uses) c.0 (λ p. rests_below uses (length uses) p p) (first_inside uses c.0 c.0 c.1.0 c.1.1) (rests uses c.0 c.0 c.1)

not_true : (b : Bool) → ¬ (b ≡ true) → b ≡ false
not_true true h = absurd (h refl)
not_true false h = refl

pub none_where_no_cycle : (uses : List (List ℕ)) → ¬ HasCycle uses → has_cycle uses ≡ false
none_where_no_cycle uses none = not_true (has_cycle uses) (λ h. none (cycle_when_found uses h))

pub cycles_found : CyclesAreFound
cycles_found uses = (cycle_when_found uses, found_where_cycle uses)

-- ---- ranks

-- how many numbers below n pass the test
abbrev count_below : ℕ → (ℕ → Bool) → ℕ
count_below zero test = 0
count_below (suc n) test = count_below n test + cond (test n) 1 0

one_le : (a b : Bool) → (a ≡ true → b ≡ true) → cond a 1 0 ≤ cond b 1 0
one_le true b h = let e = h refl in rw e (omega arith)
one_le false b h = omega arith

none_le : (b : Bool) → b ≡ false → cond b 1 0 ≤ 0
none_le true h = absurd (false≢true (sym h))
none_le false h = omega arith

is_one : (b : Bool) → b ≡ true → 1 ≤ cond b 1 0
is_one true h = omega arith
is_one false h = absurd (false≢true h)

count_le : (n : ℕ) (f g : ℕ → Bool) → ((k : ℕ) → f k ≡ true → g k ≡ true) → count_below n f ≤ count_below n g
count_le zero f g h = omega arith
count_le (suc n) f g h = let rest = count_le n f g h in let this = one_le (f n) (g n) (h n) in omega (arith, rest, this)

count_less_by : (n k : ℕ) (f g : ℕ → Bool) → ((k : ℕ) → f k ≡ true → g k ≡ true) → ((k < n) → count_below n f < count_below n g) → f k ≡ false → g k ≡ true → (k < n) ⊎ (k ≡ n) → count_below (suc n) f < count_below (suc n) g
count_less_by n k f g h less not_f is_g (inl lt) = let rest = less lt in let this = one_le (f n) (g n) (h n) in omega (arith, rest, this)
count_less_by n k f g h less not_f is_g (inr same) =
    let rest = count_le n f g h in
    let none = none_le (f n) (subst (λ (m : ℕ). f m ≡ false) same not_f) in
    let one = is_one (g n) (subst (λ (m : ℕ). g m ≡ true) same is_g) in
    omega (arith, rest, none, one)

count_less : (n k : ℕ) (f g : ℕ → Bool) → ((k : ℕ) → f k ≡ true → g k ≡ true) → k < n → f k ≡ false → g k ≡ true → count_below n f < count_below n g
count_less zero k f g h lt not_f is_g = absurd (omega arith)
count_less (suc n) k f g h lt not_f is_g = count_less_by n k f g h (λ less. count_less n k f g h less not_f is_g) not_f is_g (less_or_last k n lt)

-- the rank of a predicate: on how many it rests, and one more; what has no definition has rank 0
abbrev rank_of : List (List ℕ) → ℕ → ℕ
rank_of uses p = cond (nat_lt p (length uses)) (suc (count_below (length uses) (λ q. rests_below uses (length uses) p q))) 0

rank_in : (uses : List (List ℕ)) (p : ℕ) (b : Bool) → nat_lt p (length uses) ≡ b → p < length uses → rank_of uses p ≡ suc (count_below (length uses) (λ q. rests_below uses (length uses) p q))
rank_in uses p true e lt = rw e refl
rank_in uses p false e lt = absurd (grind (arith, nat_tests))

rank_out : (uses : List (List ℕ)) (p : ℕ) (b : Bool) → nat_lt p (length uses) ≡ b → length uses ≤ p → rank_of uses p ≡ 0
rank_out uses p true e le = absurd (grind (arith, nat_tests))
rank_out uses p false e le = rw e refl

falls_by : (uses : List (List ℕ)) → ¬ HasCycle uses → (p q : ℕ) → MentionsPred uses p q → (q < length uses) ⊎ (length uses ≤ q) → rank_of uses q < rank_of uses p
falls_by uses none p q h (inl lt) =
    let n = length uses in
    let at_p = rank_in uses p (nat_lt p n) refl (inside uses p q h) in
    let at_q = rank_in uses q (nat_lt q n) refl lt in
    let less = count_less n q (λ r. rests_below uses n q r) (λ r. rests_below uses n p r)
    (λ r k. through uses n p q r lt (mentions_rests uses n p q h) k) lt
    (not_true (rests_below uses n q q) (λ k. none (q, rests_on uses n q q k)))
    (mentions_rests uses n p q h) in
    omega (arith, at_p, at_q, less)
falls_by uses none p q h (inr le) =
    let at_p = rank_in uses p (nat_lt p (length uses)) refl (inside uses p q h) in
    let at_q = rank_out uses q (nat_lt q (length uses)) refl le in
    omega (arith, at_p, at_q)

pub ranks : (uses : List (List ℕ)) → ¬ HasCycle uses → HasRanks uses
ranks uses none = (rank_of uses, λ p q h. falls_by uses none p q h (cases_lt q (length uses)))

pub ranks_unless_found : (uses : List (List ℕ)) → has_cycle uses ≡ false → HasRanks uses
ranks_unless_found uses h = ranks uses (λ c. true≢false (sym (found_where_cycle uses c) ∙ h))

walk_falls : (uses : List (List ℕ)) (rank : ℕ → ℕ) → ((p q : ℕ) → MentionsPred uses p q → rank q < rank p) → (p q : ℕ) (stops : List ℕ) → IsWalk (MentionsPred uses) p stops q → rank q < rank p
walk_falls uses rank falls p q [] h = falls p q h
walk_falls uses rank falls p q (x ∷ stops) h = let one = falls p x h.0 in let rest = walk_falls uses rank falls x q stops h.1 in omega (arith, one, rest)

acyclic : (uses : List (List ℕ)) → HasRanks uses → HasCycle uses → ⊥
acyclic uses r c = let less = walk_falls uses r.0 r.1 c.0 c.0 c.1.0 c.1.1 in absurd (omega (arith, less))

pub acyclic_ranks : AcyclicHasRanks
acyclic_ranks uses = (ranks uses, acyclic uses)
