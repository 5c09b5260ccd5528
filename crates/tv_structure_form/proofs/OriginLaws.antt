-- The lists of origins.
use Rattle.std.proofs.Common.{ℕ, ◌≡◌, ◌<◌, ◌≤◌, ◌+◌, ◌-◌, ◌⊎◌, inl, inr, Bool, true, false, cond, subst}
use Rattle.std.proofs.Common.{true≢false, List, [], ◌∷◌, ◌++◌, length, get_or, replicate, take, refl, sym, ap}
use Rattle.std.proofs.Common.{◌∙◌, arith, append_assoc, append-nil, add-zero, zero-add, zero, suc}
use Rattle.std.specs.Prelude.{Contains, sum, count_by, if◌then◌else◌}
use Rattle.std.proofs.lemmas.List.{length-append, length-replicate, length-take-le, take_more}
use Rattle.std.proofs.lemmas.List.{get_or_append_left, get_or-replicate, get_or-append-add, get_or_default}
use Rattle.std.proofs.lemmas.List.Sums.{sum_by-cons}
use Rattle.std.proofs.lemmas.Bool.{cases_lt}
use Rattle.tv_structure_form.specs.Origins.{AreKept, IsCopy, AreCopies}
use Rattle.tv_structure_form.specs.StructureForm.{kept_from, copies_from}

kept_from-append : (n : ℕ) (xs : List Bool) (b : Bool) (j : ℕ) → n + length xs ≡ j
    → kept_from n (xs ++ b ∷ []) ≡ kept_from n xs ++ (if b then j ∷ [] else [])
kept_from-append n [] true j e = ap (λ u. u ∷ []) (sym (add-zero n) ∙ e)
kept_from-append n [] false j e = refl
kept_from-append n (true ∷ xs) b j e = ap (λ rest. n ∷ rest) (kept_from-append (n + 1) xs b j (omega (arith, e)))
kept_from-append n (false ∷ xs) b j e = kept_from-append (n + 1) xs b j (omega (arith, e))

pub kept_from_more : (xs : List Bool) (i : ℕ) (d : Bool) → i < length xs
    → kept_from 0 (take (i + 1) xs) ≡ kept_from 0 (take i xs) ++ (if get_or xs i d then i ∷ [] else [])
kept_from_more xs i d lt =
    ap (kept_from 0) (take_more xs i d lt)
    ∙ kept_from-append 0 (take i xs) (get_or xs i d) i (omega (arith, length-take-le i xs (omega arith)))

copies_from-append : (n : ℕ) (xs : List ℕ) (part j : ℕ) → n + length xs ≡ j
    → copies_from n (xs ++ part ∷ []) ≡ copies_from n xs ++ replicate part j
copies_from-append n [] part j e = append-nil (replicate part n) ∙ ap (replicate part) (sym (add-zero n) ∙ e)
copies_from-append n (x ∷ xs) part j e =
    ap (λ rest. replicate x n ++ rest) (copies_from-append (n + 1) xs part j (omega (arith, e)))
    ∙ sym (append_assoc (replicate x n) (copies_from (n + 1) xs) (replicate part j))

pub copies_from_more : (xs : List ℕ) (i d : ℕ) → i < length xs
    → copies_from 0 (take (i + 1) xs) ≡ copies_from 0 (take i xs) ++ replicate (get_or xs i d) i
copies_from_more xs i d lt =
    ap (copies_from 0) (take_more xs i d lt)
    ∙ copies_from-append 0 (take i xs) (get_or xs i d) i (omega (arith, length-take-le i xs (omega arith)))

pub kept_count : (n : ℕ) (xs : List Bool) → length (kept_from n xs) ≤ length xs
kept_count n [] = omega arith
kept_count n (true ∷ xs) = omega (arith, kept_count (n + 1) xs)
kept_count n (false ∷ xs) = omega (arith, kept_count (n + 1) xs)

pub copies_count : (n : ℕ) (parts : List ℕ) → length (copies_from n parts) ≡ sum parts
copies_count n [] = refl
copies_count n (part ∷ parts) =
    length-append (replicate part n) (copies_from (n + 1) parts)
    ∙ (let k : length (copies_from (n + 1) parts) ≡ sum parts = copies_count (n + 1) parts
    in rw (length-replicate part n, k) (sym (sum_by-cons (λ x. x) part parts)))

-- the first copy of u stands behind the copies of those before it
pub get_or-copies_from : (n : ℕ) (parts : List ℕ) (u : ℕ) → u < length parts → 1 ≤ get_or parts u 0
    → (sum (take u parts) < length (copies_from n parts)) × (get_or (copies_from n parts) (sum (take u parts)) 0 ≡ n + u)
get_or-copies_from n [] u lt some = absurd (omega arith)
get_or-copies_from n (part ∷ parts) zero lt some = (
  rw (length-append (replicate part n) (copies_from (n + 1) parts), length-replicate part n) (omega arith),
  get_or_append_left (replicate part n) (copies_from (n + 1) parts) 0 0 (rw (length-replicate part n) (omega arith))
      ∙ get_or-replicate part 0 n 0 (omega arith) ∙ sym (add-zero n),
)
get_or-copies_from n (part ∷ parts) (suc u) lt some =
    let later : (sum (take u parts) < length (copies_from (n + 1) parts))
    × (get_or (copies_from (n + 1) parts) (sum (take u parts)) 0 ≡ n + 1 + u)
    = get_or-copies_from (n + 1) parts u (omega arith) some
    in let before : sum (part ∷ take u parts) ≡ part + sum (take u parts) = sum_by-cons (λ x. x) part (take u parts)
    in let skip : get_or (replicate part n ++ copies_from (n + 1) parts) (length (replicate part n) + sum (take u parts)) 0
    ≡ get_or (copies_from (n + 1) parts) (sum (take u parts)) 0
    = get_or-append-add (replicate part n) (copies_from (n + 1) parts) (sum (take u parts)) 0
    in let same : sum (part ∷ take u parts) ≡ length (replicate part n) + sum (take u parts)
    = rw (length-replicate part n) before
    in (
      rw (length-append (replicate part n) (copies_from (n + 1) parts), length-replicate part n, before) (omega (arith, later.0)),
      rw same (skip ∙ later.1 ∙ omega arith),
    )

-- ---- what the lists of origins are

pub kept_found : (n : ℕ) (keep : List Bool) (u : ℕ) → get_or keep u false ≡ true → Contains (kept_from n keep) (n + u)
kept_found n [] u on = absurd (true≢false (sym on))
kept_found n (true ∷ keep) zero on = (0, omega arith, sym (add-zero n))
kept_found n (false ∷ keep) zero on = absurd (true≢false (sym on))
kept_found n (true ∷ keep) (suc u) on = later n (kept_from (n + 1) keep) u (kept_found (n + 1) keep u on)
  where
    later : (n : ℕ) (xs : List ℕ) (u : ℕ) → Contains xs (n + 1 + u) → Contains (n ∷ xs) (n + suc u)
    later n xs u (k, lt, at) =
        let e : n + 1 + u ≡ n + suc u = omega arith
        in (suc k, omega arith, subst (λ (w : ℕ). get_or xs k w ≡ w) e at)
kept_found n (false ∷ keep) (suc u) on =
    let e : n + 1 + u ≡ n + suc u = omega arith
    in subst (Contains (kept_from (n + 1) keep)) e (kept_found (n + 1) keep u on)

-- a kept place's flag is set
pub record IsKept (n : ℕ) (keep : List Bool) (w : ℕ) : Type 0 where
  pub place : ℕ
  pub is : w ≡ n + place
  pub on : get_or keep place false ≡ true

pub kept_flag : (n : ℕ) (keep : List Bool) (i : ℕ) → i < length (kept_from n keep) → IsKept n keep (get_or (kept_from n keep) i 0)
kept_flag n [] i lt = absurd (omega arith)
kept_flag n (true ∷ keep) zero lt = record { place = 0; is = sym (add-zero n); on = refl }
kept_flag n (true ∷ keep) (suc i) lt =
    let rest : IsKept (n + 1) keep (get_or (kept_from (n + 1) keep) i 0) = kept_flag (n + 1) keep i (omega arith)
    in record { place = suc rest.place; is = rest.is ∙ omega arith; on = rest.on }
kept_flag n (false ∷ keep) i lt =
    let rest : IsKept (n + 1) keep (get_or (kept_from (n + 1) keep) i 0) = kept_flag (n + 1) keep i lt
    in record { place = suc rest.place; is = rest.is ∙ omega arith; on = rest.on }

pub kept_rise : (n : ℕ) (keep : List Bool) (i : ℕ) → i + 1 < length (kept_from n keep)
    → get_or (kept_from n keep) i 0 < get_or (kept_from n keep) (i + 1) 0
kept_rise n [] i lt = absurd (omega arith)
kept_rise n (true ∷ keep) zero lt =
    let next : IsKept (n + 1) keep (get_or (kept_from (n + 1) keep) 0 0) = kept_flag (n + 1) keep 0 (omega arith)
    in omega (arith, next.is)
kept_rise n (true ∷ keep) (suc i) lt =
    let rest : get_or (kept_from (n + 1) keep) i 0 < get_or (kept_from (n + 1) keep) (i + 1) 0 = kept_rise (n + 1) keep i (omega arith)
    in let e : suc i + 1 ≡ suc (i + 1) = omega arith
    in rw e rest
kept_rise n (false ∷ keep) i lt = kept_rise (n + 1) keep i lt

pub kept_many : (n : ℕ) (keep : List Bool) → length (kept_from n keep) ≡ count_by (λ flag. flag) keep
kept_many n [] = refl
kept_many n (true ∷ keep) =
    let step : count_by (λ flag. flag) (true ∷ keep) ≡ 1 + count_by (λ flag. flag) keep = sum_by-cons (λ flag. cond flag 1 0) true keep
    in omega (arith, step, kept_many (n + 1) keep)
kept_many n (false ∷ keep) =
    let step : count_by (λ flag. flag) (false ∷ keep) ≡ 0 + count_by (λ flag. flag) keep = sum_by-cons (λ flag. cond flag 1 0) false keep
    in omega (arith, step, kept_many (n + 1) keep)

pub are_kept : (keep : List Bool) → AreKept keep
are_kept keep = record {
  flagged = λ u. (found u, λ on. subst (Contains (kept_from 0 keep)) (zero-add u) (kept_found 0 keep u on));
  increasing = λ i lt. kept_rise 0 keep i lt;
  count = kept_many 0 keep;
}
  where
    found : (u : ℕ) → Contains (kept_from 0 keep) u → get_or keep u false ≡ true
    found u (i, lt, at) =
        let kept : IsKept 0 keep (get_or (kept_from 0 keep) i 0) = kept_flag 0 keep i lt
        in let read : get_or (kept_from 0 keep) i 0 ≡ u = get_or_default (kept_from 0 keep) i 0 u lt ∙ at
        in let same : u ≡ kept.place = sym read ∙ kept.is ∙ zero-add kept.place
        in ap (λ w. get_or keep w false) same ∙ kept.on

sum_before : (part : ℕ) (parts : List ℕ) (u : ℕ) → sum (take (suc u) (part ∷ parts)) ≡ part + sum (take u parts)
sum_before part parts u = sum_by-cons (λ x. x) part (take u parts)

copy_at : (n : ℕ) (parts : List ℕ) (u copy : ℕ) → u < length parts → copy < get_or parts u 0
    → (sum (take u parts) + copy < sum parts) × (get_or (copies_from n parts) (sum (take u parts) + copy) 0 ≡ n + u)
copy_at n [] u copy lt some = absurd (omega arith)
copy_at n (part ∷ parts) zero copy lt some =
    let none : sum (take 0 (part ∷ parts)) + copy ≡ copy = omega arith
    in (
      omega (arith, sum_by-cons (λ x. x) part parts, none),
      rw none
          (get_or_append_left (replicate part n) (copies_from (n + 1) parts) 0 copy (rw (length-replicate part n) some)
          ∙ get_or-replicate part copy n 0 some ∙ sym (add-zero n)),
    )
copy_at n (part ∷ parts) (suc u) copy lt some =
    let later : (sum (take u parts) + copy < sum parts)
    × (get_or (copies_from (n + 1) parts) (sum (take u parts) + copy) 0 ≡ n + 1 + u)
    = copy_at (n + 1) parts u copy (omega arith) some
    in let before : sum (take (suc u) (part ∷ parts)) ≡ part + sum (take u parts) = sum_before part parts u
    in let place : sum (take (suc u) (part ∷ parts)) + copy ≡ length (replicate part n) + (sum (take u parts) + copy)
    = omega (arith, length-replicate part n, before)
    in (
      omega (arith, sum_by-cons (λ x. x) part parts, before, later.0),
      rw place
          (get_or-append-add (replicate part n) (copies_from (n + 1) parts) (sum (take u parts) + copy) 0 ∙ later.1 ∙ omega arith),
    )

copy_back : (parts : List ℕ) (place : ℕ) → place < sum parts → IsCopy parts place
copy_back [] place lt = absurd (omega arith)
copy_back (part ∷ parts) place lt = at (cases_lt place part) (λ before below. copy_back parts before below)
  where
    at : (place < part) ⊎ (part ≤ place) → ((before : ℕ) → before < sum parts → IsCopy parts before) → IsCopy (part ∷ parts) place
    at (inl first) back = record {
      individual = 0;
      copy = place;
      is_individual = omega arith;
      is_copy = first;
      is_place = omega arith;
    }
    at (inr later) back =
        let rest : IsCopy parts (place - part) = back (place - part) (omega (arith, sum_by-cons (λ x. x) part parts))
        in record {
          individual = suc rest.individual;
          copy = rest.copy;
          is_individual = omega (arith, rest.is_individual);
          is_copy = rest.is_copy;
          is_place = omega (arith, rest.is_place, sum_before part parts rest.individual);
        }

pub are_copies : (parts : List ℕ) → AreCopies parts
are_copies parts = record {
  count = copies_count 0 parts;
  place = λ u copy lt some.
      (let found : (sum (take u parts) + copy < sum parts) × (get_or (copies_from 0 parts) (sum (take u parts) + copy) 0 ≡ 0 + u)
      = copy_at 0 parts u copy lt some
      in record { is_place = found.0; origin = found.1 ∙ zero-add u });
  back = λ place lt. copy_back parts place lt;
}
