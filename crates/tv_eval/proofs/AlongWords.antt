-- Words of values along a variable.
use Rattle.std.proofs.Common.{ℕ, ◌≡◌, ◌<◌, ◌≤◌, ◌+◌, ◌-◌, ◌*◌, ◌/◌, ◌%◌, ◌≢◌, ◌⊎◌, ⊎_elim, inl, zero}
use Rattle.std.proofs.Common.{suc, cond, List}
use Rattle.std.proofs.Common.{[], ◌∷◌, ◌++◌, length, map, get_or, set, take, replicate, min, refl, sym, ap}
use Rattle.std.proofs.Common.{◌∙◌, ◌==◌, if◌then◌else◌, eqb, eq-eqb, ne_eqb, arith}
use Rattle.std.specs.List.{range_with_len}
use Rattle.std.proofs.lemmas.Bool.{cases_eq, cases_lt, lt-ltb, cond-true, cond-false}
use Rattle.std.proofs.lemmas.List.{length-replicate, get_or-replicate, length-set, get_or-set_same}
use Rattle.std.proofs.lemmas.List.{get_or-set_other, length-map, get_or-map, length-take, get_or-take}
use Rattle.std.proofs.lemmas.List.FromFn.{fill_by_all, length-map-range_with_len, get_or-map-range_with_len}
use Rattle.tv_kleene.specs.declared.K3.{K3}
use Rattle.tv_kleene.specs.declared.K3.TheVariants.{No, Half, Yes}
use Rattle.tv_kleene.specs.Kleene.{smaller_of, larger_of, negation_of}
use Rattle.tv_row.specs.Bits.{paired, padded, greatest_in, least_in}
use Rattle.tv_row.proofs.Extremes.{all_yes}
use Rattle.tv_row.proofs.Greatest.{greatest_padded}
use Rattle.tv_row.proofs.WordOps.{length-paired, get_or-paired, length-padded, get_or-padded}
use Rattle.tv_eval_laws.specs.Value.{same_value, greatest_of}
use Rattle.tv_embedding_laws.specs.LogicalStructure.{LogicalStructure}
use Rattle.tv_eval.specs.Along.{IsWordOf}
use Rattle.tv_eval.proofs.Loops.{larger-assoc, greatest-next, greatest-end, greatest-yes, larger-none}

-- ---- words made at once

-- the first values are one value
pub of-constant : (n chunk count : ℕ) (k : K3) (g : ℕ → K3) (word : List K3) → word ≡ padded count (replicate 64 k)
    → min 64 (n - 64 * chunk) ≤ count → count ≤ 64 → ((u : ℕ) → k ≡ g u) → IsWordOf n chunk g word
of-constant n chunk count k g word is enough le same = record {
  long = ap length is ∙ length-padded count (replicate 64 k) le (length-replicate 64 k);
  each = λ i low within. ap (λ ks. get_or ks i No) is
      ∙ get_or-padded count (replicate 64 k) i le (length-replicate 64 k) low
      ∙ ap (λ t. cond t (get_or (replicate 64 k) i No) No) (lt-ltb i count (omega arith))
      ∙ get_or-replicate 64 i k No low
      ∙ same (64 * chunk + i);
}

-- values that are the same one by one
pub same-word : (n chunk : ℕ) (g h : ℕ → K3) (word : List K3) → IsWordOf n chunk g word
    → ((u : ℕ) → u < n → g u ≡ h u) → IsWordOf n chunk h word
same-word n chunk g h word is same = record {
  long = is.long;
  each = λ i low within. is.each i low within ∙ same (64 * chunk + i) within;
}

-- the values of two words, place by place
pub of-paired : (n chunk : ℕ) (op : K3 → K3 → K3) (g h : ℕ → K3) (x y word : List K3) → IsWordOf n chunk g x
    → IsWordOf n chunk h y → word ≡ paired op x y → IsWordOf n chunk (λ u. op (g u) (h u)) word
of-paired n chunk op g h x y word a b is = record {
  long = ap length is ∙ length-paired op x y (a.long ∙ sym b.long) ∙ a.long;
  each = λ i low within. ap (λ ks. get_or ks i No) is
      ∙ get_or-paired op x y i (omega (arith, a.long)) (omega (arith, b.long))
      ∙ ap (λ k. op k (get_or y i No)) (a.each i low within) ∙ ap (op (g (64 * chunk + i))) (b.each i low within);
}

pub of-mapped : (n chunk count : ℕ) (f : K3 → K3) (g : ℕ → K3) (x word : List K3) → IsWordOf n chunk g x
    → count ≡ min 64 (n - 64 * chunk) → word ≡ padded count (map f x) → IsWordOf n chunk (λ u. f (g u)) word
of-mapped n chunk count f g x word a e is =
    let le : count ≤ 64 = omega arith
    in let len : length (map f x) ≡ 64 = length-map x f ∙ a.long
    in record {
      long = ap length is ∙ length-padded count (map f x) le len;
      each = λ i low within. ap (λ ks. get_or ks i No) is
          ∙ get_or-padded count (map f x) i le len low
          ∙ ap (λ t. cond t (get_or (map f x) i No) No) (lt-ltb i count (omega arith))
          ∙ get_or-map f x i No No (omega (arith, a.long))
          ∙ ap f (a.each i low within);
    }

pub mapped-word : (n chunk : ℕ) (f : K3 → K3) (g : ℕ → K3) (x : List K3) → IsWordOf n chunk g x
    → IsWordOf n chunk (λ u. f (g u)) (map f x)
mapped-word n chunk f g x a = record {
  long = length-map x f ∙ a.long;
  each = λ i low within. get_or-map f x i No No (omega (arith, a.long)) ∙ ap f (a.each i low within);
}

-- ---- words made one value after the other

-- a value at one place, and No at all others
pub alone-here : (n chunk u : ℕ) (k : K3) (g : ℕ → K3) (none word : List K3) → none ≡ padded 64 (replicate 64 No)
    → u / 64 ≡ chunk → word ≡ set none (u % 64) k → k ≡ g u → ((w : ℕ) → w ≢ u → No ≡ g w) → IsWordOf n chunk g word
alone-here n chunk u k g none word is at new here others =
    let len : length none ≡ 64 =
    ap length is ∙ length-padded 64 (replicate 64 No) (omega arith) (length-replicate 64 No)
    in record {
      long = ap length new ∙ length-set none (u % 64) k ∙ len;
      each = λ i low within. ap (λ ks. get_or ks i No) new
          ∙ ⊎_elim
          (λ e. ap (λ p. get_or (set none (u % 64) k) p No) e
          ∙ get_or-set_same none (u % 64) k No (omega (arith, len)) ∙ here ∙ ap g (omega arith))
          (λ ne. get_or-set_other none (u % 64) i k No ne ∙ ap (λ ks. get_or ks i No) is
          ∙ get_or-padded 64 (replicate 64 No) i (omega arith) (length-replicate 64 No) low
          ∙ ap (λ t. cond t (get_or (replicate 64 No) i No) No) (lt-ltb i 64 low)
          ∙ get_or-replicate 64 i No No low
          ∙ others (64 * chunk + i) (λ e. ne (omega arith)))
          (cases_eq i (u % 64));
    }

pub alone-elsewhere : (n chunk u : ℕ) (g : ℕ → K3) (none : List K3) → none ≡ padded 64 (replicate 64 No)
    → u / 64 ≢ chunk → ((w : ℕ) → w ≢ u → No ≡ g w) → IsWordOf n chunk g none
alone-elsewhere n chunk u g none is ne others = record {
  long = ap length is ∙ length-padded 64 (replicate 64 No) (omega arith) (length-replicate 64 No);
  each = λ i low within. ap (λ ks. get_or ks i No) is
      ∙ get_or-padded 64 (replicate 64 No) i (omega arith) (length-replicate 64 No) low
      ∙ ap (λ t. cond t (get_or (replicate 64 No) i No) No) (lt-ltb i 64 low)
      ∙ get_or-replicate 64 i No No low
      ∙ others (64 * chunk + i) (λ e. ne (omega arith));
}

-- the same, the other way round
pub turned : (u w : ℕ) (k : K3) → (if w == u then k else No) ≡ (if u == w then k else No)
turned u w k = ⊎_elim
    (λ e. cond-true (eqb w u) k No (eq-eqb w u e) ∙ sym (cond-true (eqb u w) k No (eq-eqb u w (sym e))))
    (λ ne. cond-false (eqb w u) k No (ne_eqb w u ne)
    ∙ sym (cond-false (eqb u w) k No (ne_eqb u w (λ e. ne (sym e)))))
    (cases_eq w u)

-- whether an individual is one cell with u
pub same_at : (s : LogicalStructure) (u w : ℕ) (k : K3) → k ≡ same_value s u u
    → (if w == u then k else No) ≡ same_value s w u
same_at s u w k is = ⊎_elim
    (λ e. cond-true (eqb w u) k No (eq-eqb w u e) ∙ is ∙ ap (λ x. same_value s x u) (sym e))
    (λ ne. cond-false (eqb w u) k No (ne_eqb w u ne)
    ∙ sym (cond-false (eqb w u) (if s.is_summary w then Half else Yes) No (ne_eqb w u ne)))
    (cases_eq w u)

-- ---- where one word decides

larger-left : (x y : K3) → larger_of x y ≡ No → x ≡ No
larger-left No y e = refl
larger-left Half No e = cc
larger-left Half Half e = cc
larger-left Half Yes e = cc
larger-left Yes y e = cc

larger-right : (x y : K3) → larger_of x y ≡ No → y ≡ No
larger-right No y e = e
larger-right Half No e = refl
larger-right Half Half e = cc
larger-right Half Yes e = cc
larger-right Yes y e = cc

-- where the greatest value is No, each is
pub none-in : (xs : List K3) (i : ℕ) → greatest_in xs ≡ No → get_or xs i No ≡ No
none-in [] i e = refl
none-in (k ∷ xs) zero e = larger-left k (greatest_in xs) e
none-in (k ∷ xs) (suc i) e = none-in xs i (larger-right k (greatest_in xs) e)

-- where the least of the first n values is Yes, each of them is
all-in : (n : ℕ) (xs : List K3) (i : ℕ) → least_in (take n xs) ≡ Yes → i < n → i < length xs → get_or xs i No ≡ Yes
all-in n xs i e lt within =
    let long : length (take n xs) ≡ min n (length xs) = length-take n xs
    in sym (get_or-take n xs i No lt) ∙ (all_yes (take n xs)).0 e i No (omega arith)

least-none : (k : K3) → smaller_of k No ≡ No
least-none No = refl
least-none Half = refl
least-none Yes = refl

greatest-all : (k : K3) → larger_of k Yes ≡ Yes
greatest-all No = refl
greatest-all Half = refl
greatest-all Yes = refl

module _ (n chunk : ℕ) (g : ℕ → K3) (x : List K3) (is : IsWordOf n chunk g x) where
  pub both-none : (h : ℕ → K3) → greatest_in x ≡ No → IsWordOf n chunk (λ u. smaller_of (g u) (h u)) x
  both-none h e = record {
    long = is.long;
    each = λ i low within.
        let none : get_or x i No ≡ No = none-in x i e
        in none ∙ sym (ap (λ k. smaller_of k (h (64 * chunk + i))) (sym (is.each i low within) ∙ none));
  }

  pub none-both : (f : ℕ → K3) → greatest_in x ≡ No → IsWordOf n chunk (λ u. smaller_of (f u) (g u)) x
  none-both f e = record {
    long = is.long;
    each = λ i low within.
        let none : get_or x i No ≡ No = none-in x i e
        in none ∙ sym (ap (smaller_of (f (64 * chunk + i))) (sym (is.each i low within) ∙ none)
        ∙ least-none (f (64 * chunk + i)));
  }

  all-at : (count : ℕ) → count ≡ min 64 (n - 64 * chunk) → least_in (take count x) ≡ Yes
      → (i : ℕ) → i < 64 → 64 * chunk + i < n → get_or x i No ≡ Yes
  all-at count e all i low within =
      let long : length x ≡ 64 = is.long
      in all-in count x i all (omega arith) (omega arith)

  pub either-all : (h : ℕ → K3) (count : ℕ) → count ≡ min 64 (n - 64 * chunk) → least_in (take count x) ≡ Yes
      → IsWordOf n chunk (λ u. larger_of (g u) (h u)) x
  either-all h count e all = record {
    long = is.long;
    each = λ i low within.
        let yes : get_or x i No ≡ Yes = all-at count e all i low within
        in yes ∙ sym (ap (λ k. larger_of k (h (64 * chunk + i))) (sym (is.each i low within) ∙ yes));
  }

  pub all-either : (f : ℕ → K3) (count : ℕ) → count ≡ min 64 (n - 64 * chunk) → least_in (take count x) ≡ Yes
      → IsWordOf n chunk (λ u. larger_of (f u) (g u)) x
  all-either f count e all = record {
    long = is.long;
    each = λ i low within.
        let yes : get_or x i No ≡ Yes = all-at count e all i low within
        in yes ∙ sym (ap (larger_of (f (64 * chunk + i))) (sym (is.each i low within) ∙ yes)
        ∙ greatest-all (f (64 * chunk + i)));
  }

  pub then-all : (f h : ℕ → K3) (y : List K3) (count : ℕ) → count ≡ min 64 (n - 64 * chunk)
      → least_in (take count x) ≡ Yes → IsWordOf n chunk f y
      → IsWordOf n chunk (λ u. larger_of (smaller_of (g u) (f u)) (smaller_of (negation_of (g u)) (h u))) y
  then-all f h y count e all first = record {
    long = first.long;
    each = λ i low within.
        let u : ℕ = 64 * chunk + i
        in first.each i low within
        ∙ sym (ap (λ k. larger_of (smaller_of k (f u)) (smaller_of (negation_of k) (h u)))
        (sym (is.each i low within) ∙ all-at count e all i low within) ∙ larger-none (f u));
  }

  pub then-none : (f h : ℕ → K3) (y : List K3) → greatest_in x ≡ No → IsWordOf n chunk h y
      → IsWordOf n chunk (λ u. larger_of (smaller_of (g u) (f u)) (smaller_of (negation_of (g u)) (h u))) y
  then-none f h y none other = record {
    long = other.long;
    each = λ i low within.
        let u : ℕ = 64 * chunk + i
        in other.each i low within
        ∙ sym (ap (λ k. larger_of (smaller_of k (f u)) (smaller_of (negation_of k) (h u)))
        (sym (is.each i low within) ∙ none-in x i none));
  }

-- ---- words joined over all individuals

-- with the values of the individuals from x on, the joined values give the greatest
pub record JoinedTo (n chunk x : ℕ) (g : ℕ → ℕ → K3) (found : List K3) : Type 0 where
  pub long : length found ≡ 64
  pub each : (i : ℕ) → i < 64 → 64 * chunk + i < n
      → larger_of (get_or found i No) (greatest_of (g (64 * chunk + i)) (range_with_len x (n - x)))
      ≡ greatest_of (g (64 * chunk + i)) (range_with_len 0 n)

pub joined-none : (n chunk : ℕ) (g : ℕ → ℕ → K3) (found : List K3) → found ≡ padded 64 (replicate 64 No)
    → JoinedTo n chunk 0 g found
joined-none n chunk g found is =
    let word : IsWordOf n chunk (λ u. No) found = of-constant n chunk 64 No (λ u. No) found is (omega arith)
    (omega arith) (λ u. refl)
    in let whole : n - 0 ≡ n = omega arith
    in record {
      long = word.long;
      each = λ i low within.
          ap (λ m. larger_of (get_or found i No) (greatest_of (g (64 * chunk + i)) (range_with_len 0 m))) whole
          ∙ ap (λ y. larger_of y (greatest_of (g (64 * chunk + i)) (range_with_len 0 n))) (word.each i low within);
    }

pub joined-next : (n chunk x : ℕ) (g : ℕ → ℕ → K3) (found row new : List K3) → x < n
    → IsWordOf n chunk (λ u. g u x) row → JoinedTo n chunk x g found → new ≡ paired larger_of found row
    → JoinedTo n chunk (x + 1) g new
joined-next n chunk x g found row new lt is before e =
    let wide : length row ≡ 64 = is.long
    in let long : length found ≡ 64 = before.long
    in record {
      long = ap length e ∙ length-paired larger_of found row (long ∙ sym wide) ∙ long;
      each = λ i low within.
          greatest-next (g (64 * chunk + i)) n x (get_or found i No) (get_or new i No)
          (greatest_of (g (64 * chunk + i)) (range_with_len 0 n)) lt (before.each i low within)
          (ap (λ ks. get_or ks i No) e ∙ get_or-paired larger_of found row i (omega arith) (omega arith)
          ∙ ap (larger_of (get_or found i No)) (is.each i low within));
    }

module _ (n chunk x : ℕ) (g : ℕ → ℕ → K3) (found : List K3) (joined : JoinedTo n chunk x g found) where
  pub joined-all : n ≤ x → IsWordOf n chunk (λ u. greatest_of (g u) (range_with_len 0 n)) found
  joined-all le = record {
    long = joined.long;
    each = λ i low within.
        greatest-end (g (64 * chunk + i)) n x (get_or found i No)
        (greatest_of (g (64 * chunk + i)) (range_with_len 0 n)) le (joined.each i low within);
  }

  -- all are Yes already
  pub joined-yes : (count : ℕ) → count ≡ min 64 (n - 64 * chunk) → least_in (take count found) ≡ Yes
      → IsWordOf n chunk (λ u. greatest_of (g u) (range_with_len 0 n)) found
  joined-yes count e all =
      let long : length found ≡ 64 = joined.long
      in record {
        long = joined.long;
        each = λ i low within.
            greatest-yes (g (64 * chunk + i)) (range_with_len x (n - x)) (get_or found i No)
            (greatest_of (g (64 * chunk + i)) (range_with_len 0 n)) (joined.each i low within)
            (all-in count found i all (omega arith) (omega arith));
      }

-- ---- all words of a formula

-- a range in two parts
range-split : (a m k : ℕ) → range_with_len a (m + k) ≡ range_with_len a m ++ range_with_len (a + m) k
range-split a zero k =
    let e : zero + k ≡ k = omega arith
    in let f : a ≡ a + zero = omega arith
    in ap (range_with_len a) e ∙ ap (λ b. range_with_len b k) f
range-split a (suc m) k =
    let e : suc m + k ≡ suc (m + k) = omega arith
    in let f : a + 1 + m ≡ a + suc m = omega arith
    in ap (range_with_len a) e
    ∙ ap (λ us. a ∷ us) (range-split (a + 1) m k ∙ ap (λ b. range_with_len (a + 1) m ++ range_with_len b k) f)

greatest-parts : (g : ℕ → K3) (us vs : List ℕ) → greatest_of g (us ++ vs) ≡ larger_of (greatest_of g us) (greatest_of g vs)
greatest-parts g [] vs = refl
greatest-parts g (u ∷ us) vs =
    ap (larger_of (g u)) (greatest-parts g us vs) ∙ sym (larger-assoc (g u) (greatest_of g us) (greatest_of g vs))

-- the values at the individuals from a on
greatest-listed : (g : ℕ → K3) (xs : List K3) (a m : ℕ) → length xs ≡ m
    → ((i : ℕ) → i < m → get_or xs i No ≡ g (a + i)) → greatest_in xs ≡ greatest_of g (range_with_len a m)
greatest-listed g [] a zero e each = refl
greatest-listed g [] a (suc m) e each = absurd (omega arith)
greatest-listed g (k ∷ xs) a zero e each = absurd (omega arith)
greatest-listed g (k ∷ xs) a (suc m) e each =
    let f : a + 0 ≡ a = omega arith
    in let here : k ≡ g a = each 0 (omega arith) ∙ ap g f
    in let later : greatest_in xs ≡ greatest_of g (range_with_len (a + 1) m) =
    greatest-listed g xs (a + 1) m (omega arith)
    (λ i lt. let s : a + suc i ≡ a + 1 + i = omega arith in each (suc i) (omega arith) ∙ ap g s)
    in ap (λ y. larger_of y (greatest_in xs)) here ∙ ap (larger_of (g a)) later

-- the individuals of one word more
range-chunk : (n chunk count : ℕ) → 64 * chunk < n → count ≡ min 64 (n - 64 * chunk)
    → range_with_len (64 * chunk) (n - 64 * chunk)
    ≡ range_with_len (64 * chunk) count ++ range_with_len (64 * (chunk + 1)) (n - 64 * (chunk + 1))
range-chunk n chunk count lt e =
    let a : ℕ = 64 * chunk
    in let b : ℕ = 64 * (chunk + 1)
    in let whole : n - a ≡ count + (n - b) = omega arith
    in ap (range_with_len a) whole ∙ range-split a count (n - b)
    ∙ ap (λ us. range_with_len a count ++ us)
    (⊎_elim
    (λ some. let f : a + count ≡ b = omega arith in ap (λ c. range_with_len c (n - b)) f)
    (λ none.
    let f : n - b ≡ 0 = omega arith
    in ap (range_with_len (a + count)) f ∙ sym (ap (range_with_len b) f))
    (cases_lt b n))

module _ (n chunk count : ℕ) (g : ℕ → K3) (word : List K3) (lt : 64 * chunk < n)
    (e : count ≡ min 64 (n - 64 * chunk)) (is : IsWordOf n chunk g word) where
  first-values : (i : ℕ) → i < count → get_or (take count word) i No ≡ g (64 * chunk + i)
  first-values i l = get_or-take count word i No l ∙ is.each i (omega arith) (omega arith)

  first-long : length (take count word) ≡ count
  first-long = let long : length word ≡ 64 = is.long in length-take count word ∙ (omega arith)

  pub greatest-chunk : (found k next whole : K3) (first : List K3) → first ≡ padded count word → k ≡ greatest_in first
      → next ≡ larger_of found k
      → larger_of found (greatest_of g (range_with_len (64 * chunk) (n - 64 * chunk))) ≡ whole
      → larger_of next (greatest_of g (range_with_len (64 * (chunk + 1)) (n - 64 * (chunk + 1)))) ≡ whole
  unfolding padded
  greatest-chunk found k next whole first cut own now before =
      let these : List ℕ = range_with_len (64 * chunk) count
      in let later : List ℕ = range_with_len (64 * (chunk + 1)) (n - 64 * (chunk + 1))
      in let value : k ≡ greatest_of g these = own ∙ ap greatest_in cut ∙ greatest_padded (take count word) (64 - count)
      ∙ greatest-listed g (take count word) (64 * chunk) count first-long first-values
      in ap (λ y. larger_of y (greatest_of g later)) (now ∙ ap (larger_of found) value)
      ∙ larger-assoc found (greatest_of g these) (greatest_of g later)
      ∙ ap (larger_of found) (sym (ap (greatest_of g) (range-chunk n chunk count lt e)
      ∙ greatest-parts g these later))
      ∙ before

-- the individuals behind the last word
range-past : (n chunk : ℕ) → n ≤ 64 * chunk → range_with_len (64 * chunk) (n - 64 * chunk) ≡ []
range-past n chunk le = let none : n - 64 * chunk ≡ 0 = omega arith in ap (range_with_len (64 * chunk)) none

pub greatest-chunks : (n chunk : ℕ) (g : ℕ → K3) (found whole : K3) → n ≤ 64 * chunk
    → larger_of found (greatest_of g (range_with_len (64 * chunk) (n - 64 * chunk))) ≡ whole → found ≡ whole
greatest-chunks n chunk g found whole le before =
    sym (ap (λ us. larger_of found (greatest_of g us)) (range-past n chunk le) ∙ larger-none found) ∙ before

-- a word's value
pub word-reads : (n y : ℕ) (g : ℕ → K3) (word : List K3) (k : K3) → IsWordOf n (y / 64) g word
    → k ≡ get_or word (y % 64) No → y < n → k ≡ g y
word-reads n y g word k is read lt =
    let at : 64 * (y / 64) + y % 64 ≡ y = omega arith
    in read ∙ is.each (y % 64) (omega arith) (omega arith) ∙ ap g at

-- ---- rows of words

-- a word of a row
pub row-word : (n chunk : ℕ) (g : ℕ → K3) (row word : List K3) → row ≡ map g (range_with_len 0 n) → length word ≡ 64
    → ((i : ℕ) → i < 64 → 64 * chunk + i < length row → get_or word i No ≡ get_or row (64 * chunk + i) No)
    → IsWordOf n chunk g word
row-word n chunk g row word is long values =
    let size : length row ≡ n = ap length is ∙ length-map-range_with_len g 0 n
    in record {
      long = long;
      each = λ i low within. values i low (omega arith) ∙ ap (λ ks. get_or ks (64 * chunk + i) No) is
          ∙ get_or-map-range_with_len g 0 n (64 * chunk + i) (64 * chunk + i) No within (omega arith);
    }

-- the values before the word are there
pub record HasWords (n chunk : ℕ) (g : ℕ → K3) (row : List K3) : Type 0 where
  pub long : length row ≡ n
  pub done : (u : ℕ) → u < 64 * chunk → u < n → get_or row u No ≡ g u

pub words-none : (n size : ℕ) (g : ℕ → K3) (row : List K3) → row ≡ replicate size No → size ≡ n → HasWords n 0 g row
words-none n size g row is e = record {
  long = ap length is ∙ length-replicate size No ∙ e;
  done = λ u lt within. absurd (omega arith);
}

pub words-next : (n chunk : ℕ) (g : ℕ → K3) (row new word : List K3) → HasWords n chunk g row
    → IsWordOf n chunk g word → length new ≡ length row
    → ((i : ℕ) → i < 64 → 64 * chunk + i < length row → get_or new (64 * chunk + i) No ≡ get_or word i No)
    → ((u : ℕ) → (u < 64 * chunk) ⊎ (64 * chunk + 64 ≤ u) → get_or new u No ≡ get_or row u No)
    → HasWords n (chunk + 1) g new
words-next n chunk g row new word before is size values others = record {
  long = size ∙ before.long;
  done = λ u lt within. ⊎_elim
      (λ early. others u (inl early) ∙ before.done u early within)
      (λ late.
      let i : ℕ = u - 64 * chunk
      in let at : 64 * chunk + i ≡ u = omega arith
      in let long : length row ≡ n = before.long
      in ap (λ p. get_or new p No) (sym at) ∙ values i (omega arith) (omega arith)
      ∙ is.each i (omega arith) (omega arith) ∙ ap g at)
      (cases_lt u (64 * chunk));
}

pub words-all : (n chunk : ℕ) (g : ℕ → K3) (row : List K3) → HasWords n chunk g row → n ≤ 64 * chunk
    → row ≡ map g (range_with_len 0 n)
words-all n chunk g row has le = fill_by_all g row n No has.long (λ u lt. has.done u (omega arith) lt)
