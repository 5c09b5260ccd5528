-- A heap that embeds in a structure lies, once renumbered by its fibres, below a split of it.
use Rattle.std.proofs.Common.{ℕ, zero, suc, ◌≡◌, ◌≢◌, ◌<◌, ◌≤◌, ◌+◌, ◌⊎◌, List, [], ◌∷◌, ◌++◌, map, length}
use Rattle.std.proofs.Common.{get_or}
use Rattle.std.proofs.Common.{replicate, All, AllPairs}
use Rattle.std.proofs.Common.{Contains, true, false, true≢false, inl, inr, refl, sym, ap, subst, ◌∙◌, ⊎_elim}
use Rattle.std.proofs.Common.{arith}
use Rattle.std.specs.Prelude.{◌==◌, sum}
use Rattle.std.specs.List.{range_with_len}
use Rattle.std.proofs.lemmas.Bool.{cases_eq, cases_lt, cond-true, cond-false, eqb-true, eq-eqb, ne_eqb}
use Rattle.std.proofs.lemmas.List.{length-map, get_or-map, get_or_default, map-append, map-id}
use Rattle.std.proofs.lemmas.List.Elements.{All-head, All-tail, All-weaker, All-append, All-contains}
use Rattle.std.proofs.lemmas.List.Elements.{All-from_get_or}
use Rattle.std.proofs.lemmas.List.Elements.{filter_passes, Contains-append_left, Contains-append_right}
use Rattle.std.proofs.lemmas.List.Elements.{Contains-append_cases, Contains-get_or}
use Rattle.std.proofs.lemmas.List.FromFn.{length-range_with_len, get_or-range_with_len}
use Rattle.std.proofs.lemmas.List.Kept.{AllPairs-cons, AllPairs-filter}
use Rattle.std.proofs.lemmas.List.Sums.{sum_by-cons}
use Rattle.tv_kleene.specs.Kleene.{LiesUnder}
use Rattle.tv_model.specs.Heap.{Heap, extent}
use Rattle.tv_model.proofs.Decided.{tuple-decided}
use Rattle.tv_model.proofs.Lists.{Contains-none, Contains-here, Contains-there, Contains-filter}
use Rattle.tv_model.proofs.Lists.{Contains-filter_back}
use Rattle.tv_model.proofs.Lists.{All-from_contains, map-agreed}
use Rattle.tv_model.proofs.Lists.{map-compose}
use Rattle.tv_embedding_laws.specs.Embedding.{Embeds, IsHeapOf}
use Rattle.tv_embedding_laws.specs.LogicalStructure.{heap_structure}
use Rattle.tv_renaming_laws.specs.Renamed.{renamed, IsRenaming}
use Rattle.tv_renaming_laws.proofs.Fronts.{fronts_are_renamings}
use Rattle.tv_renaming_laws.proofs.Names.{among-back, all-among_back, holds-back}
use Rattle.tv_structure_form.specs.StructureForm.{StructureForm, IsStructure, structure_of, summary_at}
use Rattle.tv_structure_form.specs.StructureForm.{value_at, split}
use Rattle.tv_structure_form.specs.StructureForm.{copies_from}
use Rattle.tv_structure_form.proofs.Library.{below-range, Contains-range, AreIndividuals-range}
use Rattle.tv_structure_form.proofs.OriginLaws.{copies_count}
use Rattle.tv_structure_form.proofs.StructureLaws.{drawn_reads}
use Rattle.tv_start_laws.specs.Laws.{FibresAreCopies, OrdinariesFit}
use Rattle.tv_start_laws.specs.Starts.{LiesBelow, FitsBelow, fibre, fibre_sizes}
use Rattle.tv_start_laws.proofs.Copying.{renaming-back, value-of, copy-back, copy-renamed, lies-kept}

-- ---- different individuals

pairs-head : (x : ℕ) (xs : List ℕ) → AllPairs ◌≢◌ (x ∷ xs) → (y : ℕ) → Contains xs y → x ≢ y
pairs-head x xs apart y (k, lt, is) same = apart zero (suc k) y (omega arith) (omega (arith, lt)) (same ∙ sym is)

pairs-tail : (x : ℕ) (xs : List ℕ) → AllPairs ◌≢◌ (x ∷ xs) → AllPairs ◌≢◌ xs
pairs-tail x xs apart i j d lt within = apart (suc i) (suc j) d (omega (arith, lt)) (omega (arith, within))

pairs-append : (xs ys : List ℕ) → AllPairs ◌≢◌ xs → AllPairs ◌≢◌ ys
    → ((x y : ℕ) → Contains xs x → Contains ys y → x ≢ y)
    → AllPairs ◌≢◌ (xs ++ ys)
pairs-append [] ys one two cross = two
pairs-append (x ∷ xs) ys one two cross =
    AllPairs-cons ◌≢◌ x (xs ++ ys)
    (All-append (λ y. x ≢ y) xs ys
    (All-from_contains (λ y. x ≢ y) xs (λ y at. pairs-head x xs one y at))
    (All-from_contains (λ y. x ≢ y) ys (λ y at. cross x y (Contains-here x xs) at)))
    (pairs-append xs ys (pairs-tail x xs one) two (λ z y at there. cross z y (Contains-there x z xs at) there))

-- ---- one fibre

in-fibre : (f : ℕ → ℕ) (us : List ℕ) (w u : ℕ) → Contains us u → f u ≡ w → Contains (fibre f us w) u
in-fibre f us w u at goes = Contains-filter (λ x. f x == w) us u at (eq-eqb (f u) w goes)

of-fibre : (f : ℕ → ℕ) (us : List ℕ) (w u : ℕ) → Contains (fibre f us w) u → Contains us u × (f u ≡ w)
of-fibre f us w u at =
    let both = Contains-filter_back (λ x. f x == w) us u at
    in (both.0, eqb-true (f u) w both.1)

all-same : (f : ℕ → ℕ) (n : ℕ) (xs : List ℕ) → All (λ x. (f x == n) ≡ true) xs → map f xs ≡ replicate (length xs) n
all-same f n [] all = refl
all-same f n (x ∷ xs) all =
    ap (λ u. u ∷ map f xs) (eqb-true (f x) n (All-head (λ y. (f y == n) ≡ true) x xs all))
    ∙ ap (λ us. n ∷ us) (all-same f n xs (All-tail (λ y. (f y == n) ≡ true) x xs all))

fibre-more : (f : ℕ → ℕ) (u : ℕ) (us : List ℕ) (w : ℕ) → f u ≡ w
    → length (fibre f (u ∷ us) w) ≡ suc (length (fibre f us w))
fibre-more f u us w goes = ap length (cond-true (f u == w) (u ∷ fibre f us w) (fibre f us w) (eq-eqb (f u) w goes))

fibre-same : (f : ℕ → ℕ) (u : ℕ) (us : List ℕ) (w : ℕ) → (f u ≡ w → ⊥)
    → length (fibre f (u ∷ us) w) ≡ length (fibre f us w)
fibre-same f u us w ne = ap length (cond-false (f u == w) (u ∷ fibre f us w) (fibre f us w) (ne_eqb (f u) w ne))

-- ---- all fibres, one after the other

abbrev fibres : (f : ℕ → ℕ) → List ℕ → (n m : ℕ) → List ℕ
fibres f us n zero = []
fibres f us n (suc m) = fibre f us n ++ fibres f us (n + 1) m

-- they go where copies come from
fibres-copies : (f : ℕ → ℕ) (us : List ℕ) (n m : ℕ) → copies_from n (fibre_sizes f us n m) ≡ map f (fibres f us n m)
fibres-copies f us n zero = refl
fibres-copies f us n (suc m) =
    ap (λ rest. replicate (length (fibre f us n)) n ++ rest) (fibres-copies f us (n + 1) m)
    ∙ ap (λ front. front ++ map f (fibres f us (n + 1) m))
    (sym (all-same f n (fibre f us n) (filter_passes (λ x. f x == n) us)))
    ∙ sym (map-append f (fibre f us n) (fibres f us (n + 1) m))

fibres-count : (f : ℕ → ℕ) (us : List ℕ) (n m : ℕ) → sum (fibre_sizes f us n m) ≡ length (fibres f us n m)
fibres-count f us n m =
    sym (copies_count n (fibre_sizes f us n m)) ∙ ap length (fibres-copies f us n m) ∙ length-map (fibres f us n m) f

of-fibres : (f : ℕ → ℕ) (us : List ℕ) (n m u : ℕ) → Contains (fibres f us n m) u → Contains us u × (n ≤ f u)
of-fibres f us n zero u at = absurd (Contains-none u at)
of-fibres f us n (suc m) u at =
    ⊎_elim
    (λ here. let both = of-fibre f us n u here in (both.0, omega (arith, both.1)))
    (λ there. let both = of-fibres f us (n + 1) m u there in (both.0, omega (arith, both.1)))
    (Contains-append_cases (fibre f us n) (fibres f us (n + 1) m) u at)

in-fibres : (f : ℕ → ℕ) (us : List ℕ) (n m u : ℕ) → Contains us u → n ≤ f u → f u < n + m
    → Contains (fibres f us n m) u
in-fibres f us n zero u at low high = absurd (omega (arith, low, high))
in-fibres f us n (suc m) u at low high =
    by (cases_eq (f u) n) (λ over. in-fibres f us (n + 1) m u at over (omega (arith, high)))
  where
    by : (f u ≡ n) ⊎ (f u ≡ n → ⊥) → (n + 1 ≤ f u → Contains (fibres f us (n + 1) m) u)
        → Contains (fibre f us n ++ fibres f us (n + 1) m) u
    by (inl goes) later = Contains-append_left (fibre f us n) (fibres f us (n + 1) m) u (in-fibre f us n u at goes)
    by (inr ne) later =
        Contains-append_right (fibre f us n) (fibres f us (n + 1) m) u
        (later (⊎_elim (λ lt. omega (arith, lt)) (λ le. absurd (ne (omega (arith, le, low)))) (cases_lt n (f u))))

fibres-differ : (f : ℕ → ℕ) (us : List ℕ) → AllPairs ◌≢◌ us → (n m : ℕ) → AllPairs ◌≢◌ (fibres f us n m)
fibres-differ f us apart n zero = λ i j d lt within. absurd (omega (arith, lt, within))
fibres-differ f us apart n (suc m) =
    pairs-append (fibre f us n) (fibres f us (n + 1) m) (AllPairs-filter ◌≢◌ (λ x. f x == n) us apart)
    (fibres-differ f us apart (n + 1) m)
    (λ x y here there same.
    let one : f x ≡ n = (of-fibre f us n x here).1
    in let two : n + 1 ≤ f y = (of-fibres f us (n + 1) m y there).1
    in let e : f x ≡ f y = ap f same
    in omega (arith, one, two, e))

-- ---- their sizes

sizes-none : (f : ℕ → ℕ) (n m : ℕ) → sum (fibre_sizes f [] n m) ≡ 0
sizes-none f n zero = refl
sizes-none f n (suc m) = sum_by-cons (λ x. x) 0 (fibre_sizes f [] (n + 1) m) ∙ omega (arith, sizes-none f (n + 1) m)

sizes-past : (f : ℕ → ℕ) (u : ℕ) (us : List ℕ) (n m : ℕ) → f u < n
    → sum (fibre_sizes f (u ∷ us) n m) ≡ sum (fibre_sizes f us n m)
sizes-past f u us n zero lt = refl
sizes-past f u us n (suc m) lt =
    let one = sum_by-cons (λ x. x) (length (fibre f (u ∷ us) n)) (fibre_sizes f (u ∷ us) (n + 1) m)
    in let two = sum_by-cons (λ x. x) (length (fibre f us n)) (fibre_sizes f us (n + 1) m)
    in let first : length (fibre f (u ∷ us) n) ≡ length (fibre f us n)
    = fibre-same f u us n (λ e. omega (arith, e, lt))
    in let rest = sizes-past f u us (n + 1) m (omega (arith, lt))
    in one ∙ omega (arith, first, rest) ∙ sym two

sizes-more : (f : ℕ → ℕ) (u : ℕ) (us : List ℕ) (n m : ℕ) → n ≤ f u → f u < n + m
    → sum (fibre_sizes f (u ∷ us) n m) ≡ suc (sum (fibre_sizes f us n m))
sizes-more f u us n zero low high = absurd (omega (arith, low, high))
sizes-more f u us n (suc m) low high =
    by (cases_eq (f u) n) (λ over. sizes-more f u us (n + 1) m over (omega (arith, high)))
  where
    one : sum (fibre_sizes f (u ∷ us) n (suc m))
        ≡ length (fibre f (u ∷ us) n) + sum (fibre_sizes f (u ∷ us) (n + 1) m)
    one = sum_by-cons (λ x. x) (length (fibre f (u ∷ us) n)) (fibre_sizes f (u ∷ us) (n + 1) m)

    two : sum (fibre_sizes f us n (suc m)) ≡ length (fibre f us n) + sum (fibre_sizes f us (n + 1) m)
    two = sum_by-cons (λ x. x) (length (fibre f us n)) (fibre_sizes f us (n + 1) m)

    by : (f u ≡ n) ⊎ (f u ≡ n → ⊥)
        → (n + 1 ≤ f u → sum (fibre_sizes f (u ∷ us) (n + 1) m) ≡ suc (sum (fibre_sizes f us (n + 1) m)))
        → sum (fibre_sizes f (u ∷ us) n (suc m)) ≡ suc (sum (fibre_sizes f us n (suc m)))
    by (inl goes) later =
        let first : length (fibre f (u ∷ us) n) ≡ suc (length (fibre f us n)) = fibre-more f u us n goes
        in let rest : sum (fibre_sizes f (u ∷ us) (n + 1) m) ≡ sum (fibre_sizes f us (n + 1) m)
        = sizes-past f u us (n + 1) m (omega (arith, goes))
        in one ∙ omega (arith, first, rest) ∙ ap suc (sym two)
    by (inr ne) later =
        let over : n + 1 ≤ f u
        = ⊎_elim (λ lt. omega (arith, lt)) (λ le. absurd (ne (omega (arith, le, low)))) (cases_lt n (f u))
        in let first : length (fibre f (u ∷ us) n) ≡ length (fibre f us n) = fibre-same f u us n ne
        in let rest : sum (fibre_sizes f (u ∷ us) (n + 1) m) ≡ suc (sum (fibre_sizes f us (n + 1) m))
        = later over
        in one ∙ omega (arith, first, rest) ∙ ap suc (sym two)

sizes-all : (f : ℕ → ℕ) (us : List ℕ) (m : ℕ) → ((u : ℕ) → Contains us u → f u < m)
    → sum (fibre_sizes f us 0 m) ≡ length us
sizes-all f [] m inside = sizes-none f 0 m
sizes-all f (u ∷ us) m inside =
    sizes-more f u us 0 m (omega arith) (omega (arith, inside u (Contains-here u us)))
    ∙ ap suc (sizes-all f us m (λ w at. inside w (Contains-there u w us at)))

size-at : (f : ℕ → ℕ) (us : List ℕ) (m w : ℕ) → w < m → get_or (fibre_sizes f us 0 m) w 0 ≡ length (fibre f us w)
size-at f us m w lt =
    get_or-map (λ x. length (fibre f us x)) (range_with_len 0 m) w 0 0 (rw (length-range_with_len 0 m) lt)
    ∙ ap (λ x. length (fibre f us x)) (get_or-range_with_len 0 m w 0 lt ∙ omega arith)

-- ---- the law

module _ (s : StructureForm) (structure : IsStructure s) (h : Heap) (apart : AllPairs ◌≢◌ h.individuals) (f : ℕ → ℕ)
    (e : Embeds f (heap_structure h) (structure_of s)) where
  abbrev parts : List ℕ
  parts = fibre_sizes f h.individuals 0 s.size

  abbrev listed : List ℕ
  listed = fibres f h.individuals 0 s.size

  inside : (u : ℕ) → Contains h.individuals u → f u < s.size
  inside u at = below-range s.size (f u) (e.into u at)

  some-part : (w : ℕ) → w < s.size → 0 < get_or parts w 0
  some-part w lt =
      let from = e.onto w (Contains-range s.size w lt)
      in let at : Contains (fibre f h.individuals w) from.0 = in-fibre f h.individuals w from.0 from.1 from.2
      in omega (arith, at.1, size-at f h.individuals s.size w lt)

  one-part : (w : ℕ) → w < s.size → summary_at s w ≡ false → get_or parts w 0 ≡ 1
  one-part w lt alone =
      ⊎_elim (λ several. absurd (clash several)) (λ few. omega (arith, few, some-part w lt, size))
      (cases_lt 1 (length (fibre f h.individuals w)))
    where
      size : get_or parts w 0 ≡ length (fibre f h.individuals w)
      size = size-at f h.individuals s.size w lt

      clash : 1 < length (fibre f h.individuals w) → ⊥
      clash several =
          let us : List ℕ = fibre f h.individuals w
          in let one = of-fibre f h.individuals w (get_or us 0 0) (Contains-get_or us 0 0 (omega (arith, several)))
          in let two = of-fibre f h.individuals w (get_or us 1 0) (Contains-get_or us 1 0 several)
          in let differ : get_or us 0 0 ≢ get_or us 1 0
          = AllPairs-filter ◌≢◌ (λ x. f x == w) h.individuals apart 0 1 0 (omega arith) several
          in let summary : summary_at s (f (get_or us 0 0)) ≡ true
          = e.several (get_or us 0 0) (get_or us 1 0) one.0 two.0 differ (one.1 ∙ sym two.1)
          in true≢false (sym summary ∙ ap (summary_at s) one.1 ∙ alone)

  copies-count : length (copies_from 0 parts) ≡ length listed
  copies-count = ap length (fibres-copies f h.individuals 0 s.size) ∙ length-map listed f

  module _ (r b : ℕ → ℕ) (is : IsRenaming r b) (front : (k : ℕ) → k < length listed → r k ≡ get_or listed k 0) where
    turned : IsRenaming b r
    turned = renaming-back r b is

    -- what it calls w stands at the place w
    placed : (w : ℕ) → Contains h.individuals (r w) → w < length listed
    placed w at =
        let there : Contains listed (r w)
        = in-fibres f h.individuals 0 s.size (r w) at (omega arith) (omega (arith, inside (r w) at))
        in let same : r there.0 ≡ r w
        = front there.0 there.1 ∙ get_or_default listed there.0 0 (r w) there.1 ∙ there.2
        in let e2 : there.0 ≡ w = sym (is.back there.0) ∙ ap b same ∙ is.back w
        in subst (λ k. k < length listed) e2 there.1

    origin : (w : ℕ) → w < length listed → get_or (copies_from 0 parts) w 0 ≡ f (r w)
    origin w lt =
        ap (λ us. get_or us w 0) (fibres-copies f h.individuals 0 s.size) ∙ get_or-map f listed w 0 0 lt ∙ ap f
        (sym (front w lt))

    among-new : (w : ℕ) → Contains (map b h.individuals) w → w < length (copies_from 0 parts)
    among-new w at = rw copies-count (placed w ((among-back b r turned h.individuals w).0 at))

    lies-below : LiesBelow (renamed b h) (structure_of (split s parts))
    lies-below = record {
      into = λ w at. Contains-range (length (copies_from 0 parts)) w (among-new w at);
      onto = λ w at.
          let lt : w < length listed
          = subst (λ n. w < n) copies-count (below-range (length (copies_from 0 parts)) w at)
          in let has : Contains listed (r w)
          = subst (Contains listed) (sym (front w lt)) (Contains-get_or listed w 0 lt)
          in (w, (among-back b r turned h.individuals w).1 (of-fibres f h.individuals 0 s.size (r w) has).0, refl);
      values = λ q any ws all.
          let there : All (Contains h.individuals) (map r ws) = all-among_back b r turned h.individuals ws all
          in let both = holds-back b r turned h q ws
          in let same : (heap_structure h).value q (map r ws) ≡ (heap_structure (renamed b h)).value q ws
          = value-of h (renamed b h) q (map r ws) ws (both.1, both.0) (tuple-decided (extent h q) (map r ws))
          in let fit : All (Contains (range_with_len 0 (length (copies_from 0 parts)))) ws
          = All-weaker (Contains (map b h.individuals)) (Contains (range_with_len 0 (length (copies_from 0 parts))))
          (λ w at. Contains-range (length (copies_from 0 parts)) w (among-new w at)) ws all
          in let drawn_ : value_at (split s parts) q ws ≡ value_at s q
          (map (λ u. get_or (copies_from 0 parts) u 0) ws)
          = (drawn_reads s structure).values (copies_from 0 parts) (split s parts).fresh q ws
          (AreIndividuals-range (length (copies_from 0 parts)) ws fit)
          in let origins : map (λ u. get_or (copies_from 0 parts) u 0) ws ≡ map f (map r ws)
          = map-agreed (λ u. get_or (copies_from 0 parts) u 0) (λ u. f (r u)) ws
          (λ u at. origin u
          (subst (λ n. u < n) copies-count (below-range (length (copies_from 0 parts)) u (All-contains
          (Contains (range_with_len 0 (length (copies_from 0 parts)))) ws u fit at))))
          ∙ sym (map-compose r f ws)
          in let above : value_at s q (map f (map r ws)) ≡ value_at (split s parts) q (map (λ u. u) ws)
          = ap (value_at s q) (sym origins) ∙ sym drawn_ ∙ ap (value_at (split s parts) q) (sym (map-id ws))
          in subst (λ x. LiesUnder x (value_at (split s parts) q (map (λ u. u) ws))) same
          (subst (λ y. LiesUnder ((heap_structure h).value q (map r ws)) y) above (e.values q tt (map r ws) there));
      summaries = λ w at summary. absurd (true≢false (sym summary));
      several = λ u w one two differ same. absurd (differ same);
    }

    fits : FitsBelow h (structure_of (split s parts))
    fits = (renamed b h, (b, r, copy-renamed b r turned h), lies-below)

pub fibres_are_copies : FibresAreCopies
fibres_are_copies s structure h apart f e =
    let us : List ℕ = h.individuals
    in let front = fronts_are_renamings (fibres f us 0 s.size) (fibres-differ f us apart 0 s.size)
    in record {
      are = record {
        one_part_each =
            length-map (range_with_len 0 s.size) (λ w. length (fibre f us w)) ∙ length-range_with_len 0 s.size;
        some = some-part s structure h apart f e;
        ordinary = one-part s structure h apart f e;
      };
      cells = sizes-all f us s.size (inside s structure h apart f e);
      below = fits s structure h apart f e front.0 front.1 front.2 front.3;
    }

-- ---- no summaries

once : (n : ℕ) (parts : List ℕ) → All (λ part. part ≡ 1) parts → copies_from n parts ≡ range_with_len n (length parts)
once n [] all = refl
once n (part ∷ parts) all =
    ap (λ k. replicate k n ++ copies_from (n + 1) parts) (All-head (λ x. x ≡ 1) part parts all)
    ∙ ap (λ us. n ∷ us) (once (n + 1) parts (All-tail (λ x. x ≡ 1) part parts all))

whole-below : (s : StructureForm) → IsStructure s → (parts : List ℕ) → copies_from 0 parts ≡ range_with_len 0 s.size
    → (k : Heap) → LiesBelow k (structure_of (split s parts)) → LiesBelow k (structure_of s)
whole-below s structure parts each k below = record {
  into = λ w at. subst (λ us. Contains us w) size (below.into w at);
  onto = λ w at. below.onto w (subst (λ us. Contains us w) (sym size) at);
  values = λ q any ws all.
      let fit : All (Contains (range_with_len 0 (length (copies_from 0 parts)))) ws
      =
      All-weaker (Contains k.individuals)
      (Contains (range_with_len 0 (length (copies_from 0 parts)))) below.into ws all
      in let drawn_ : value_at (split s parts) q ws ≡ value_at s q (map (λ u. get_or (copies_from 0 parts) u 0) ws)
      = (drawn_reads s structure).values (copies_from 0 parts) (split s parts).fresh q ws
      (AreIndividuals-range (length (copies_from 0 parts)) ws fit)
      in let origins : map (λ u. get_or (copies_from 0 parts) u 0) ws ≡ map (λ u. u) ws
      = map-agreed (λ u. get_or (copies_from 0 parts) u 0) (λ u. u) ws
      (λ u at. itself u (below-range (length (copies_from 0 parts)) u
      (All-contains (Contains (range_with_len 0 (length (copies_from 0 parts)))) ws u fit at)))
      in let same : value_at (split s parts) q (map (λ u. u) ws) ≡ value_at s q (map (λ u. u) ws)
      = ap (value_at (split s parts) q) (map-id ws) ∙ drawn_ ∙ ap (value_at s q) origins
      in subst (λ y. LiesUnder ((heap_structure k).value q ws) y) same (below.values q tt ws all);
  summaries = λ w at summary. absurd (true≢false (sym summary));
  several = λ u w one two differ same. absurd (differ same);
}
  where
    size : range_with_len 0 (length (copies_from 0 parts)) ≡ range_with_len 0 s.size
    size = ap (λ us. range_with_len 0 (length us)) each ∙ ap (range_with_len 0) (length-range_with_len 0 s.size)

    itself : (u : ℕ) → u < length (copies_from 0 parts) → get_or (copies_from 0 parts) u 0 ≡ u
    itself u lt =
        ap (λ us. get_or us u 0) each
        ∙ get_or-range_with_len 0 s.size u 0 (subst (λ n. u < n) (ap length each ∙ length-range_with_len 0 s.size) lt)
        ∙ omega arith

pub ordinaries_fit : OrdinariesFit
ordinaries_fit s structure alone h apart = (there, back)
  where
    there : IsHeapOf h (structure_of s) → FitsBelow h (structure_of s)
    there (f, e) =
        let parts : List ℕ = fibre_sizes f h.individuals 0 s.size
        in let copied = fibres_are_copies s structure h apart f e
        in let ones : All (λ part. part ≡ 1) parts
        = All-from_get_or (λ part. part ≡ 1) parts 0
        (λ u lt. let under : u < s.size
        = subst (λ n. u < n) copied.are.one_part_each lt in copied.are.ordinary u under (alone u under))
        in let each : copies_from 0 parts ≡ range_with_len 0 s.size
        = once 0 parts ones ∙ ap (range_with_len 0) copied.are.one_part_each
        in (copied.below.0, copied.below.1, whole-below s structure parts each copied.below.0 copied.below.2)

    back : FitsBelow h (structure_of s) → IsHeapOf h (structure_of s)
    back (k, (r, b, by), below) = lies-kept b r k h (copy-back r b h k by) (structure_of s) (λ u. u, below)
