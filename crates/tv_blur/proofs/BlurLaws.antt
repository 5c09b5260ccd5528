-- Blur: names, that there is one, and that blurring again changes nothing.
use Rattle.std.proofs.Common.{ℕ, ◌≡◌, ◌⊎◌, ◌<◌, ◌≤◌, zero, suc, inl, inr, List, [], ◌∷◌}
use Rattle.std.proofs.Common.{get_or, length, map, Less, Equal, Greater, refl, sym, ap, subst, ◌∙◌, arith}
use Rattle.std.specs.Prelude.{All, Contains, IsTrue, ◌↔◌}
use Rattle.std.specs.declared.cmp.Ordering.{Ordering}
use Rattle.std.specs.List.{range_with_len}
use Rattle.std.specs.Ordering.{ordering_reverse}
use Rattle.std.proofs.lemmas.List.{get_or-map, map-id}
use Rattle.std.proofs.lemmas.List.Elements.{All-head, All-tail, All-nil, All-cons}
use Rattle.tv_lemmas.proofs.Bools.{same_tests}
use Rattle.tv_kleene.specs.declared.K3.{K3}
use Rattle.tv_kleene.specs.declared.K3.TheVariants.{No}
use Rattle.tv_row.proofs.Compare.{value_exact}
use Rattle.tv_embedding_laws.specs.LogicalStructure.{LogicalStructure}
use Rattle.tv_row.specs.Bits.{value_cmp}
use Rattle.tv_structure_form.specs.TableForm.{HasEntry, AreIndividuals}
use Rattle.tv_structure_form.specs.StructureForm.{StructureForm, IsStructure, structure_of, table_of}
use Rattle.tv_structure_form.specs.StructureForm.{value_at}
use Rattle.tv_structure_form.specs.StructureForm.{summary_at, arities_of}
use Rattle.tv_structure_form.proofs.StructureLaws.{same_structure}
use Rattle.tv_blur.specs.Merged.{IsMember, IsValueBelow, HasSummary, HasSeveral, IsMerged}
use Rattle.tv_blur.specs.Names.{canonical_name, name_cmp, name_cmp_total}
use Rattle.tv_blur.specs.Blur.{FollowsNames, IsBlurBy, IsBlur, IsBlurred}
use Rattle.tv_blur.specs.Laws.{BlurKeepsNames, BlurKeepsStable, BlurIsOne}
use Rattle.tv_structure_form.proofs.Library.{Contains-range, below-range, All-individuals}
use Rattle.tv_blur.proofs.MergedLaws.{IsJoin-one, IsJoin-same, keeps_stable}

-- ---- names

-- names that compare as equal are equal
pub name-exact : (xs ys : List K3) → name_cmp xs ys ≡ Equal → xs ≡ ys
name-exact [] [] e = refl
name-exact [] (y ∷ ys) e = cc
name-exact (x ∷ xs) [] e = cc
name-exact (x ∷ xs) (y ∷ ys) e = at (value_cmp x y) refl (λ rest. name-exact xs ys rest) e
  where
    at : (o : Ordering) → value_cmp x y ≡ o → (name_cmp xs ys ≡ Equal → xs ≡ ys) → name_cmp (x ∷ xs) (y ∷ ys) ≡ Equal
        → x ∷ xs ≡ y ∷ ys
    at Less is later e = absurd (let f : Less ≡ Equal = rw is at e in cc)
    at Equal is later e =
        let head : x ≡ y = value_exact x y is
        in let rest : name_cmp xs ys ≡ Equal = rw is at e
        in let tail : xs ≡ ys = later rest
        in λ i. head i ∷ tail i
    at Greater is later e = absurd (let f : Greater ≡ Equal = rw is at e in cc)

-- what is below is not above
name-back : (xs ys : List K3) → name_cmp xs ys ≡ Greater → name_cmp ys xs ≡ Less
name-back xs ys e = at (name_cmp ys xs) refl
  where
    at : (o : Ordering) → name_cmp ys xs ≡ o → name_cmp ys xs ≡ Less
    at Less is = is
    at Equal is = absurd (let f : Greater ≡ Equal = sym e ∙ name_cmp_total.antisymm xs ys ∙ ap ordering_reverse is in cc)
    at Greater is = absurd (let f : Greater ≡ Less = sym e ∙ name_cmp_total.antisymm xs ys ∙ ap ordering_reverse is in cc)

-- one place, one name; and one name, one place
pub same-name : (preds : List ℕ) (s : LogicalStructure) (n : ℕ) (place : ℕ → ℕ) → FollowsNames preds s n place
    → (u w : ℕ) → u < n → w < n → place u ≡ place w → canonical_name preds s u ≡ canonical_name preds s w
same-name preds s n place follows u w lt other e = at (name_cmp (canonical_name preds s u) (canonical_name preds s w)) refl
  where
    at : (o : Ordering) → name_cmp (canonical_name preds s u) (canonical_name preds s w) ≡ o → canonical_name preds s u ≡ canonical_name preds s w
    at Less is = absurd (let below : place u < place w = (follows u w lt other).1 is in omega arith)
    at Equal is = name-exact (canonical_name preds s u) (canonical_name preds s w) is
    at Greater is =
        absurd (let below : place w < place u
        = (follows w u other lt).1 (name-back (canonical_name preds s u) (canonical_name preds s w) is) in omega arith)

-- ---- names are kept

maps-same : (f g : ℕ → K3) (xs : List ℕ) → All (λ x. f x ≡ g x) xs → map f xs ≡ map g xs
maps-same f g [] all = refl
maps-same f g (x ∷ xs) all =
    let head : f x ≡ g x = All-head (λ x. f x ≡ g x) x xs all
    in let tail : map f xs ≡ map g xs = maps-same f g xs (All-tail (λ x. f x ≡ g x) x xs all)
    in λ i. head i ∷ tail i

maps-all : (f g : ℕ → K3) (xs : List ℕ) → map f xs ≡ map g xs → All (λ x. f x ≡ g x) xs
maps-all f g xs e k d lt =
    sym (get_or-map f xs k d No lt) ∙ ap (λ ys. get_or ys k No) e ∙ get_or-map g xs k d No lt

pub name-kept : (place : ℕ → ℕ) (preds : List ℕ) (s t : StructureForm) → IsBlurBy place preds s t → (u : ℕ) → u < s.size
    → canonical_name preds (structure_of t) (place u) ≡ canonical_name preds (structure_of s) u
name-kept place preds s t b u lt =
    maps-same (λ pred. value_at t pred (place u ∷ [])) (λ pred. value_at s pred (u ∷ [])) preds (λ k d within. each k d within)
  where
    here : Contains (range_with_len 0 s.size) u
    here = Contains-range s.size u lt

    one : (n v : ℕ) → Contains (range_with_len 0 n) v → All (Contains (range_with_len 0 n)) (v ∷ [])
    one n v at = All-cons (Contains (range_with_len 0 n)) v [] at (All-nil (Contains (range_with_len 0 n)))

    same : (k d : ℕ) → k < length preds → (below : List ℕ) → All (Contains (range_with_len 0 s.size)) below
        → map place below ≡ place u ∷ [] → value_at s (get_or preds k d) below ≡ value_at s (get_or preds k d) (u ∷ [])
    same k d within [] all e = absurd (cc)
    same k d within (x ∷ []) all e =
        let goes : place x ≡ place u = cc
        in let names : canonical_name preds (structure_of s) x ≡ canonical_name preds (structure_of s) u
        = same-name preds (structure_of s) s.size place b.order x u
        (below-range s.size x (All-head (Contains (range_with_len 0 s.size)) x [] all)) lt goes
        in maps-all (λ pred. value_at s pred (x ∷ [])) (λ pred. value_at s pred (u ∷ [])) preds names k d within
    same k d within (x ∷ y ∷ more) all e = absurd (cc)

    each : (k d : ℕ) → k < length preds → value_at t (get_or preds k d) (place u ∷ []) ≡ value_at s (get_or preds k d) (u ∷ [])
    each k d within =
        IsJoin-one (IsValueBelow place (structure_of s) (get_or preds k d) (place u ∷ [])) (value_at s (get_or preds k d) (u ∷ []))
        (value_at t (get_or preds k d) (place u ∷ []))
        (b.merged.values (get_or preds k d) (place u ∷ []) (one t.size (place u) (b.merged.into u here)))
        (u ∷ [], one s.size u here, refl, refl)
        (λ j (below, all, goes, is). sym is ∙ same k d within below all goes)

pub keeps_names : BlurKeepsNames
keeps_names place preds s t b = record {
  kept = λ u lt. name-kept place preds s t b u lt;
  blurred = record { order = order; unmarked = b.unmarked };
}
  where
    member : (w : ℕ) → w < t.size → (u : ℕ) × IsMember place (structure_of s) w u
    member w lt = b.merged.onto w (Contains-range t.size w lt)

    order : FollowsNames preds (structure_of t) t.size (λ u. u)
    order u w lt other = from (member u lt) (member w other)
      where
        from : (x : ℕ) × IsMember place (structure_of s) u x → (y : ℕ) × IsMember place (structure_of s) w y
            → (u < w) ↔ (name_cmp (canonical_name preds (structure_of t) u) (canonical_name preds (structure_of t) w) ≡ Less)
        from (x, mx) (y, my) =
            let lx : x < s.size = below-range s.size x mx.individual
            in let ly : y < s.size = below-range s.size y my.individual
            in let name_u : canonical_name preds (structure_of t) u ≡ canonical_name preds (structure_of s) x
            = ap (canonical_name preds (structure_of t)) (sym mx.goes) ∙ name-kept place preds s t b x lx
            in let name_w : canonical_name preds (structure_of t) w ≡ canonical_name preds (structure_of s) y
            = ap (canonical_name preds (structure_of t)) (sym my.goes) ∙ name-kept place preds s t b y ly
            in let Law : ℕ → ℕ → Type 0
            = λ i j. (i < j) ↔ (name_cmp (canonical_name preds (structure_of s) x) (canonical_name preds (structure_of s) y) ≡ Less)
            in let at : (u < w) ↔ (name_cmp (canonical_name preds (structure_of s) x) (canonical_name preds (structure_of s) y) ≡ Less)
            = subst (λ i. Law i w) mx.goes (subst (λ j. Law (place x) j) my.goes (b.order x y lx ly))
            in rw (name_u, name_w) at

-- ---- there is one blur

-- maps that follow the names and reach all numbers are the same
places-below : (preds : List ℕ) (s : LogicalStructure) (n : ℕ) (p q : ℕ → ℕ) → FollowsNames preds s n p → FollowsNames preds s n q
    → ((u w : ℕ) → u < n → w < p u → (x : ℕ) × (x < n) × (p x ≡ w)) → (w u : ℕ) → u < n → p u ≡ w → w ≤ q u
places-below preds s n p q fp fq reached zero u lt e = omega arith
places-below preds s n p q fp fq reached (suc w) u lt e =
    from (λ x within is. places-below preds s n p q fp fq reached w x within is) (reached u w lt (omega arith))
  where
    from : ((x : ℕ) → x < n → p x ≡ w → w ≤ q x) → (x : ℕ) × (x < n) × (p x ≡ w) → suc w ≤ q u
    from earlier (x, within, is) =
        let before : w ≤ q x = earlier x within is
        in let less : q x < q u = (fq x u within lt).1 ((fp x u within lt).0 (omega arith))
        in omega arith

reached_by : (place : ℕ → ℕ) (s t : StructureForm) → IsMerged place (structure_of s) (structure_of t)
    → (u w : ℕ) → u < s.size → w < place u → (x : ℕ) × (x < s.size) × (place x ≡ w)
reached_by place s t m u w lt before =
    from (m.onto w (Contains-range t.size w
    (let in_t : place u < t.size = below-range t.size (place u) (m.into u (Contains-range s.size u lt)) in omega arith)))
  where
    from : (x : ℕ) × IsMember place (structure_of s) w x → (x : ℕ) × (x < s.size) × (place x ≡ w)
    from (x, is) = (x, below-range s.size x is.individual, is.goes)

pub same-places : (preds : List ℕ) (s t r : StructureForm) (p q : ℕ → ℕ) → IsBlurBy p preds s t → IsBlurBy q preds s r
    → (u : ℕ) → u < s.size → p u ≡ q u
same-places preds s t r p q bp bq u lt =
    let below : p u ≤ q u
    = places-below preds (structure_of s) s.size p q bp.order bq.order (reached_by p s t bp.merged) (p u) u lt refl
    in let above : q u ≤ p u
    = places-below preds (structure_of s) s.size q p bq.order bp.order (reached_by q s r bq.merged) (q u) u lt refl
    in omega arith

size-below : (preds : List ℕ) (s t r : StructureForm) (p q : ℕ → ℕ) → IsBlurBy p preds s t → IsBlurBy q preds s r
    → (w : ℕ) → w < t.size → w < r.size
size-below preds s t r p q bp bq w lt = from (bp.merged.onto w (Contains-range t.size w lt))
  where
    from : (x : ℕ) × IsMember p (structure_of s) w x → w < r.size
    from (x, is) =
        let within : x < s.size = below-range s.size x is.individual
        in let same : p x ≡ q x = same-places preds s t r p q bp bq x within
        in let in_r : q x < r.size = below-range r.size (q x) (bq.merged.into x is.individual)
        in let goes : p x ≡ w = is.goes
        in omega arith

same-size : (m n : ℕ) → ((w : ℕ) → w < m → w < n) → ((w : ℕ) → w < n → w < m) → m ≡ n
same-size zero zero to from = refl
same-size zero (suc n) to from = absurd (let lt : n < 0 = from n (omega arith) in omega arith)
same-size (suc m) zero to from = absurd (let lt : m < 0 = to m (omega arith) in omega arith)
same-size (suc m) (suc n) to from =
    let a : m < suc n = to m (omega arith) in let b : n < suc m = from n (omega arith) in omega arith

-- a map that agrees on the individuals takes a tuple of them to the same tuple
maps-agree : (n : ℕ) (p q : ℕ → ℕ) → ((u : ℕ) → u < n → p u ≡ q u) → (tuple : List ℕ)
    → All (Contains (range_with_len 0 n)) tuple → map p tuple ≡ map q tuple
maps-agree n p q same [] all = refl
maps-agree n p q same (u ∷ us) all =
    let head : p u ≡ q u = same u (below-range n u (All-head (Contains (range_with_len 0 n)) u us all))
    in let tail : map p us ≡ map q us = maps-agree n p q same us (All-tail (Contains (range_with_len 0 n)) u us all)
    in λ i. head i ∷ tail i

members-like : (s : StructureForm) (p q : ℕ → ℕ) → ((u : ℕ) → u < s.size → p u ≡ q u) → (w : ℕ)
    → HasSummary p (structure_of s) w ⊎ HasSeveral p (structure_of s) w
    → HasSummary q (structure_of s) w ⊎ HasSeveral q (structure_of s) w
members-like s p q same w has = at has
  where
    like : (u : ℕ) → IsMember p (structure_of s) w u → IsMember q (structure_of s) w u
    like u is = record {
      individual = is.individual;
      goes = sym (same u (below-range s.size u is.individual)) ∙ is.goes;
    }

    at : HasSummary p (structure_of s) w ⊎ HasSeveral p (structure_of s) w
        → HasSummary q (structure_of s) w ⊎ HasSeveral q (structure_of s) w
    at (inl (u, is, summary)) = inl (u, like u is, summary)
    at (inr (u, x, is, other, differ)) = inr (u, x, like u is, like x other, differ)

-- two blurs of one structure, of any size, have the same entries
pub record AreSame (t r : StructureForm) : Type 0 where
  pub size : t.size ≡ r.size
  pub over : arities_of t ≡ arities_of r
  pub values : (pred : ℕ) (tuple : List ℕ) → HasEntry (table_of t) pred tuple → value_at t pred tuple ≡ value_at r pred tuple
  pub summaries : (w : ℕ) → w < t.size → summary_at t w ≡ summary_at r w
  pub fresh : t.fresh ≡ r.fresh

pub same_blurs : (preds : List ℕ) (s t r : StructureForm) → IsBlur preds s t → IsBlur preds s r → AreSame t r
same_blurs preds s t r (p, bp) (q, bq) = record {
  size = size;
  over = bp.over ∙ sym bq.over;
  values = λ pred tuple has. values pred tuple has;
  summaries = λ w lt. summaries w lt;
  fresh = bp.unmarked ∙ sym bq.unmarked;
}
  where
    size : t.size ≡ r.size
    size = same-size t.size r.size (size-below preds s t r p q bp bq) (size-below preds s r t q p bq bp)

    same : (u : ℕ) → u < s.size → p u ≡ q u
    same u lt = same-places preds s t r p q bp bq u lt

    back : (u : ℕ) → u < s.size → q u ≡ p u
    back u lt = sym (same u lt)

    values : (pred : ℕ) (tuple : List ℕ) → HasEntry (table_of t) pred tuple → value_at t pred tuple ≡ value_at r pred tuple
    values pred tuple has =
        let in_t : AreIndividuals t.size tuple = has.individuals
        in let Are : ℕ → Type 0 = λ n. AreIndividuals n tuple
        in let in_r : AreIndividuals r.size tuple = subst Are size in_t
        in IsJoin-same (IsValueBelow p (structure_of s) pred tuple) (IsValueBelow q (structure_of s) pred tuple)
        (value_at t pred tuple) (value_at r pred tuple)
        (λ j (below, all, goes, is). (below, all, sym (maps-agree s.size p q same below all) ∙ goes, is))
        (λ j (below, all, goes, is). (below, all, sym (maps-agree s.size q p back below all) ∙ goes, is))
        (bp.merged.values pred tuple (All-individuals t.size tuple in_t))
        (bq.merged.values pred tuple (All-individuals r.size tuple in_r))

    summaries : (w : ℕ) → w < t.size → summary_at t w ≡ summary_at r w
    summaries w lt =
        let at_t : Contains (range_with_len 0 t.size) w = Contains-range t.size w lt
        in let at_r : Contains (range_with_len 0 r.size) w = Contains-range r.size w (omega (arith, size))
        in same_tests (summary_at t w) (summary_at r w)
        (λ yes. (bq.merged.summaries w at_r).1 (members-like s p q same w ((bp.merged.summaries w at_t).0 yes)))
        (λ yes. (bp.merged.summaries w at_t).1 (members-like s q p back w ((bq.merged.summaries w at_r).0 yes)))

pub one_blur : (preds : List ℕ) (s t r : StructureForm) → IsStructure t → IsStructure r → IsBlur preds s t → IsBlur preds s r
    → t ≡ r
one_blur preds s t r is_t is_r bt br =
    let same : AreSame t r = same_blurs preds s t r bt br
    in same_structure t r is_t is_r same.size same.over same.values same.summaries same.fresh

-- a structure with different names in order is its own blur
own_blur : (preds : List ℕ) (s : StructureForm) → IsBlurred preds s → IsBlurBy (λ u. u) preds s s
own_blur preds s b = record {
  merged = record {
    into = λ u at. at;
    onto = λ w at. (w, record { individual = at; goes = refl });
    values = λ pred tuple all. record {
      above = λ j (below, inside, goes, is). inl (sym is ∙ ap (value_at s pred) (sym (map-id below) ∙ goes));
      least = λ l each. each (value_at s pred tuple) (tuple, all, map-id tuple, refl);
    };
    summaries = λ w at. (λ summary. inl (w, record { individual = at; goes = refl }, summary), λ has. from w has);
  };
  order = b.order;
  over = refl;
  unmarked = b.unmarked;
}
  where
    from : (w : ℕ) → HasSummary (λ u. u) (structure_of s) w ⊎ HasSeveral (λ u. u) (structure_of s) w → IsTrue (summary_at s w)
    from w (inl (u, is, summary)) = let P : ℕ → Type 0 = λ x. IsTrue (summary_at s x) in subst P is.goes summary
    from w (inr (u, x, is, other, differ)) = absurd (differ (is.goes ∙ sym other.goes))

pub is_one : BlurIsOne
is_one = record {
  one = one_blur;
  again = λ preds s t is_s is_t b blur. one_blur preds s t s is_t is_s blur (λ u. u, own_blur preds s b);
}

pub blur_stable : BlurKeepsStable
blur_stable preds s t rules (place, b) plain stable =
    keeps_stable place (structure_of s) (structure_of t) rules b.merged plain stable
