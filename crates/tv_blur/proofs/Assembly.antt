-- The merged structure of the classes of names is the blur.
use Rattle.std.proofs.Common.{ℕ, ◌≡◌, ◌⊎◌, ◌<◌, ◌≤◌, inl, inr, Bool, true, false, List, [], ◌∷◌, get_or}
use Rattle.std.proofs.Common.{length, map, Less, Equal, Greater, Option, Some, None, refl, sym, ap, subst}
use Rattle.std.proofs.Common.{◌∙◌, arith, ltb-true, lt-ltb, nat_lt}
use Rattle.std.specs.Prelude.{All, Contains, IsTrue, ◌↔◌, ◌||◌, slice_get}
use Rattle.std.specs.List.{range_with_len, AllZip}
use Rattle.std.specs.Ordering.{ordering_reverse}
use Rattle.std.proofs.lemmas.Bool.{cases_lt, cases_eq, cases_order, or_cases}
use Rattle.std.proofs.lemmas.Cmp.{tied_itself}
use Rattle.std.proofs.lemmas.List.{length-map, get_or_default}
use Rattle.std.proofs.lemmas.List.Elements.{All-head, All-tail, All-nil, All-cons, Contains-get_or}
use Rattle.std.proofs.lemmas.Option.{slice_get_within}
use Rattle.tv_kleene.specs.declared.K3.{K3}
use Rattle.tv_kleene.specs.declared.K3.TheVariants.{No}
use Rattle.tv_kleene.specs.Kleene.{LiesUnder}
use Rattle.tv_structure_form.specs.TableForm.{AreIndividuals}
use Rattle.tv_structure_form.specs.StructureForm.{StructureForm, structure_of, value_at, summary_at}
use Rattle.tv_structure_form.specs.StructureForm.{arities_of}
use Rattle.tv_structure_form.proofs.Library.{Contains-range, below-range, AreIndividuals-range}
use Rattle.tv_structure_form.proofs.Library.{value_at-misfit}
use Rattle.tv_blur.specs.declared.names.CanonicalNames.{CanonicalNames}
use Rattle.tv_blur.specs.Merged.{IsJoin, IsMember, IsValueBelow, HasSummary, HasSeveral}
use Rattle.tv_blur.specs.Names.{name_cmp, name_cmp_total}
use Rattle.tv_blur.specs.Blur.{FollowsNames, IsBlurBy}
use Rattle.tv_blur.specs.Naming.{AreNames, IsGathered, TellNames, class_name, canonical_name_in, named_in}
use Rattle.tv_blur.specs.Classes.{AreClasses, HasMerged, IsValueAmong, class_at, is_merged_summary}
use Rattle.tv_blur.proofs.MergedLaws.{IsJoin-like}

-- ---- places of classes

-- what all proofs below are about: the place of each individual's class, and its members
pub record HasClasses (preds : List ℕ) (s : StructureForm) (place : ℕ → ℕ) (classes : List (List ℕ)) : Type 0 where
  pub order : FollowsNames preds (structure_of s) s.size place
  pub lt : (u : ℕ) → u < s.size → place u < length classes
  pub to : (w u : ℕ) → w < length classes → Contains (class_at classes w) u → (u < s.size) × (place u ≡ w)
  pub from : (w u : ℕ) → w < length classes → u < s.size → place u ≡ w → Contains (class_at classes w) u
  pub some : (w : ℕ) → w < length classes → 0 < length (class_at classes w)
  pub rises : (w : ℕ) → w < length classes → 1 < length (class_at classes w)
      → get_or (class_at classes w) 0 0 < get_or (class_at classes w) 1 0

-- the place of an individual's class, 0 where there is none
place_among : (names : CanonicalNames) (n : ℕ) (classes : List (List ℕ)) → IsGathered names n classes → (u : ℕ) → (u < n) ⊎ (n ≤ u) → ℕ
place_among names n classes h u (inl lt) = (h.all u lt).0
place_among names n classes h u (inr past) = 0

pub place_of : (names : CanonicalNames) (n : ℕ) (classes : List (List ℕ)) → IsGathered names n classes → ℕ → ℕ
place_of names n classes h u = place_among names n classes h u (cases_lt u n)

placed : (names : CanonicalNames) (n : ℕ) (classes : List (List ℕ)) (h : IsGathered names n classes) (u : ℕ) → u < n
    → (place_of names n classes h u < length classes) × Contains (class_at classes (place_of names n classes h u)) u
unfolding place_among place_of
placed names n classes h u lt = at (cases_lt u n)
  where
    at : (c : (u < n) ⊎ (n ≤ u)) → (place_among names n classes h u c < length classes)
        × Contains (class_at classes (place_among names n classes h u c)) u
    at (inl below) = ((h.all u below).1, (h.all u below).2)
    at (inr past) = absurd (omega (arith, lt, past))

-- classes of one name are one
same_class : (names : CanonicalNames) (n : ℕ) (classes : List (List ℕ)) → IsGathered names n classes → (w x : ℕ)
    → w < length classes → x < length classes → class_name names classes w ≡ class_name names classes x → w ≡ x
same_class names n classes h w x w_lt x_lt e = at (cases_order w x)
  where
    apart : (w x : ℕ) → w < x → x < length classes → class_name names classes w ≡ class_name names classes x → ⊥
    apart w x before lt e =
        let equal : name_cmp (class_name names classes w) (class_name names classes x) ≡ Equal
        = rw e (tied_itself name_cmp_total (class_name names classes x))
        in absurd (let f : Less ≡ Equal = sym (h.order w x before lt) ∙ equal in cc)

    at : (w ≡ x) ⊎ ((w < x) ⊎ (x < w)) → w ≡ x
    at (inl same) = same
    at (inr (inl before)) = absurd (apart w x before x_lt e)
    at (inr (inr after)) = absurd (apart x w after w_lt (sym e))

-- gathered classes of all individuals
pub gathered_all : (preds : List ℕ) (names : CanonicalNames) (classes : List (List ℕ)) → TellNames preds (named_in names) names.rows.items
    → (h : IsGathered names (named_in names).size classes)
    → HasClasses preds (named_in names) (place_of names (named_in names).size classes h) classes
gathered_all preds names classes tell h = record {
  order = λ u w u_lt w_lt. (
    λ less. sym (tell.alike u w u_lt w_lt) ∙ before u w u_lt w_lt less,
    λ is. back u w u_lt w_lt (tell.alike u w u_lt w_lt ∙ is),
  );
  lt = λ u lt. (placed names n classes h u lt).0;
  to = λ w u lt has.
      let below : u < n = (h.each w lt).within u has
      in (
        below,
        same_class names n classes h (place u) w (placed names n classes h u below).0 lt
            (sym (name u below) ∙ (h.each w lt).one u has),
      );
  from = λ w u lt below is. subst (λ x. Contains (class_at classes x) u) is (placed names n classes h u below).1;
  some = λ w lt. (h.each w lt).some;
  rises = λ w lt. (h.each w lt).rises;
}
  where
    n : ℕ
    n = (named_in names).size

    place : ℕ → ℕ
    place = place_of names n classes h

    -- each individual has the name of its class
    name : (u : ℕ) → u < n → canonical_name_in names u ≡ class_name names classes (place u)
    name u lt = (h.each (place u) (placed names n classes h u lt).0).one u (placed names n classes h u lt).1

    before : (u w : ℕ) → u < n → w < n → place u < place w → name_cmp (canonical_name_in names u) (canonical_name_in names w) ≡ Less
    before u w u_lt w_lt less =
        rw (name u u_lt, name w w_lt) (h.order (place u) (place w) less (placed names n classes h w w_lt).0)

    back : (u w : ℕ) → u < n → w < n → name_cmp (canonical_name_in names u) (canonical_name_in names w) ≡ Less → place u < place w
    back u w u_lt w_lt is = at (cases_order (place u) (place w))
      where
        at : (place u ≡ place w) ⊎ ((place u < place w) ⊎ (place w < place u)) → place u < place w
        at (inl same) =
            let e : canonical_name_in names u ≡ canonical_name_in names w = name u u_lt ∙ ap (class_name names classes) same ∙ sym (name w w_lt)
            in let equal : name_cmp (canonical_name_in names u) (canonical_name_in names w) ≡ Equal
            = rw e (tied_itself name_cmp_total (canonical_name_in names w))
            in absurd (let f : Less ≡ Equal = sym is ∙ equal in cc)
        at (inr (inl less)) = less
        at (inr (inr after)) =
            absurd (let f : Less ≡ Greater
            = sym is ∙ name_cmp_total.antisymm (canonical_name_in names u) (canonical_name_in names w)
            ∙ ap ordering_reverse (before w u w_lt u_lt after) in cc)

pub gathered_classes : (preds : List ℕ) (s : StructureForm) (names : CanonicalNames) (classes : List (List ℕ)) → AreNames preds s names
    → IsGathered names (named_in names).size classes → (place : ℕ → ℕ) × HasClasses preds s place classes
gathered_classes preds s names classes are h =
    let place : ℕ → ℕ = place_of names (named_in names).size classes h
    in (
      place,
      subst (λ t. HasClasses preds t place classes) are.of
          (gathered_all preds names classes (subst (λ t. TellNames preds t names.rows.items) (sym are.of) are.tell) h),
    )

-- some individual stands at each place
at-place : (preds : List ℕ) (s : StructureForm) (place : ℕ → ℕ) (classes : List (List ℕ)) → HasClasses preds s place classes
    → (w : ℕ) → w < length classes → (u : ℕ) × (u < s.size) × (place u ≡ w)
at-place preds s place classes h w lt =
    let u : ℕ = get_or (class_at classes w) 0 0
    in let both : (u < s.size) × (place u ≡ w) = h.to w u lt (Contains-get_or (class_at classes w) 0 0 (h.some w lt))
    in (u, both.0, both.1)

pub are_classes : (preds : List ℕ) (s : StructureForm) (place : ℕ → ℕ) (classes : List (List ℕ))
    → HasClasses preds s place classes → length classes ≤ 256 → AreClasses s classes
are_classes preds s place classes h few = record {
  few = few;
  some = λ w d lt. rw (get_or_default classes w d [] lt) (h.some w lt);
  within = λ w d lt.
      let P : List ℕ → Type 0 = λ class. All (λ u. u < s.size) class
      in subst P (get_or_default classes w [] d lt)
      (λ k e k_lt. (h.to w (get_or (class_at classes w) k e) lt (Contains-get_or (class_at classes w) k e k_lt)).0);
}

-- ---- values

below-among : (preds : List ℕ) (s : StructureForm) (place : ℕ → ℕ) (classes : List (List ℕ))
    → HasClasses preds s place classes → (below tuple : List ℕ) → AreIndividuals (length classes) tuple
    → AllZip (λ u w. Contains (class_at classes w) u) below tuple
    → All (Contains (range_with_len 0 s.size)) below × (map place below ≡ tuple)
below-among preds s place classes h [] [] within all = (All-nil (Contains (range_with_len 0 s.size)), refl)
below-among preds s place classes h [] (w ∷ ws) within all = absurd all
below-among preds s place classes h (u ∷ us) [] within all = absurd all
below-among preds s place classes h (u ∷ us) (w ∷ ws) within all =
    let one : (u < s.size) × (place u ≡ w) = h.to w u within.0 all.0
    in let rest : All (Contains (range_with_len 0 s.size)) us × (map place us ≡ ws)
    = below-among preds s place classes h us ws within.1 all.1
    in (
      All-cons (Contains (range_with_len 0 s.size)) u us (Contains-range s.size u one.0) rest.0,
      λ i. one.1 i ∷ rest.1 i,
    )

among-below : (preds : List ℕ) (s : StructureForm) (place : ℕ → ℕ) (classes : List (List ℕ))
    → HasClasses preds s place classes → (below tuple : List ℕ) → AreIndividuals (length classes) tuple
    → All (Contains (range_with_len 0 s.size)) below → map place below ≡ tuple
    → AllZip (λ u w. Contains (class_at classes w) u) below tuple
among-below preds s place classes h [] [] within all e = tt
among-below preds s place classes h [] (w ∷ ws) within all e = absurd (cc)
among-below preds s place classes h (u ∷ us) [] within all e = absurd (cc)
among-below preds s place classes h (u ∷ us) (w ∷ ws) within all e =
    let goes : place u ≡ w = cc
    in let rest : map place us ≡ ws = cc
    in (
      h.from w u within.0
          (below-range s.size u (All-head (Contains (range_with_len 0 s.size)) u us all)) goes,
      among-below preds s place classes h us ws within.1 (All-tail (Contains (range_with_len 0 s.size)) u us all) rest,
    )

-- some tuple is taken to each
some-below : (preds : List ℕ) (s : StructureForm) (place : ℕ → ℕ) (classes : List (List ℕ))
    → HasClasses preds s place classes → (tuple : List ℕ) → AreIndividuals (length classes) tuple
    → (below : List ℕ) × All (Contains (range_with_len 0 s.size)) below × (map place below ≡ tuple)
some-below preds s place classes h [] within = ([], All-nil (Contains (range_with_len 0 s.size)), refl)
some-below preds s place classes h (w ∷ ws) within =
    join (at-place preds s place classes h w within.0) (some-below preds s place classes h ws within.1)
  where
    join : (u : ℕ) × (u < s.size) × (place u ≡ w)
        → (below : List ℕ) × All (Contains (range_with_len 0 s.size)) below × (map place below ≡ ws)
        → (below : List ℕ) × All (Contains (range_with_len 0 s.size)) below × (map place below ≡ w ∷ ws)
    join (u, lt, is) (us, all, e) = (
      u ∷ us,
      All-cons (Contains (range_with_len 0 s.size)) u us (Contains-range s.size u lt) all,
      λ i. is i ∷ e i,
    )

arity_or_not : (xs : List ℕ) (pred n : ℕ) → (slice_get xs pred ≡ Some n) ⊎ (¬ (slice_get xs pred ≡ Some n))
arity_or_not xs pred n = at (slice_get xs pred) refl
  where
    at : (o : Option ℕ) → slice_get xs pred ≡ o → (slice_get xs pred ≡ Some n) ⊎ (¬ (slice_get xs pred ≡ Some n))
    at None is = inr (λ e. absurd (cc))
    at (Some a) is = elim (cases_eq a n) [ inl same ↦ inl (is ∙ ap Some same) | inr differ ↦ inr (λ e. differ (cc)) ]

values-joined : (preds : List ℕ) (s t : StructureForm) (place : ℕ → ℕ) (classes : List (List ℕ))
    → HasClasses preds s place classes → HasMerged classes s (length (arities_of s)) t → (pred : ℕ) (tuple : List ℕ)
    → AreIndividuals t.size tuple → IsJoin (IsValueBelow place (structure_of s) pred tuple) (value_at t pred tuple)
values-joined preds s t place classes h have pred tuple in_t = at (arity_or_not (arities_of t) pred (length tuple))
  where
    in_names : AreIndividuals (length classes) tuple
    in_names =
        let P : ℕ → Type 0 = λ n. AreIndividuals n tuple
        in subst P have.size in_t

    none : ¬ (slice_get (arities_of t) pred ≡ Some (length tuple)) → (j : K3)
        → IsValueBelow place (structure_of s) pred tuple j → j ≡ No
    none other j (below, all, goes, is) =
        sym is
        ∙ value_at-misfit s pred below
        (λ arity. other (ap (λ x. slice_get x pred) have.over ∙ arity
        ∙ ap Some (sym (length-map below place) ∙ ap length goes)))

    least : ¬ (slice_get (arities_of t) pred ≡ Some (length tuple)) → (l : K3)
        → ((j : K3) → IsValueBelow place (structure_of s) pred tuple j → LiesUnder j l)
        → (below : List ℕ) × All (Contains (range_with_len 0 s.size)) below × (map place below ≡ tuple)
        → LiesUnder No l
    least other l each (below, all, goes) =
        let P : K3 → Type 0 = λ k. LiesUnder k l
        in subst P (none other (value_at s pred below) (below, all, goes, refl))
        (each (value_at s pred below) (below, all, goes, refl))

    at : (slice_get (arities_of t) pred ≡ Some (length tuple)) ⊎ (¬ (slice_get (arities_of t) pred ≡ Some (length tuple)))
        → IsJoin (IsValueBelow place (structure_of s) pred tuple) (value_at t pred tuple)
    at (inl arity) =
        IsJoin-like (IsValueAmong classes s pred tuple) (IsValueBelow place (structure_of s) pred tuple)
        (value_at t pred tuple)
        (λ j (below, all, is).
        let both : All (Contains (range_with_len 0 s.size)) below × (map place below ≡ tuple)
        = below-among preds s place classes h below tuple in_names all
        in (below, both.0, both.1, is))
        (λ j (below, all, goes, is). (below, among-below preds s place classes h below tuple in_names all goes, is))
        (have.values pred
        (rw (← have.over) (slice_get_within (arities_of t) pred (length tuple) arity)) tuple
        (record { arity = arity; individuals = in_t }))
    at (inr other) =
        let is_no : value_at t pred tuple ≡ No = value_at-misfit t pred tuple other
        in let P : K3 → Type 0 = λ k. IsJoin (IsValueBelow place (structure_of s) pred tuple) k
        in subst P (sym is_no) (record {
          above = λ j v. inl (none other j v);
          least = λ l each. least other l each (some-below preds s place classes h tuple in_names);
        })

-- ---- summaries

-- the members are in increasing order, so several members are several individuals
member-at : (preds : List ℕ) (s : StructureForm) (place : ℕ → ℕ) (classes : List (List ℕ))
    → HasClasses preds s place classes → (w k : ℕ) → w < length classes → k < length (class_at classes w)
    → IsMember place (structure_of s) w (get_or (class_at classes w) k 0)
member-at preds s place classes h w k lt within =
    let one : ℕ = get_or (class_at classes w) k 0
    in let both : (one < s.size) × (place one ≡ w)
    = h.to w one lt (k, within, get_or_default (class_at classes w) k one 0 within)
    in record { individual = Contains-range s.size one both.0; goes = both.1 }

summary-is : (preds : List ℕ) (s : StructureForm) (place : ℕ → ℕ) (classes : List (List ℕ))
    → HasClasses preds s place classes → (w : ℕ) → w < length classes
    → IsTrue (is_merged_summary s (class_at classes w))
    ↔ (HasSummary place (structure_of s) w ⊎ HasSeveral place (structure_of s) w)
summary-is preds s place classes h w lt = (to, from)
  where
    class : List ℕ
    class = class_at classes w

    first_lt : 0 < length class
    first_lt = h.some w lt

    rises : 1 < length class → get_or class 0 0 < get_or class 1 0
    rises several = h.rises w lt several

    to : IsTrue (is_merged_summary s class) → HasSummary place (structure_of s) w ⊎ HasSeveral place (structure_of s) w
    to e = at (or_cases (nat_lt 1 (length class)) (summary_at s (get_or class 0 0)) e)
      where
        at : (nat_lt 1 (length class) ≡ true) ⊎ (summary_at s (get_or class 0 0) ≡ true)
            → HasSummary place (structure_of s) w ⊎ HasSeveral place (structure_of s) w
        at (inl several) =
            let more : 1 < length class = ltb-true 1 (length class) several
            in inr (
              get_or class 0 0,
              get_or class 1 0,
              member-at preds s place classes h w 0 lt first_lt,
              member-at preds s place classes h w 1 lt more,
              (λ same. let less : get_or class 0 0 < get_or class 1 0 = rises more in omega arith),
            )
        at (inr summary) = inl (get_or class 0 0, member-at preds s place classes h w 0 lt first_lt, summary)

    has : (u : ℕ) → IsMember place (structure_of s) w u → Contains class u
    has u is = h.from w u lt (below-range s.size u is.individual) is.goes

    or_true : (a b : Bool) → (a ≡ true) ⊎ (b ≡ true) → (a || b) ≡ true
    or_true true b e = refl
    or_true false b (inl e) = absurd (cc)
    or_true false b (inr e) = e

    only : length class ≤ 1 → (u : ℕ) → Contains class u → get_or class 0 0 ≡ u
    only one u (k, within, at) =
        let first : k ≡ 0 = omega arith
        in get_or_default class 0 0 u first_lt ∙ ap (λ i. get_or class i u) (sym first) ∙ at

    from : HasSummary place (structure_of s) w ⊎ HasSeveral place (structure_of s) w → IsTrue (is_merged_summary s class)
    from found = or_true (nat_lt 1 (length class)) (summary_at s (get_or class 0 0)) (at found (cases_lt 1 (length class)))
      where
        at : HasSummary place (structure_of s) w ⊎ HasSeveral place (structure_of s) w
            → (1 < length class) ⊎ (length class ≤ 1)
            → (nat_lt 1 (length class) ≡ true) ⊎ (summary_at s (get_or class 0 0) ≡ true)
        at found (inl more) = inl (lt-ltb 1 (length class) more)
        at (inl (u, is, summary)) (inr one) = inr (ap (summary_at s) (only one u (has u is)) ∙ summary)
        at (inr (u, x, is, other, differ)) (inr one) = absurd (differ (sym (only one u (has u is)) ∙ only one x (has x other)))

-- ---- the blur

pub is_blur : (preds : List ℕ) (s t : StructureForm) (place : ℕ → ℕ) (classes : List (List ℕ))
    → HasClasses preds s place classes → HasMerged classes s (length (arities_of s)) t
    → IsBlurBy place preds s t
is_blur preds s t place classes h have = record {
  merged = record {
    into = λ u at.
        Contains-range t.size (place u)
        (rw size (h.lt u (below-range s.size u at)));
    onto = λ w at. onto w (at-place preds s place classes h w (rw (← size) (below-range t.size w at)));
    values = λ pred tuple all. values-joined preds s t place classes h have pred tuple (AreIndividuals-range t.size tuple all);
    summaries = λ w at. summaries w (rw (← size) (below-range t.size w at));
  };
  order = h.order;
  over = have.over;
  unmarked = have.fresh;
}
  where
    size : t.size ≡ length classes
    size = have.size

    onto : (w : ℕ) → (u : ℕ) × (u < s.size) × (place u ≡ w) → (u : ℕ) × IsMember place (structure_of s) w u
    onto w (u, lt, is) = (u, record { individual = Contains-range s.size u lt; goes = is })

    summaries : (w : ℕ) → w < length classes
        → IsTrue (summary_at t w) ↔ (HasSummary place (structure_of s) w ⊎ HasSeveral place (structure_of s) w)
    summaries w lt =
        let same : summary_at t w ≡ is_merged_summary s (class_at classes w)
        = have.summaries w lt
        in let each : IsTrue (is_merged_summary s (class_at classes w))
        ↔ (HasSummary place (structure_of s) w ⊎ HasSeveral place (structure_of s) w)
        = summary-is preds s place classes h w lt
        in (λ e. each.0 (sym same ∙ e), λ found. same ∙ each.1 found)
