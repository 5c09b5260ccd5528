-- Classes of the first individuals, one individual after the other.
use Rattle.std.proofs.Common.{ℕ, ◌≡◌, ◌≢◌, ◌⊎◌, ◌<◌, ◌≤◌, ◌+◌, ◌-◌, inl, inr, List, [], ◌∷◌, ◌++◌, get_or}
use Rattle.std.proofs.Common.{set, length, Less, Equal, Greater, refl, sym, ap, subst, ◌∙◌, ⊎_elim, arith}
use Rattle.std.specs.Prelude.{Contains}
use Rattle.std.specs.declared.cmp.Ordering.{Ordering}
use Rattle.std.specs.List.{insert}
use Rattle.std.specs.Ordering.{ordering_reverse}
use Rattle.std.proofs.lemmas.Bool.{cases_eq, cases_lt, cases_order}
use Rattle.std.proofs.lemmas.List.{length-set, get_or-set_same, get_or-set_other, get_or_append_left}
use Rattle.std.proofs.lemmas.List.{get_or_at, length_push}
use Rattle.std.proofs.lemmas.List.Edits.{length-insert, get_or-insert_below, get_or-insert_at}
use Rattle.std.proofs.lemmas.List.Edits.{get_or-insert_above}
use Rattle.std.proofs.lemmas.List.Elements.{Contains-get_or, Contains-append_left, Contains-push}
use Rattle.std.proofs.lemmas.List.Elements.{Contains-push_cases}
use Rattle.tv_kleene.specs.declared.K3.{K3}
use Rattle.tv_blur.specs.declared.names.CanonicalNames.{CanonicalNames}
use Rattle.tv_blur.specs.Names.{name_cmp, name_cmp_total}
use Rattle.tv_blur.specs.Classes.{class_at}
use Rattle.tv_blur.specs.Naming.{IsClass, IsGathered, class_name, canonical_name_in}
use Rattle.tv_blur.proofs.BlurLaws.{name-exact}

-- ---- order of names

-- what is neither below nor equal is above
above : (x y : List K3) → name_cmp x y ≢ Less → name_cmp x y ≢ Equal → name_cmp y x ≡ Less
above x y not_below differ = at (name_cmp x y) refl
  where
    at : (o : Ordering) → name_cmp x y ≡ o → name_cmp y x ≡ Less
    at Less is = absurd (not_below is)
    at Equal is = absurd (differ is)
    at Greater is = name_cmp_total.antisymm y x ∙ ap ordering_reverse is

-- ---- searching

pub search_below : (names : CanonicalNames) (n : ℕ) (classes : List (List ℕ)) (u middle : ℕ) → IsGathered names n classes
    → middle < length classes → name_cmp (class_name names classes middle) (canonical_name_in names u) ≡ Less
    → (w : ℕ) → w < middle + 1 → name_cmp (class_name names classes w) (canonical_name_in names u) ≡ Less
search_below names n classes u middle h lt less w below =
    ⊎_elim
    (λ before.
    name_cmp_total.trans (class_name names classes w) (class_name names classes middle) (canonical_name_in names u)
    (h.order w middle before lt) less)
    (λ past. let same : middle ≡ w = omega (arith, below, past)
    in subst (λ x. name_cmp (class_name names classes x) (canonical_name_in names u) ≡ Less) same less)
    (cases_lt w middle)

pub search_above : (names : CanonicalNames) (n : ℕ) (classes : List (List ℕ)) (u middle : ℕ) → IsGathered names n classes
    → name_cmp (class_name names classes middle) (canonical_name_in names u) ≢ Less
    → (w : ℕ) → middle ≤ w → w < length classes → name_cmp (class_name names classes w) (canonical_name_in names u) ≢ Less
search_above names n classes u middle h not_less w past lt less =
    ⊎_elim
    (λ before.
    not_less (name_cmp_total.trans (class_name names classes middle) (class_name names classes w) (canonical_name_in names u)
    (h.order middle w before lt) less))
    (λ later. let same : w ≡ middle = omega (arith, later, past)
    in not_less (subst (λ x. name_cmp (class_name names classes x) (canonical_name_in names u) ≡ Less) same less))
    (cases_lt middle w)

-- the first member of a class
pub first_within : (names : CanonicalNames) (n : ℕ) (classes : List (List ℕ)) (w : ℕ) (members : List ℕ) → IsGathered names n classes
    → w < length classes → members ≡ class_at classes w → (0 < length members) × (get_or members 0 0 < n)
first_within names n classes w members h lt is =
    subst (λ xs. (0 < length xs) × (get_or xs 0 0 < n)) (sym is)
    ((h.each w lt).some, (h.each w lt).within (get_or (class_at classes w) 0 0) (Contains-get_or (class_at classes w) 0 0 (h.each w lt).some))

-- ---- one individual more

pub gathered_none : (names : CanonicalNames) → IsGathered names 0 []
gathered_none names = record {
  few = omega arith;
  each = λ w lt. absurd (omega arith);
  order = λ w x before lt. absurd (omega arith);
  all = λ u lt. absurd (omega arith);
}

later_class : (names : CanonicalNames) (n : ℕ) (members : List ℕ) → IsClass names n members → IsClass names (n + 1) members
later_class names n members h = record {
  some = h.some;
  within = λ u has. let lt : u < n = h.within u has in omega arith;
  one = h.one;
  rises = h.rises;
}

-- a class with one more member, which is last
class_more : (names : CanonicalNames) (n : ℕ) (members : List ℕ) → IsClass names n members
    → canonical_name_in names n ≡ canonical_name_in names (get_or members 0 0) → IsClass names (n + 1) (members ++ n ∷ [])
class_more names n members h same = record {
  some = omega (arith, length_push members n);
  within = λ u has.
      ⊎_elim (λ old. let lt : u < n = h.within u old in omega arith) (λ new. omega (arith, new))
      (Contains-push_cases members n u has);
  one = λ u has.
      ⊎_elim (λ old. h.one u old) (λ new. subst (λ x. canonical_name_in names x ≡ canonical_name_in names (get_or members 0 0)) new same)
      (Contains-push_cases members n u has)
      ∙ ap (canonical_name_in names) (sym first);
  rises = λ more. rises (cases_lt 1 (length members));
}
  where
    first : get_or (members ++ n ∷ []) 0 0 ≡ get_or members 0 0
    first = get_or_append_left members (n ∷ []) 0 0 h.some

    rises : (1 < length members) ⊎ (length members ≤ 1) → get_or (members ++ n ∷ []) 0 0 < get_or (members ++ n ∷ []) 1 0
    rises (inl more) =
        let second : get_or (members ++ n ∷ []) 1 0 ≡ get_or members 1 0 = get_or_append_left members (n ∷ []) 0 1 more
        in let less : get_or members 0 0 < get_or members 1 0 = h.rises more
        in omega (arith, first, second, less)
    rises (inr single) =
        let last : get_or (members ++ n ∷ []) 1 0 ≡ n = get_or_at members n [] 0 1 (omega (arith, h.some, single))
        in let less : get_or members 0 0 < n = h.within (get_or members 0 0) (Contains-get_or members 0 0 h.some)
        in omega (arith, first, last, less)

one_class : (names : CanonicalNames) (n : ℕ) → IsClass names (n + 1) (n ∷ [])
one_class names n = record {
  some = omega arith;
  within = λ u has. ⊎_elim (λ none. absurd (omega (arith, none.1))) (λ same. omega (arith, same)) (Contains-push_cases [] n u has);
  one = λ u has.
      ⊎_elim (λ none. absurd (omega (arith, none.1))) (λ same. ap (canonical_name_in names) (sym same)) (Contains-push_cases [] n u has);
  rises = λ more. absurd (omega (arith, more));
}

-- the individual is put into the class of its name
pub gathered_known : (names : CanonicalNames) (n place : ℕ) (classes new : List (List ℕ)) → IsGathered names n classes
    → place < length classes → name_cmp (class_name names classes place) (canonical_name_in names n) ≡ Equal
    → new ≡ set classes place (class_at classes place ++ n ∷ []) → IsGathered names (n + 1) new
gathered_known names n place classes new h lt same is = record {
  few = omega (arith, h.few, count);
  each = λ w within. each w (omega (arith, count, within)) (cases_eq w place);
  order = λ w x before within.
      subst (λ name. name_cmp name (class_name names new x) ≡ Less) (sym (name w))
      (subst (λ name. name_cmp (class_name names classes w) name ≡ Less) (sym (name x))
      (h.order w x before (omega (arith, count, within))));
  all = λ u below. all u (cases_lt u n) below;
}
  where
    more : List ℕ
    more = class_at classes place ++ n ∷ []

    count : length new ≡ length classes
    count = ap length is ∙ length-set classes place more

    here : class_at new place ≡ more
    here = ap (λ xs. get_or xs place []) is ∙ get_or-set_same classes place more [] lt

    away : (w : ℕ) → w ≢ place → class_at new w ≡ class_at classes w
    away w differ = ap (λ xs. get_or xs w []) is ∙ get_or-set_other classes place w more [] differ

    each : (w : ℕ) → w < length classes → (w ≡ place) ⊎ (w ≢ place) → IsClass names (n + 1) (class_at new w)
    each w within (inl own) =
        subst (λ x. IsClass names (n + 1) (class_at new x)) (sym own)
        (subst (IsClass names (n + 1)) (sym here)
        (class_more names n (class_at classes place) (h.each place lt)
        (sym (name-exact (class_name names classes place) (canonical_name_in names n) same))))
    each w within (inr differ) =
        subst (IsClass names (n + 1)) (sym (away w differ)) (later_class names n (class_at classes w) (h.each w within))

    first : (w : ℕ) → (w ≡ place) ⊎ (w ≢ place) → get_or (class_at new w) 0 0 ≡ get_or (class_at classes w) 0 0
    first w (inl own) =
        subst (λ x. get_or (class_at new x) 0 0 ≡ get_or (class_at classes x) 0 0) (sym own)
        (ap (λ xs. get_or xs 0 0) here ∙ get_or_append_left (class_at classes place) (n ∷ []) 0 0 (h.each place lt).some)
    first w (inr differ) = ap (λ xs. get_or xs 0 0) (away w differ)

    name : (w : ℕ) → class_name names new w ≡ class_name names classes w
    name w = ap (canonical_name_in names) (first w (cases_eq w place))

    kept : (w u : ℕ) → (w ≡ place) ⊎ (w ≢ place) → Contains (class_at classes w) u → Contains (class_at new w) u
    kept w u (inl own) has =
        subst (λ x. Contains (class_at new x) u) (sym own)
        (subst (λ xs. Contains xs u) (sym here)
        (Contains-append_left (class_at classes place) (n ∷ []) u (subst (λ x. Contains (class_at classes x) u) own has)))
    kept w u (inr differ) has = subst (λ xs. Contains xs u) (sym (away w differ)) has

    all : (u : ℕ) → (u < n) ⊎ (n ≤ u) → u < n + 1 → (w : ℕ) × (w < length new) × Contains (class_at new w) u
    all u (inl before) below =
        let old : (w : ℕ) × (w < length classes) × Contains (class_at classes w) u = h.all u before
        in (old.0, omega (arith, count, old.1), kept old.0 u (cases_eq old.0 place) old.2)
    all u (inr past) below =
        let last : n ≡ u = omega (arith, below, past)
        in (
          place,
          omega (arith, count, lt),
          subst (λ xs. Contains xs u) (sym here)
              (subst (Contains more) last (Contains-push (class_at classes place) n)),
        )

-- the individual is put into a class of its own
pub gathered_new : (names : CanonicalNames) (n place : ℕ) (classes new : List (List ℕ)) → IsGathered names n classes
    → place ≤ length classes
    → ((w : ℕ) → w < place → name_cmp (class_name names classes w) (canonical_name_in names n) ≡ Less)
    → ((w : ℕ) → place ≤ w → w < length classes → name_cmp (class_name names classes w) (canonical_name_in names n) ≢ Less)
    → (place < length classes → name_cmp (class_name names classes place) (canonical_name_in names n) ≢ Equal)
    → new ≡ insert classes place (n ∷ []) → IsGathered names (n + 1) new
gathered_new names n place classes new h le less not_less differ is = record {
  few = omega (arith, h.few, count);
  each = λ w within. each w (where_is w) (omega (arith, count, within));
  order = λ w x before within. order w x before (omega (arith, count, within)) (where_is w) (where_is x);
  all = λ u below. all u (cases_lt u n) below;
}
  where
    count : length new ≡ length classes + 1
    count = ap length is ∙ length-insert classes place (n ∷ []) le

    here : class_at new place ≡ n ∷ []
    here = ap (λ xs. get_or xs place []) is ∙ get_or-insert_at classes place (n ∷ []) [] le

    below : (w : ℕ) → w < place → class_at new w ≡ class_at classes w
    below w lt = ap (λ xs. get_or xs w []) is ∙ get_or-insert_below classes place (n ∷ []) [] w lt le

    behind : (w : ℕ) → place ≤ w → class_at new (w + 1) ≡ class_at classes w
    behind w past = ap (λ xs. get_or xs (w + 1) []) is ∙ get_or-insert_above classes place (n ∷ []) [] w past le

    -- the class at a place: one from before, the new one, or one from behind
    Where : ℕ → Type 0
    Where w = (w < place) ⊎ ((w ≡ place) ⊎ ((k : ℕ) × (place ≤ k) × (w ≡ k + 1)))

    where_is : (w : ℕ) → Where w
    where_is w = at (cases_order w place)
      where
        at : (w ≡ place) ⊎ ((w < place) ⊎ (place < w)) → Where w
        at (inl same) = inr (inl same)
        at (inr (inl before)) = inl before
        at (inr (inr after)) = inr (inr (w - 1, omega (arith, after), omega (arith, after)))

    each : (w : ℕ) → Where w → w < length classes + 1 → IsClass names (n + 1) (class_at new w)
    each w (inl before) within =
        subst (IsClass names (n + 1)) (sym (below w before))
        (later_class names n (class_at classes w) (h.each w (omega (arith, before, le))))
    each w (inr (inl same)) within =
        subst (λ x. IsClass names (n + 1) (class_at new x)) (sym same) (subst (IsClass names (n + 1)) (sym here) (one_class names n))
    each w (inr (inr (k, past, next))) within =
        subst (λ x. IsClass names (n + 1) (class_at new x)) (sym next)
        (subst (IsClass names (n + 1)) (sym (behind k past))
        (later_class names n (class_at classes k) (h.each k (omega (arith, next, within)))))

    name-before : (w : ℕ) → w < place → class_name names new w ≡ class_name names classes w
    name-before w lt = ap (λ xs. canonical_name_in names (get_or xs 0 0)) (below w lt)

    name-here : (w : ℕ) → w ≡ place → class_name names new w ≡ canonical_name_in names n
    name-here w same =
        ap (class_name names new) same ∙ ap (λ xs. canonical_name_in names (get_or xs 0 0)) here

    name-behind : (w k : ℕ) → place ≤ k → w ≡ k + 1 → class_name names new w ≡ class_name names classes k
    name-behind w k past next =
        ap (class_name names new) next ∙ ap (λ xs. canonical_name_in names (get_or xs 0 0)) (behind k past)

    Below : List K3 → List K3 → Type 0
    Below x y = name_cmp x y ≡ Less

    like : (x y a b : List K3) → a ≡ x → b ≡ y → Below x y → Below a b
    like x y a b e f less = subst (λ z. Below z b) (sym e) (subst (Below x) (sym f) less)

    over : (k : ℕ) → place ≤ k → k < length classes → Below (canonical_name_in names n) (class_name names classes k)
    over k past lt =
        above (class_name names classes k) (canonical_name_in names n) (not_less k past lt)
        (λ equal. at equal (cases_lt place k))
      where
        at : name_cmp (class_name names classes k) (canonical_name_in names n) ≡ Equal → (place < k) ⊎ (k ≤ place) → ⊥
        at equal (inl later) =
            let e : class_name names classes k ≡ canonical_name_in names n = name-exact (class_name names classes k) (canonical_name_in names n) equal
            in not_less place (omega arith) (omega (arith, later, lt))
            (subst (Below (class_name names classes place)) e (h.order place k later lt))
        at equal (inr same) =
            let own : place ≡ k = omega (arith, past, same)
            in differ (omega (arith, own, lt))
            (subst (λ x. name_cmp (class_name names classes x) (canonical_name_in names n) ≡ Equal) (sym own) equal)

    order : (w x : ℕ) → w < x → x < length classes + 1 → Where w → Where x
        → name_cmp (class_name names new w) (class_name names new x) ≡ Less
    order w x before within (inl low) (inl other) =
        like (class_name names classes w) (class_name names classes x) (class_name names new w) (class_name names new x)
        (name-before w low) (name-before x other) (h.order w x before (omega (arith, other, le)))
    order w x before within (inl low) (inr (inl same)) =
        like (class_name names classes w) (canonical_name_in names n) (class_name names new w) (class_name names new x) (name-before w low)
        (name-here x same) (less w low)
    order w x before within (inl low) (inr (inr (k, past, next))) =
        like (class_name names classes w) (class_name names classes k) (class_name names new w) (class_name names new x)
        (name-before w low) (name-behind x k past next) (h.order w k (omega (arith, low, past)) (omega (arith, next, within)))
    order w x before within (inr (inl same)) (inl other) = absurd (omega (arith, same, other, before))
    order w x before within (inr (inl same)) (inr (inl own)) = absurd (omega (arith, same, own, before))
    order w x before within (inr (inl same)) (inr (inr (k, past, next))) =
        like (canonical_name_in names n) (class_name names classes k) (class_name names new w) (class_name names new x) (name-here w same)
        (name-behind x k past next) (over k past (omega (arith, next, within)))
    order w x before within (inr (inr (j, past, next))) (inl other) = absurd (omega (arith, past, next, other, before))
    order w x before within (inr (inr (j, past, next))) (inr (inl own)) = absurd (omega (arith, past, next, own, before))
    order w x before within (inr (inr (j, past, next))) (inr (inr (k, behind_k, then))) =
        like (class_name names classes j) (class_name names classes k) (class_name names new w) (class_name names new x)
        (name-behind w j past next) (name-behind x k behind_k then)
        (h.order j k (omega (arith, next, then, before)) (omega (arith, then, within)))

    kept : (w u : ℕ) → Contains (class_at classes w) u → w < length classes → (w < place) ⊎ (place ≤ w)
        → (x : ℕ) × (x < length new) × Contains (class_at new x) u
    kept w u has lt (inl before) =
        (w, omega (arith, count, lt), subst (λ xs. Contains xs u) (sym (below w before)) has)
    kept w u has lt (inr past) =
        (w + 1, omega (arith, count, lt), subst (λ xs. Contains xs u) (sym (behind w past)) has)

    all : (u : ℕ) → (u < n) ⊎ (n ≤ u) → u < n + 1 → (w : ℕ) × (w < length new) × Contains (class_at new w) u
    all u (inl before) within =
        let old : (w : ℕ) × (w < length classes) × Contains (class_at classes w) u = h.all u before
        in kept old.0 u old.2 old.1 (cases_lt old.0 place)
    all u (inr past) within =
        let last : n ≡ u = omega (arith, within, past)
        in (
          place,
          omega (arith, count, le),
          subst (λ xs. Contains xs u) (sym here) (subst (Contains (n ∷ [])) last (Contains-push [] n)),
        )
