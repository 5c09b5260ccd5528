-- Flags of members, and the join of a row's values at the members, which is that of the least and the greatest.
use Rattle.std.proofs.Common.{ℕ, ◌≡◌, ◌≢◌, ◌⊎◌, ◌<◌, ◌≤◌, zero, suc, inl, inr, Option, None, Some, List, []}
use Rattle.std.proofs.Common.{◌∷◌, ◌++◌, get_or}
use Rattle.std.proofs.Common.{set, length, map, take, replicate, refl, sym, ap, subst, ◌∙◌, ⊎_elim, arith}
use Rattle.std.specs.Prelude.{All, Contains, IfSome}
use Rattle.std.proofs.lemmas.Bool.{cases_eq, cases_lt}
use Rattle.std.proofs.lemmas.List.{length-set, get_or-set_same, get_or-set_other, length-replicate}
use Rattle.std.proofs.lemmas.List.{get_or-replicate, get_or_past, get_or-take, length-take-le, length-map}
use Rattle.std.proofs.lemmas.List.{get_or-map}
use Rattle.std.proofs.lemmas.List.Elements.{All-contains, All-nil, All-push, Contains-get_or}
use Rattle.std.proofs.lemmas.List.Elements.{Contains-append_left}
use Rattle.std.proofs.lemmas.List.Elements.{Contains-push, Contains-push_cases}
use Rattle.tv_kleene.specs.declared.K3.{K3}
use Rattle.tv_kleene.specs.declared.K3.TheVariants.{No, Half, Yes}
use Rattle.tv_kleene.specs.Kleene.{LiesUnder, IsAtMost, smaller_of, larger_of, negation_of, join_of}
use Rattle.tv_kleene.proofs.Lattice.{smaller-assoc, smaller-yes, join_least, larger-either}
use Rattle.tv_row.specs.Bits.{greatest_in, least_in, paired}
use Rattle.tv_row.proofs.WordOps.{length-paired, get_or-paired}
use Rattle.tv_blur.specs.Merged.{IsJoin}
use Rattle.tv_blur.specs.Classes.{IsAmongMembers, IsMask, MayHaveMask}

-- ---- flags

pub mask_none : IsMask [] (replicate 256 No)
mask_none = record {
  long = length-replicate 256 No;
  flags = λ u half. let e : No ≡ Half = sym (none u) ∙ half in cc;
  members_of = λ u. (λ is_yes. absurd (let e : No ≡ Yes = sym (none u) ∙ is_yes in cc), λ has. absurd (omega (arith, has.1)));
}
  where
    none : (u : ℕ) → get_or (replicate 256 No) u No ≡ No
    none u =
        ⊎_elim (λ lt. get_or-replicate 256 u No No lt)
        (λ past. get_or_past (replicate 256 No) u No (rw (length-replicate 256 No) past)) (cases_lt u 256)

pub mask_more : (members : List ℕ) (mask : List K3) (u : ℕ) → IsMask members mask → u < 256
    → IsMask (members ++ u ∷ []) (set mask u Yes)
mask_more members mask u h lt = record {
  long = length-set mask u Yes ∙ h.long;
  flags = λ v. flag v (cases_eq v u);
  members_of = λ v. (λ is_yes. to v (cases_eq v u) is_yes, λ has. from v (cases_eq v u) (Contains-push_cases members u v has));
}
  where
    own : get_or (set mask u Yes) u No ≡ Yes
    own = get_or-set_same mask u Yes No (omega (arith, h.long))

    flag : (v : ℕ) → (v ≡ u) ⊎ (v ≢ u) → get_or (set mask u Yes) v No ≢ Half
    flag v (inl same) half = let e : Yes ≡ Half = sym own ∙ ap (λ x. get_or (set mask u Yes) x No) (sym same) ∙ half in cc
    flag v (inr differ) half = h.flags v (sym (get_or-set_other mask u v Yes No differ) ∙ half)

    to : (v : ℕ) → (v ≡ u) ⊎ (v ≢ u) → get_or (set mask u Yes) v No ≡ Yes → Contains (members ++ u ∷ []) v
    to v (inl same) is_yes = subst (Contains (members ++ u ∷ [])) (sym same) (Contains-push members u)
    to v (inr differ) is_yes =
        Contains-append_left members (u ∷ []) v ((h.members_of v).0 (sym (get_or-set_other mask u v Yes No differ) ∙ is_yes))

    from : (v : ℕ) → (v ≡ u) ⊎ (v ≢ u) → Contains members v ⊎ (u ≡ v) → get_or (set mask u Yes) v No ≡ Yes
    from v (inl same) has = ap (λ x. get_or (set mask u Yes) x No) same ∙ own
    from v (inr differ) (inl has) = get_or-set_other mask u v Yes No differ ∙ (h.members_of v).1 has
    from v (inr differ) (inr same) = absurd (differ (sym same))

pub mask_one : (u : ℕ) → u < 256 → IsMask (u ∷ []) (set (replicate 256 No) u Yes)
mask_one u lt = mask_more [] (replicate 256 No) u mask_none lt

-- ---- classes with and without a mask

pub may_one : (u : ℕ) → u < 256 → MayHaveMask (u ∷ []) None
may_one u lt = record { small = All-push (λ x. x < 256) [] u (All-nil (λ x. x < 256)) lt; mask_of = tt }

pub may_more : (members : List ℕ) (mask new : Option (List K3)) (u : ℕ) → MayHaveMask members mask → u < 256
    → IfSome new (IsMask (members ++ u ∷ [])) → MayHaveMask (members ++ u ∷ []) new
may_more members mask new u h lt is = record { small = All-push (λ x. x < 256) members u h.small lt; mask_of = is }

pub may_flag : (members : List ℕ) (mask : List K3) (u : ℕ) → MayHaveMask members (Some mask) → u < 256
    → MayHaveMask (members ++ u ∷ []) (Some (set mask u Yes))
may_flag members mask u h lt =
    may_more members (Some mask) (Some (set mask u Yes)) u h lt (mask_more members mask u h.mask_of lt)

-- ---- the greatest and the least value

smaller-one : (a b : K3) → (smaller_of a b ≡ a) ⊎ (smaller_of a b ≡ b)
smaller-one No b = inl refl
smaller-one Half No = inr refl
smaller-one Half Half = inl refl
smaller-one Half Yes = inl refl
smaller-one Yes b = inr refl

under-larger : (k g : K3) → IsAtMost k (larger_of k g)
under-larger No g = refl
under-larger Half No = refl
under-larger Half Half = refl
under-larger Half Yes = refl
under-larger Yes g = refl

under-more : (x k g : K3) → IsAtMost x g → IsAtMost x (larger_of k g)
under-more No k g e = refl
under-more Half No g e = e
under-more Half Half No e = absurd (cc)
under-more Half Half Half e = refl
under-more Half Half Yes e = refl
under-more Half Yes g e = refl
under-more Yes No g e = e
under-more Yes Half No e = absurd (cc)
under-more Yes Half Half e = absurd (cc)
under-more Yes Half Yes e = refl
under-more Yes Yes g e = refl

smaller-under : (k g : K3) → IsAtMost (smaller_of k g) k
smaller-under No g = refl
smaller-under Half No = refl
smaller-under Half Half = refl
smaller-under Half Yes = refl
smaller-under Yes g = smaller-yes g

at_most_greatest : (xs : List K3) (i : ℕ) → i < length xs → IsAtMost (get_or xs i No) (greatest_in xs)
at_most_greatest [] i lt = absurd (omega arith)
at_most_greatest (k ∷ xs) zero lt = under-larger k (greatest_in xs)
at_most_greatest (k ∷ xs) (suc i) lt =
    under-more (get_or xs i No) k (greatest_in xs) (at_most_greatest xs i (omega arith))

least_at_most : (xs : List K3) (i : ℕ) → i < length xs → IsAtMost (least_in xs) (get_or xs i No)
least_at_most [] i lt = absurd (omega arith)
least_at_most (k ∷ xs) zero lt = smaller-under k (least_in xs)
least_at_most (k ∷ xs) (suc i) lt =
    smaller-assoc k (least_in xs) (get_or xs i No) ∙ ap (smaller_of k) (least_at_most xs i (omega arith))

greatest_at : (xs : List K3) → (greatest_in xs ≡ No) ⊎ ((i : ℕ) × (i < length xs) × (get_or xs i No ≡ greatest_in xs))
greatest_at [] = inl refl
greatest_at (k ∷ xs) =
    ⊎_elim (λ first. inr (0, omega arith, sym first))
    (λ later. ⊎_elim (λ none. inl (later ∙ none)) (λ (i, lt, at). inr (suc i, omega (arith, lt), at ∙ sym later)) (greatest_at xs))
    (larger-either k (greatest_in xs))

least_at : (xs : List K3) → (least_in xs ≡ Yes) ⊎ ((i : ℕ) × (i < length xs) × (get_or xs i No ≡ least_in xs))
least_at [] = inl refl
least_at (k ∷ xs) =
    ⊎_elim (λ first. inr (0, omega arith, sym first))
    (λ later. ⊎_elim (λ none. inl (later ∙ none)) (λ (i, lt, at). inr (suc i, omega (arith, lt), at ∙ sym later)) (least_at xs))
    (smaller-one k (least_in xs))

none_above : (x : K3) → IsAtMost x No → x ≡ No
none_above No e = refl
none_above Half e = absurd (cc)
none_above Yes e = absurd (cc)

-- what lies between the least and the greatest value lies under their join
between : (l v g : K3) → IsAtMost l v → IsAtMost v g → LiesUnder v (join_of l g)
between No No No a b = inl refl
between No Half No a b = absurd (cc)
between No Yes No a b = absurd (cc)
between No v Half a b = inr refl
between No v Yes a b = inr refl
between Half v g a b = inr refl
between Yes v No a b = inr refl
between Yes v Half a b = inr refl
between Yes No Yes a b = absurd (cc)
between Yes Half Yes a b = absurd (cc)
between Yes Yes Yes a b = inl refl

-- ---- the join at the members

yes_or_no : (k : K3) → k ≢ Half → (k ≡ Yes) ⊎ (k ≡ No)
yes_or_no No ne = inr refl
yes_or_no Half ne = absurd (ne refl)
yes_or_no Yes ne = inl refl

pub joined_masked : (members : List ℕ) (mask row : List K3) → IsMask members mask → length row ≤ 256 → 0 < length members
    → All (λ u. u < length row) members
    → IsJoin (IsAmongMembers (λ u j. get_or row u No ≡ j) members)
    (join_of (least_in (paired larger_of (map negation_of (take (length row) mask)) row))
    (greatest_in (paired smaller_of (take (length row) mask) row)))
joined_masked members mask row h few some within = record {
  above = λ j (u, has, is).
      let lt : u < length row = below u has
      in subst (λ k. LiesUnder k (join_of (least_in highs) (greatest_in lows))) is
      (between (least_in highs) (get_or row u No) (greatest_in lows)
      (subst (IsAtMost (least_in highs)) (high-member u has) (least_at_most highs u (rw length-highs lt)))
      (subst (λ k. IsAtMost k (greatest_in lows)) (low-member u has) (at_most_greatest lows u (rw length-lows lt))));
  least = λ l each.
      join_least (least_in highs) (greatest_in lows) l (each (least_in highs) (bottom (least_at highs)))
      (each (greatest_in lows) (top (greatest_at lows)));
}
  where
    flags : List K3
    flags = take (length row) mask

    lows : List K3
    lows = paired smaller_of flags row

    highs : List K3
    highs = paired larger_of (map negation_of flags) row

    length-flags : length flags ≡ length row
    length-flags = length-take-le (length row) mask (rw h.long few)

    length-lows : length lows ≡ length row
    length-lows = length-paired smaller_of flags row length-flags ∙ length-flags

    length-negated : length (map negation_of flags) ≡ length row
    length-negated = length-map flags negation_of ∙ length-flags

    length-highs : length highs ≡ length row
    length-highs = length-paired larger_of (map negation_of flags) row length-negated ∙ length-negated

    below : (u : ℕ) → Contains members u → u < length row
    below u has = All-contains (λ x. x < length row) members u within has

    flag-is : (u : ℕ) → u < length row → get_or flags u No ≡ get_or mask u No
    flag-is u lt = get_or-take (length row) mask u No lt

    low-is : (u : ℕ) → u < length row → get_or lows u No ≡ smaller_of (get_or mask u No) (get_or row u No)
    low-is u lt =
        get_or-paired smaller_of flags row u (rw length-flags lt) lt ∙ ap (λ k. smaller_of k (get_or row u No)) (flag-is u lt)

    high-is : (u : ℕ) → u < length row → get_or highs u No ≡ larger_of (negation_of (get_or mask u No)) (get_or row u No)
    high-is u lt =
        get_or-paired larger_of (map negation_of flags) row u (rw length-negated lt) lt
        ∙ ap (λ k. larger_of k (get_or row u No))
        (get_or-map negation_of flags u No No (rw length-flags lt) ∙ ap negation_of (flag-is u lt))

    low-member : (u : ℕ) → Contains members u → get_or lows u No ≡ get_or row u No
    low-member u has = low-is u (below u has) ∙ ap (λ k. smaller_of k (get_or row u No)) ((h.members_of u).1 has)

    high-member : (u : ℕ) → Contains members u → get_or highs u No ≡ get_or row u No
    high-member u has =
        high-is u (below u has) ∙ ap (λ k. larger_of (negation_of k) (get_or row u No)) ((h.members_of u).1 has)

    first : ℕ
    first = get_or members 0 0

    has-first : Contains members first
    has-first = Contains-get_or members 0 0 some

    no-top : greatest_in lows ≡ No → (u : ℕ) × Contains members u × (get_or row u No ≡ greatest_in lows)
    no-top none = (
      first,
      has-first,
      none_above (get_or row first No)
          (subst (λ k. IsAtMost k No) (low-member first has-first)
          (subst (IsAtMost (get_or lows first No)) none (at_most_greatest lows first (rw length-lows (below first has-first)))))
          ∙ sym none,
    )

    top : (greatest_in lows ≡ No) ⊎ ((i : ℕ) × (i < length lows) × (get_or lows i No ≡ greatest_in lows))
        → (u : ℕ) × Contains members u × (get_or row u No ≡ greatest_in lows)
    top (inl none) = no-top none
    top (inr (i, lt, at)) =
        ⊎_elim
        (λ is_yes. let has : Contains members i = (h.members_of i).0 is_yes in (i, has, sym (low-member i has) ∙ at))
        (λ is_no.
        no-top (sym at ∙ low-is i (rw (← length-lows) lt) ∙ ap (λ k. smaller_of k (get_or row i No)) is_no))
        (yes_or_no (get_or mask i No) (h.flags i))

    no-bottom : least_in highs ≡ Yes → (u : ℕ) × Contains members u × (get_or row u No ≡ least_in highs)
    no-bottom none = (
      first,
      has-first,
      subst (λ k. IsAtMost k (get_or row first No)) none
          (subst (IsAtMost (least_in highs)) (high-member first has-first)
          (least_at_most highs first (rw length-highs (below first has-first))))
          ∙ sym none,
    )

    bottom : (least_in highs ≡ Yes) ⊎ ((i : ℕ) × (i < length highs) × (get_or highs i No ≡ least_in highs))
        → (u : ℕ) × Contains members u × (get_or row u No ≡ least_in highs)
    bottom (inl none) = no-bottom none
    bottom (inr (i, lt, at)) =
        ⊎_elim
        (λ is_yes. let has : Contains members i = (h.members_of i).0 is_yes in (i, has, sym (high-member i has) ∙ at))
        (λ is_no.
        no-bottom (sym at ∙ high-is i (rw (← length-highs) lt) ∙ ap (λ k. larger_of (negation_of k) (get_or row i No)) is_no))
        (yes_or_no (get_or mask i No) (h.flags i))
