-- The listed vectors, sets and choices are those that are meant.
use Rattle.std.proofs.Common.{ℕ, ◌≡◌, ◌≢◌, ◌<◌, ◌≤◌, ◌+◌, ◌↔◌, zero, suc, Bool, true, false, cond, List, []}
use Rattle.std.proofs.Common.{◌∷◌, ◌++◌, ◌⊎◌, inl, inr, ⊎_elim, length, map, refl, sym, ap, subst, ◌∙◌, arith}
use Rattle.std.proofs.Common.{All, Contains}
use Rattle.std.specs.List.{flat_map, AllZip}
use Rattle.std.proofs.lemmas.Bool.{cases_eq}
use Rattle.std.proofs.lemmas.List.{nil_from_length}
use Rattle.std.proofs.lemmas.List.Elements.{Contains-append_left, Contains-append_right}
use Rattle.std.proofs.lemmas.List.Elements.{Contains-append_cases}
use Rattle.tv_kleene.specs.declared.K3.{K3}
use Rattle.tv_kleene.specs.declared.K3.TheVariants.{No, Half, Yes}
use Rattle.tv_embedding_laws.specs.LogicalStructure.{LogicalStructure}
use Rattle.tv_model.proofs.Lists.{Contains-here, Contains-there, Contains-none, Contains-cases, Contains-map}
use Rattle.tv_focus_laws.specs.Choices.{AimForm, aimed, definite, vectors, picks, picks_to, sets_of, product}
use Rattle.tv_focus_laws.specs.Choices.{choices}
use Rattle.tv_focus_laws.specs.Exact.{Sharpens, IsVector, IsSmaller, IsEarlier, AreInOrder, IsVectorSet}
use Rattle.tv_focus_laws.specs.Exact.{AreBefore, IsChoiceBefore, IsLexBefore, IsSetBefore}
use Rattle.tv_focus_laws.specs.Exact.{IsChoice, ListsAreExact}
use Rattle.tv_focus_laws.proofs.Membership.{ComesFrom, Contains-from_map, Contains-flat_map}
use Rattle.tv_focus_laws.proofs.Counts.{IsJoined, Contains-from_flat_map, picks-length, picks_to-length}
use Rattle.tv_focus_laws.proofs.Counts.{some-set}
use Rattle.tv_focus_laws.proofs.Listed.{definite-has, picks_to-has}
use Rattle.tv_focus_laws.proofs.Exact.{product-is, product-from}

-- ---- vectors

definite-from : (x k : K3) → Contains (definite k) x → Sharpens x k
definite-from x No at =
    let Is : K3 → Type 0 = λ y. Sharpens y No
    in ⊎_elim (λ e. subst Is e ((λ d. cc), inl refl)) (λ none. absurd (Contains-none x none)) (Contains-cases No x [] at)
definite-from x Half at =
    let Is : K3 → Type 0 = λ y. Sharpens y Half
    in ⊎_elim (λ e. subst Is e ((λ d. cc), inr refl))
    (λ later. ⊎_elim (λ e. subst Is e ((λ d. cc), inr refl)) (λ none. absurd (Contains-none x none)) (Contains-cases Yes x [] later))
    (Contains-cases No x (Yes ∷ []) at)
definite-from x Yes at =
    let Is : K3 → Type 0 = λ y. Sharpens y Yes
    in ⊎_elim (λ e. subst Is e ((λ d. cc), inl refl)) (λ none. absurd (Contains-none x none)) (Contains-cases Yes x [] at)

vectors-to : (ks v : List K3) → Contains (vectors ks) v → IsVector ks v
vectors-to [] v at =
    let Is : List K3 → Type 0 = λ w. IsVector [] w
    in ⊎_elim (λ e. subst Is e tt) (λ none. absurd (Contains-none v none)) (Contains-cases [] v [] at)
vectors-to (k ∷ ks) v at =
    let j : IsJoined (λ x. map (λ rest. x ∷ rest) (vectors ks)) (definite k) v
    = Contains-from_flat_map (λ x. map (λ rest. x ∷ rest) (vectors ks)) v (definite k) at
    in let c : ComesFrom (λ rest. j.source ∷ rest) (vectors ks) v = Contains-from_map (λ rest. j.source ∷ rest) v (vectors ks) j.has
    in let Is : List K3 → Type 0 = λ w. IsVector (k ∷ ks) w
    in subst Is c.goes (definite-from j.source k j.at, vectors-to ks c.source c.at)

vectors-from : (ks v : List K3) → IsVector ks v → Contains (vectors ks) v
vectors-from [] [] is = Contains-here [] []
vectors-from [] (x ∷ v) is = absurd is
vectors-from (k ∷ ks) [] is = absurd is
vectors-from (k ∷ ks) (x ∷ v) is =
    Contains-flat_map (λ y. map (λ rest. y ∷ rest) (vectors ks)) x (x ∷ v) (definite k) (definite-has x k is.0.0 is.0.1)
    (Contains-map (λ rest. x ∷ rest) v (vectors ks) (vectors-from ks v is.1))

-- ---- order

order-append : (vs ws : List (List K3)) → AreInOrder vs → AreInOrder ws
    → ((v w : List K3) → Contains vs v → Contains ws w → IsEarlier v w) → AreInOrder (vs ++ ws)
order-append [] ws a b between = b
order-append (v ∷ vs) ws a b between = (
  λ w at. ⊎_elim (λ here. a.0 w here) (λ there. between v w (Contains-here v vs) there) (Contains-append_cases vs ws w at),
  order-append vs ws a.1 b (λ x y hx hy. between x y (Contains-there v x vs hx) hy),
)

order-begun : (x : K3) (vs : List (List K3)) → AreInOrder vs → AreInOrder (map (λ rest. x ∷ rest) vs)
order-begun x [] a = tt
order-begun x (v ∷ vs) a = (
  λ w at. let c : ComesFrom (λ rest. x ∷ rest) vs w = Contains-from_map (λ rest. x ∷ rest) w vs at
      in let Is : List K3 → Type 0 = λ y. IsEarlier (x ∷ v) y
      in subst Is c.goes (inr (refl, a.0 c.source c.at)),
  order-begun x vs a.1,
)

order-definite : (vs : List (List K3)) → AreInOrder vs → (k : K3) → AreInOrder (flat_map (λ x. map (λ rest. x ∷ rest) vs) (definite k))
order-definite vs a k = go k
  where
    alone : (x : K3) → AreInOrder (map (λ rest. x ∷ rest) vs ++ [])
    alone x = order-append (map (λ rest. x ∷ rest) vs) [] (order-begun x vs a) tt (λ v w at none. absurd (Contains-none w none))

    between : (v w : List K3) → Contains (map (λ rest. No ∷ rest) vs) v → Contains (map (λ rest. Yes ∷ rest) vs ++ []) w → IsEarlier v w
    between v w hv hw =
        let c : ComesFrom (λ rest. No ∷ rest) vs v = Contains-from_map (λ rest. No ∷ rest) v vs hv
        in ⊎_elim
        (λ there. let d : ComesFrom (λ rest. Yes ∷ rest) vs w = Contains-from_map (λ rest. Yes ∷ rest) w vs there
        in let First : List K3 → Type 0 = λ y. IsEarlier y w
        in let Second : List K3 → Type 0 = λ y. IsEarlier (No ∷ c.source) y
        in subst First c.goes (subst Second d.goes (inl (refl, refl))))
        (λ none. absurd (Contains-none w none))
        (Contains-append_cases (map (λ rest. Yes ∷ rest) vs) [] w hw)

    go : (k : K3) → AreInOrder (flat_map (λ x. map (λ rest. x ∷ rest) vs) (definite k))
    go No = alone No
    go Half = order-append (map (λ rest. No ∷ rest) vs) (map (λ rest. Yes ∷ rest) vs ++ []) (order-begun No vs a) (alone Yes) between
    go Yes = alone Yes

vectors-order : (ks : List K3) → AreInOrder (vectors ks)
vectors-order [] = (λ w none. absurd (Contains-none w none), tt)
vectors-order (k ∷ ks) = order-definite (vectors ks) (vectors-order ks) k

earlier-not : (v : List K3) → IsEarlier v v → ⊥
earlier-not [] e = e
earlier-not (x ∷ xs) e = ⊎_elim (λ s. let a : x ≡ No = s.0 in let b : x ≡ Yes = s.1 in absurd (cc)) (λ t. earlier-not xs t.1) e

earlier-through : (u v w : List K3) → IsEarlier u v → IsEarlier v w → IsEarlier u w
earlier-through [] v w a b = absurd a
earlier-through (x ∷ xs) [] w a b = absurd a
earlier-through (x ∷ xs) (y ∷ ys) [] a b = absurd b
earlier-through (x ∷ xs) (y ∷ ys) (z ∷ zs) a b =
    ⊎_elim
    (λ s. ⊎_elim (λ t. let p : y ≡ Yes = s.1 in let q : y ≡ No = t.0 in absurd (cc)) (λ t. inl (s.0, sym t.0 ∙ s.1)) b)
    (λ s. ⊎_elim (λ t. inl (s.0 ∙ t.0, t.1)) (λ t. inr (s.0 ∙ t.0, earlier-through xs ys zs s.1 t.1)) b)
    a

-- ---- sublists

-- what is listed among the sublists is in order, and its vectors are among the vectors
picks-in : {X : Type 0} (n : ℕ) (xs ys : List X) → Contains (picks n xs) ys → (y : X) → Contains ys y → Contains xs y
picks-in {X} zero xs ys at y has =
    let In : List X → Type 0 = λ zs. Contains zs y → Contains xs y
    in ⊎_elim (λ e. subst In e (λ none. absurd (Contains-none y none)) has) (λ none. absurd (Contains-none ys none)) (Contains-cases [] ys [] at)
picks-in (suc n) [] ys at y has = absurd (Contains-none ys at)
picks-in {X} (suc n) (x ∷ xs) ys at y has =
    ⊎_elim
    (λ first. let c : ComesFrom (λ rest. x ∷ rest) (picks n xs) ys = Contains-from_map (λ rest. x ∷ rest) ys (picks n xs) first
    in let In : List X → Type 0 = λ zs. Contains zs y → Contains (x ∷ xs) y
    in let Here : X → Type 0 = λ z. Contains (x ∷ xs) z
    in subst In c.goes
    (λ it. ⊎_elim (λ e. subst Here e (Contains-here x xs)) (λ there. Contains-there x y xs (picks-in n xs c.source c.at y there))
    (Contains-cases x y c.source it)) has)
    (λ other. Contains-there x y xs (picks-in (suc n) xs ys other y has))
    (Contains-append_cases (map (λ rest. x ∷ rest) (picks n xs)) (picks (suc n) xs) ys at)

picks-order : (n : ℕ) (xs ys : List (List K3)) → AreInOrder xs → Contains (picks n xs) ys → AreInOrder ys
picks-order zero xs ys order at =
    let Is : List (List K3) → Type 0 = AreInOrder
    in ⊎_elim (λ e. subst Is e tt) (λ none. absurd (Contains-none ys none)) (Contains-cases [] ys [] at)
picks-order (suc n) [] ys order at = absurd (Contains-none ys at)
picks-order (suc n) (x ∷ xs) ys order at =
    ⊎_elim
    (λ first. let c : ComesFrom (λ rest. x ∷ rest) (picks n xs) ys = Contains-from_map (λ rest. x ∷ rest) ys (picks n xs) first
    in let Is : List (List K3) → Type 0 = AreInOrder
    in subst Is c.goes (λ w has. order.0 w (picks-in n xs c.source c.at w has), picks-order n xs c.source order.1 c.at))
    (λ other. picks-order (suc n) xs ys order.1 other)
    (Contains-append_cases (map (λ rest. x ∷ rest) (picks n xs)) (picks (suc n) xs) ys at)

-- a list in order whose elements are among those of another in order is one of its sublists
picks-from : (n : ℕ) (xs ys : List (List K3)) → AreInOrder xs → AreInOrder ys → ((v : List K3) → Contains ys v → Contains xs v)
    → length ys ≡ n → Contains (picks n xs) ys
picks-from zero xs [] order of in' long = Contains-here [] []
picks-from zero xs (y ∷ ys) order of in' long = absurd (omega (arith, long))
picks-from (suc n) xs [] order of in' long = absurd (omega (arith, long))
picks-from (suc n) [] (y ∷ ys) order of in' long = absurd (Contains-none y (in' y (Contains-here y ys)))
picks-from (suc n) (x ∷ xs) (y ∷ ys) order of in' long =
    let Later : List K3 → Type 0 = λ z. IsEarlier z z
    in ⊎_elim
    (λ e. let Begun : List K3 → Type 0 = λ z. Contains (map (λ rest. x ∷ rest) (picks n xs) ++ picks (suc n) xs) (z ∷ ys)
    in let First : List K3 → Type 0 = λ z. (w : List K3) → Contains ys w → IsEarlier z w
    in let after : (w : List K3) → Contains ys w → IsEarlier x w = subst First (sym e) of.0
    in subst Begun e
    (Contains-append_left (map (λ rest. x ∷ rest) (picks n xs)) (picks (suc n) xs) (x ∷ ys)
    (Contains-map (λ rest. x ∷ rest) ys (picks n xs)
    (picks-from n xs ys order.1 of.1
    (λ w has. ⊎_elim
    (λ same. let At : List K3 → Type 0 = λ z. IsEarlier x z in absurd (earlier-not x (subst At (sym same) (after w has))))
    (λ there. there)
    (Contains-cases x w xs (in' w (Contains-there y w ys has))))
    (omega (arith, long))))))
    (λ there. Contains-append_right (map (λ rest. x ∷ rest) (picks n xs)) (picks (suc n) xs) (y ∷ ys)
    (picks-from (suc n) xs (y ∷ ys) order.1 of
    (λ w has. ⊎_elim
    (λ same. let At : List K3 → Type 0 = λ z. IsEarlier x z
    in let before : IsEarlier x y = order.0 y there
    in let Of : List K3 → Type 0 = λ z. IsEarlier x z
    in ⊎_elim
    (λ head. absurd (earlier-not x (subst At (head ∙ sym same) before)))
    (λ tail. absurd (earlier-not x (subst Of (sym same) (earlier-through x y w before (of.0 w tail)))))
    (Contains-cases y w ys has))
    (λ later. later)
    (Contains-cases x w xs (in' w has)))
    long))
    (Contains-cases x y xs (in' y (Contains-here y ys)))

length-in-order : (xs ys : List (List K3)) → AreInOrder xs → AreInOrder ys → ((v : List K3) → Contains ys v → Contains xs v)
    → length ys ≤ length xs
length-in-order [] [] order of in' = omega arith
length-in-order [] (y ∷ ys) order of in' = absurd (Contains-none y (in' y (Contains-here y ys)))
length-in-order (x ∷ xs) ys order of in' =
    let at : Contains (picks (length ys) (x ∷ xs)) ys = picks-from (length ys) (x ∷ xs) ys order of in' refl
    in picks-fit (length ys) (x ∷ xs) ys at
  where
    picks-fit : {X : Type 0} (n : ℕ) (zs ws : List X) → Contains (picks n zs) ws → n ≤ length zs
    picks-fit zero zs ws at = omega arith
    picks-fit (suc n) [] ws at = absurd (Contains-none ws at)
    picks-fit (suc n) (z ∷ zs) ws at =
        ⊎_elim
        (λ first. let c : ComesFrom (λ rest. z ∷ rest) (picks n zs) ws = Contains-from_map (λ rest. z ∷ rest) ws (picks n zs) first
        in let le : n ≤ length zs = picks-fit n zs c.source c.at in omega arith)
        (λ other. let le : suc n ≤ length zs = picks-fit (suc n) zs ws other in omega arith)
        (Contains-append_cases (map (λ rest. z ∷ rest) (picks n zs)) (picks (suc n) zs) ws at)

-- ---- sets

picks_to-of : {X : Type 0} (m : ℕ) (xs ys : List X) → Contains (picks_to m xs) ys → Contains (picks (length ys) xs) ys
picks_to-of zero xs ys at = absurd (Contains-none ys at)
picks_to-of {X} (suc m) xs ys at =
    ⊎_elim
    (λ first. picks_to-of m xs ys first)
    (λ last. let At : ℕ → Type 0 = λ n. Contains (picks n xs) ys in subst At (sym (picks-length (suc m) xs ys last)) last)
    (Contains-append_cases (picks_to m xs) (picks (suc m) xs) ys at)

from-pick : (summary : Bool) (ks : List K3) (set : List (List K3)) (n : ℕ) → Contains (picks n (vectors ks)) set → 1 ≤ length set
    → (summary ≡ false → length set ≡ 1) → IsVectorSet summary ks set
from-pick summary ks set n at some one = record {
  some = some;
  one = one;
  vectors = λ v has. vectors-to ks v (picks-in n (vectors ks) set at v has);
  order = picks-order n (vectors ks) set (vectors-order ks) at;
}

sets-to : (summary : Bool) (ks : List K3) (set : List (List K3)) → Contains (sets_of summary ks) set → IsVectorSet summary ks set
sets-to false ks set at =
    from-pick false ks set 1 at (some-set false ks set at) (λ e. picks-length 1 (vectors ks) set at)
sets-to true ks set at =
    from-pick true ks set (length set) (picks_to-of (length (vectors ks)) (vectors ks) set at) (some-set true ks set at) (λ e. absurd (cc))

sets-from : (summary : Bool) (ks : List K3) (set : List (List K3)) → IsVectorSet summary ks set → Contains (sets_of summary ks) set
sets-from false ks set is =
    picks-from 1 (vectors ks) set (vectors-order ks) is.order (λ v has. vectors-from ks v (is.vectors v has)) (is.one refl)
sets-from true ks set is =
    picks_to-has (length set) (length (vectors ks)) (vectors ks) set is.some
    (length-in-order (vectors ks) set (vectors-order ks) is.order (λ v has. vectors-from ks v (is.vectors v has)))
    (picks-from (length set) (vectors ks) set (vectors-order ks) is.order (λ v has. vectors-from ks v (is.vectors v has)) refl)

-- ---- choices

zip-to : (all : ℕ → List (List (List K3))) (R : ℕ → List (List K3) → Type 0) → ((u : ℕ) (set : List (List K3)) → Contains (all u) set → R u set)
    → (us : List ℕ) (choice : List (List (List K3))) → AllZip Contains (map all us) choice → AllZip R us choice
zip-to all R each [] [] zip = tt
zip-to all R each [] (set ∷ choice) zip = absurd zip
zip-to all R each (u ∷ us) [] zip = absurd zip
zip-to all R each (u ∷ us) (set ∷ choice) zip = (each u set zip.0, zip-to all R each us choice zip.1)

zip-from : (all : ℕ → List (List (List K3))) (R : ℕ → List (List K3) → Type 0) → ((u : ℕ) (set : List (List K3)) → R u set → Contains (all u) set)
    → (us : List ℕ) (choice : List (List (List K3))) → AllZip R us choice → AllZip Contains (map all us) choice
zip-from all R each [] [] zip = tt
zip-from all R each [] (set ∷ choice) zip = absurd zip
zip-from all R each (u ∷ us) [] zip = absurd zip
zip-from all R each (u ∷ us) (set ∷ choice) zip = (each u set zip.0, zip-from all R each us choice zip.1)

choices-exact : (s : LogicalStructure) (pred : ℕ) (aim : AimForm) (choice : List (List (List K3)))
    → Contains (choices s pred aim) choice ↔ IsChoice s pred aim choice
choices-exact s pred aim choice =
    let ks : ℕ → List K3 = λ u. map (s.value pred) (aimed aim u)
    in let all : ℕ → List (List (List K3)) = λ u. sets_of (s.is_summary u) (ks u)
    in let R : ℕ → List (List K3) → Type 0 = λ u set. IsVectorSet (s.is_summary u) (ks u) set
    in (
      λ at. zip-to all R (λ u set has. sets-to (s.is_summary u) (ks u) set has) s.individuals choice (product-is (map all s.individuals) choice at),
      λ is. product-from (map all s.individuals) choice (zip-from all R (λ u set has. sets-from (s.is_summary u) (ks u) set has) s.individuals choice is),
    )

-- ---- orders of sets and of choices

module _ {X : Type 0} (R : X → X → Type 0) where
  before-append : (xs ys : List X) → AreBefore R xs → AreBefore R ys
      → ((x y : X) → Contains xs x → Contains ys y → R x y) → AreBefore R (xs ++ ys)
  before-append [] ys a b between = b
  before-append (x ∷ xs) ys a b between = (
    λ y at. ⊎_elim (λ here. a.0 y here) (λ there. between x y (Contains-here x xs) there) (Contains-append_cases xs ys y at),
    before-append xs ys a.1 b (λ u v hu hv. between u v (Contains-there x u xs hu) hv),
  )

  -- of another order that these elements are in, too
  before-weaker : (S : X → X → Type 0) (xs : List X) → AreBefore R xs
      → ((x y : X) → Contains xs x → Contains xs y → R x y → S x y) → AreBefore S xs
  before-weaker S [] a weaker = tt
  before-weaker S (x ∷ xs) a weaker = (
    λ y at. weaker x y (Contains-here x xs) (Contains-there x y xs at) (a.0 y at),
    before-weaker S xs a.1 (λ u v hu hv r. weaker u v (Contains-there x u xs hu) (Contains-there x v xs hv) r),
  )

module _ {X : Type 0} (R : X → X → Type 0) where
  lex-begun : (x : X) (ls : List (List X)) → AreBefore (IsLexBefore R) ls
      → AreBefore (IsLexBefore R) (map (λ rest. x ∷ rest) ls)
  lex-begun x [] a = tt
  lex-begun x (l ∷ ls) a = (
    λ w at. let c : ComesFrom (λ rest. x ∷ rest) ls w = Contains-from_map (λ rest. x ∷ rest) w ls at
        in let Is : List X → Type 0 = λ y. IsLexBefore R (x ∷ l) y
        in subst Is c.goes (inr (refl, a.0 c.source c.at)),
    lex-begun x ls a.1,
  )

  -- first elements in order, each in front of lists in order
  flat-before : (ls : List (List X)) → AreBefore (IsLexBefore R) ls → (xs : List X) → AreBefore R xs
      → AreBefore (IsLexBefore R) (flat_map (λ x. map (λ rest. x ∷ rest) ls) xs)
  flat-before ls a [] b = tt
  flat-before ls a (x ∷ xs) b =
      before-append (IsLexBefore R) (map (λ rest. x ∷ rest) ls) (flat_map (λ y. map (λ rest. y ∷ rest) ls) xs)
      (lex-begun x ls a) (flat-before ls a xs b.1) between
    where
      between : (v w : List X) → Contains (map (λ rest. x ∷ rest) ls) v
          → Contains (flat_map (λ y. map (λ rest. y ∷ rest) ls) xs) w → IsLexBefore R v w
      between v w hv hw =
          let c : ComesFrom (λ rest. x ∷ rest) ls v = Contains-from_map (λ rest. x ∷ rest) v ls hv
          in let j : IsJoined (λ y. map (λ rest. y ∷ rest) ls) xs w
          = Contains-from_flat_map (λ y. map (λ rest. y ∷ rest) ls) w xs hw
          in let d : ComesFrom (λ rest. j.source ∷ rest) ls w = Contains-from_map (λ rest. j.source ∷ rest) w ls j.has
          in let First : List X → Type 0 = λ l. IsLexBefore R l w
          in let Second : List X → Type 0 = λ l. IsLexBefore R (x ∷ c.source) l
          in subst First c.goes (subst Second d.goes (inl (b.0 j.source j.at)))

  picks-before : (n : ℕ) (xs : List X) → AreBefore R xs → AreBefore (IsLexBefore R) (picks n xs)
  picks-before zero xs a = (λ w none. absurd (Contains-none w none), tt)
  picks-before (suc n) [] a = tt
  picks-before (suc n) (x ∷ xs) a =
      before-append (IsLexBefore R) (map (λ rest. x ∷ rest) (picks n xs)) (picks (suc n) xs)
      (lex-begun x (picks n xs) (picks-before n xs a.1)) (picks-before (suc n) xs a.1) between
    where
      later : (v w : List X) → Contains (picks (suc n) xs) w → IsLexBefore R (x ∷ v) w
      later v [] at = absurd (omega (arith, picks-length (suc n) xs [] at))
      later v (y ∷ w) at = inl (a.0 y (picks-in (suc n) xs (y ∷ w) at y (Contains-here y w)))

      between : (v w : List X) → Contains (map (λ rest. x ∷ rest) (picks n xs)) v → Contains (picks (suc n) xs) w
          → IsLexBefore R v w
      between v w hv hw =
          let c : ComesFrom (λ rest. x ∷ rest) (picks n xs) v = Contains-from_map (λ rest. x ∷ rest) v (picks n xs) hv
          in let First : List X → Type 0 = λ l. IsLexBefore R l w
          in subst First c.goes (later c.source w hw)

same-length : (n : ℕ) (vs : List (List K3)) → AreInOrder vs → AreBefore IsSetBefore (picks n vs)
same-length n vs a =
    before-weaker (IsLexBefore IsEarlier) IsSetBefore (picks n vs) (picks-before IsEarlier n vs a)
    (λ x y hx hy lex. inr (picks-length n vs x hx ∙ sym (picks-length n vs y hy), lex))

picks_to-before : (n : ℕ) (vs : List (List K3)) → AreInOrder vs → AreBefore IsSetBefore (picks_to n vs)
picks_to-before zero vs a = tt
picks_to-before (suc n) vs a =
    before-append IsSetBefore (picks_to n vs) (picks (suc n) vs) (picks_to-before n vs a) (same-length (suc n) vs a)
    (λ x y hx hy. inl (omega (arith, picks_to-length n vs x hx, picks-length (suc n) vs y hy)))

sets-before : (summary : Bool) (ks : List K3) → AreBefore IsSetBefore (sets_of summary ks)
sets-before true ks = picks_to-before (length (vectors ks)) (vectors ks) (vectors-order ks)
sets-before false ks = same-length 1 (vectors ks) (vectors-order ks)

choices-before : (s : LogicalStructure) (pred : ℕ) (aim : AimForm) → AreBefore IsChoiceBefore (choices s pred aim)
choices-before s pred aim = go s.individuals
  where
    all : ℕ → List (List (List K3))
    all u = sets_of (s.is_summary u) (map (s.value pred) (aimed aim u))

    go : (us : List ℕ) → AreBefore IsChoiceBefore (product (map all us))
    go [] = (λ w none. absurd (Contains-none w none), tt)
    go (u ∷ us) =
        flat-before IsSetBefore (product (map all us)) (go us) (all u)
        (sets-before (s.is_summary u) (map (s.value pred) (aimed aim u)))

pub lists_are_exact : ListsAreExact
lists_are_exact = record {
  listed_vectors = λ ks v. (vectors-to ks v, vectors-from ks v);
  vector_order = vectors-order;
  listed_sets = λ summary ks set. (sets-to summary ks set, sets-from summary ks set);
  set_order = sets-before;
  listed_choices = choices-exact;
  choice_order = choices-before;
}
