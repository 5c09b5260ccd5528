-- Joins of values, one value after the other.
use Rattle.std.proofs.Common.{ℕ, ◌≡◌, ◌⊎◌, ◌<◌, ◌≤◌, ◌+◌, inl, inr, List, [], ◌∷◌, get_or, length, refl, sym}
use Rattle.std.proofs.Common.{subst, ◌∙◌, arith, add-one}
use Rattle.std.specs.Prelude.{Contains}
use Rattle.std.proofs.lemmas.Bool.{cases_lt}
use Rattle.std.proofs.lemmas.List.{get_or_default}
use Rattle.tv_kleene.specs.declared.K3.{K3}
use Rattle.tv_kleene.specs.Kleene.{LiesUnder, join_of}
use Rattle.tv_kleene.proofs.Lattice.{LiesUnder-trans, join-left, join-right, join_least}
use Rattle.tv_structure_form.specs.StructureForm.{StructureForm, value_at}
use Rattle.tv_blur.specs.Merged.{IsJoin}
use Rattle.tv_blur.specs.Classes.{IsAmongFirst, IsAmongMembers, IsValueAmong, IsMergedValue, class_at}
use Rattle.tv_blur.proofs.MergedLaws.{IsJoin-like}

-- ---- values one after the other

-- one value is its own join
pub join_own : (k : K3) → IsJoin (λ j. k ≡ j) k
join_own k = record { above = λ j e. inl (sym e); least = λ l each. each k refl }

pub join_first : (values : ℕ → K3 → Type 0) (k : K3) → IsJoin (values 0) k → IsJoin (IsAmongFirst values 1) k
join_first values k join =
    IsJoin-like (values 0) (IsAmongFirst values 1) k (λ j v. (0, omega arith, v))
    (λ j (i, lt, v). let P : ℕ → Type 0 = λ n. values n j in let first : i ≡ 0 = omega arith in subst P first v) join

pub join_next : (values : ℕ → K3 → Type 0) (n : ℕ) (k x : K3) → IsJoin (IsAmongFirst values n) k → IsJoin (values n) x
    → IsJoin (IsAmongFirst values (n + 1)) (join_of k x)
join_next values n k x join more = record {
  above = λ j (i, lt, v). above j i lt v (cases_lt i n);
  least = λ l each.
      join_least k x l (join.least l (λ j (i, lt, v). each j (i, omega arith, v)))
      (more.least l (λ j v. each j (n, omega arith, v)));
}
  where
    above : (j : K3) (i : ℕ) → i < n + 1 → values i j → (i < n) ⊎ (n ≤ i) → LiesUnder j (join_of k x)
    above j i lt v (inl before) = LiesUnder-trans j k (join_of k x) (join.above j (i, before, v)) (join-left k x)
    above j i lt v (inr after) =
        let P : ℕ → Type 0 = λ m. values m j
        in let last : i ≡ n = omega arith
        in LiesUnder-trans j x (join_of k x) (more.above j (subst P last v)) (join-right k x)

-- all members were joined
pub join_members : (values : ℕ → K3 → Type 0) (members : List ℕ) (k : K3)
    → IsJoin (IsAmongFirst (λ i. values (get_or members i 0)) (length members)) k → IsJoin (IsAmongMembers values members) k
join_members values members k join =
    IsJoin-like (IsAmongFirst (λ i. values (get_or members i 0)) (length members)) (IsAmongMembers values members) k
    (λ j (i, lt, v).
    let u : ℕ = get_or members i 0
    in (u, (i, lt, get_or_default members i u 0 lt), v))
    (λ j (u, (i, lt, at), v).
    let P : ℕ → Type 0 = λ w. values w j
    in (i, lt, subst P (sym (get_or_default members i 0 u lt ∙ at)) v))
    join

-- ---- merged values, by arity

pub merged_none : (classes : List (List ℕ)) (s : StructureForm) (pred : ℕ)
    → IsMergedValue classes s pred [] (value_at s pred [])
merged_none classes s pred = record {
  above = λ j v. above j v;
  least = λ l each. each (value_at s pred []) ([], tt, refl);
}
  where
    above : (j : K3) → IsValueAmong classes s pred [] j → LiesUnder j (value_at s pred [])
    above j ([], all, is) = inl (sym is)
    above j (u ∷ us, all, is) = absurd all

pub merged_one : (classes : List (List ℕ)) (s : StructureForm) (pred w : ℕ) (k : K3)
    → IsJoin (IsAmongMembers (λ u j. value_at s pred (u ∷ []) ≡ j) (class_at classes w)) k
    → IsMergedValue classes s pred (w ∷ []) k
merged_one classes s pred w k join =
    IsJoin-like (IsAmongMembers (λ u j. value_at s pred (u ∷ []) ≡ j) (class_at classes w)) (IsValueAmong classes s pred (w ∷ [])) k
    (λ j (u, has, is). (u ∷ [], (has, tt), is)) (λ j v. back j v) join
  where
    back : (j : K3) → IsValueAmong classes s pred (w ∷ []) j
        → IsAmongMembers (λ u j. value_at s pred (u ∷ []) ≡ j) (class_at classes w) j
    back j ([], all, is) = absurd all
    back j (u ∷ [], all, is) = (u, all.0, is)
    back j (u ∷ x ∷ more, all, is) = absurd all.1

pub merged_two : (classes : List (List ℕ)) (s : StructureForm) (pred w y : ℕ) (k : K3)
    → IsJoin (IsAmongMembers (λ x. IsAmongMembers (λ u j. value_at s pred (u ∷ x ∷ []) ≡ j) (class_at classes w)) (class_at classes y)) k
    → IsMergedValue classes s pred (w ∷ y ∷ []) k
merged_two classes s pred w y k join =
    IsJoin-like
    (IsAmongMembers (λ x. IsAmongMembers (λ u j. value_at s pred (u ∷ x ∷ []) ≡ j) (class_at classes w)) (class_at classes y))
    (IsValueAmong classes s pred (w ∷ y ∷ [])) k
    (λ j (x, other, (u, has, is)). (u ∷ x ∷ [], (has, (other, tt)), is)) (λ j v. back j v) join
  where
    back : (j : K3) → IsValueAmong classes s pred (w ∷ y ∷ []) j
        → IsAmongMembers (λ x. IsAmongMembers (λ u j. value_at s pred (u ∷ x ∷ []) ≡ j) (class_at classes w)) (class_at classes y) j
    back j ([], all, is) = absurd all
    back j (u ∷ [], all, is) = absurd all.1
    back j (u ∷ x ∷ [], all, is) = (x, all.1.0, (u, all.0, is))
    back j (u ∷ x ∷ z ∷ more, all, is) = absurd all.1.1

-- the join of joins is the join of all
pub join_joins : (values : ℕ → K3 → Type 0) (joins : ℕ → K3) (members : List ℕ) (k : K3)
    → ((v : ℕ) → Contains members v → IsJoin (values v) (joins v))
    → IsJoin (IsAmongMembers (λ v j. joins v ≡ j) members) k → IsJoin (IsAmongMembers values members) k
join_joins values joins members k each join = record {
  above = λ j (v, has, is).
      LiesUnder-trans j (joins v) k ((each v has).above j is) (join.above (joins v) (v, has, refl));
  least = λ l under.
      join.least l (λ j (v, has, is).
      let P : K3 → Type 0 = λ x. LiesUnder x l
      in subst P is ((each v has).least l (λ i w. under i (v, has, w))));
}

pub join_is : (v k : K3) → k ≡ v → IsJoin (λ j. v ≡ j) k
join_is v k e = let P : K3 → Type 0 = λ x. IsJoin (λ j. v ≡ j) x in subst P (sym e) (join_own v)

-- what stands behind the first
pub behind : (first : ℕ) (others : List ℕ) (i : ℕ) → get_or (first ∷ others) (i + 1) 0 ≡ get_or others i 0
behind first others i = rw add-one
