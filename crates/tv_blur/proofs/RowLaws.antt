-- Rows of joined values, one row or one class after the other.
use Rattle.std.proofs.Common.{ℕ, ⊎_elim, ◌≡◌, ◌≢◌, ◌⊎◌, ◌<◌, ◌≤◌, ◌+◌, inl, inr, List, [], ◌∷◌, get_or}
use Rattle.std.proofs.Common.{set, length, replicate, false, nat_lt, ltb-false, sym, ap, subst, ◌∙◌}
use Rattle.std.proofs.Common.{arith}
use Rattle.std.specs.Prelude.{Any, Contains}
use Rattle.std.proofs.lemmas.Bool.{cases_lt}
use Rattle.std.proofs.lemmas.List.{get_or_default, get_or_past, length-set, get_or-set_same, get_or-set_other}
use Rattle.std.proofs.lemmas.List.{set-get_or}
use Rattle.std.proofs.lemmas.List.{get_or-replicate, length-replicate}
use Rattle.tv_kleene.specs.declared.K3.{K3}
use Rattle.tv_kleene.specs.declared.K3.TheVariants.{No}
use Rattle.tv_kleene.specs.Kleene.{join_of}
use Rattle.tv_row.specs.Bits.{paired}
use Rattle.tv_row.proofs.WordOps.{length-paired, get_or-paired}
use Rattle.tv_structure_form.specs.StructureForm.{StructureForm, value_at}
use Rattle.tv_struct.specs.StructureRows.{row_at}
use Rattle.tv_struct.proofs.Library.{length-row_at, get_or-row_at}
use Rattle.tv_struct.proofs.NowhereLaws.{no_possible}
use Rattle.tv_blur.specs.Merged.{IsJoin}
use Rattle.tv_blur.specs.Classes.{IsAmongFirst, IsAmongMembers, class_at}
use Rattle.tv_blur.proofs.JoinLaws.{join_is, join_first, join_next, join_members}

-- the row has the joins of the rows of the first n members
pub record AreJoined (s : StructureForm) (pred : ℕ) (members : List ℕ) (n : ℕ) (row : List K3) : Type 0 where
  pub long : length row ≡ s.size
  pub joins : (v : ℕ) → v < s.size
      → IsJoin (IsAmongFirst (λ i j. value_at s pred (get_or members i 0 ∷ v ∷ []) ≡ j) n) (get_or row v No)

pub joined_start : (s : StructureForm) (pred : ℕ) (members : List ℕ) (row : List K3) → row ≡ row_at s pred (get_or members 0 0)
    → AreJoined s pred members 1 row
joined_start s pred members row is = record {
  long = ap length is ∙ length-row_at s pred (get_or members 0 0);
  joins = λ v lt.
      join_first (λ i j. value_at s pred (get_or members i 0 ∷ v ∷ []) ≡ j) (get_or row v No)
      (join_is (value_at s pred (get_or members 0 0 ∷ v ∷ [])) (get_or row v No)
      (ap (λ r. get_or r v No) is ∙ get_or-row_at s pred (get_or members 0 0) v lt));
}

pub joined_step : (s : StructureForm) (pred : ℕ) (members : List ℕ) (n : ℕ) (joined row next : List K3)
    → AreJoined s pred members n joined → row ≡ row_at s pred (get_or members n 0) → next ≡ paired join_of joined row
    → AreJoined s pred members (n + 1) next
joined_step s pred members n joined row next are is next_is = record {
  long = ap length next_is ∙ length-paired join_of joined row same ∙ are.long;
  joins = λ v lt. at v lt;
}
  where
    same : length joined ≡ length row
    same = are.long ∙ sym (ap length is ∙ length-row_at s pred (get_or members n 0))

    at : (v : ℕ) → v < s.size
        → IsJoin (IsAmongFirst (λ i j. value_at s pred (get_or members i 0 ∷ v ∷ []) ≡ j) (n + 1)) (get_or next v No)
    at v lt =
        let P : K3 → Type 0
        = λ k. IsJoin (IsAmongFirst (λ i j. value_at s pred (get_or members i 0 ∷ v ∷ []) ≡ j) (n + 1)) k
        in let read : get_or next v No ≡ join_of (get_or joined v No) (get_or row v No)
        = ap (λ r. get_or r v No) next_is
        ∙ get_or-paired join_of joined row v (omega (arith, are.long)) (omega (arith, are.long, same))
        in subst P (sym read)
        (join_next (λ i j. value_at s pred (get_or members i 0 ∷ v ∷ []) ≡ j) n (get_or joined v No) (get_or row v No)
        (are.joins v lt)
        (join_is (value_at s pred (get_or members n 0 ∷ v ∷ [])) (get_or row v No)
        (ap (λ r. get_or r v No) is ∙ get_or-row_at s pred (get_or members n 0) v lt)))

pub joined_end : (s : StructureForm) (pred : ℕ) (members : List ℕ) (n : ℕ) (row : List K3) → AreJoined s pred members n row
    → n ≡ length members → (v : ℕ) → v < s.size
    → IsJoin (IsAmongMembers (λ u j. value_at s pred (u ∷ v ∷ []) ≡ j) members) (get_or row v No)
joined_end s pred members n row are all v lt =
    join_members (λ u j. value_at s pred (u ∷ v ∷ []) ≡ j) members (get_or row v No)
    (let P : ℕ → Type 0
    = λ m. IsJoin (IsAmongFirst (λ i j. value_at s pred (get_or members i 0 ∷ v ∷ []) ≡ j) m) (get_or row v No)
    in subst P all (are.joins v lt))

-- the first n values are the joins over the first n classes
pub record AreMerged (row : List K3) (classes : List (List ℕ)) (n : ℕ) (merged : List K3) : Type 0 where
  pub long : length merged ≡ length classes
  pub joins : (x : ℕ) → x < n → IsJoin (IsAmongMembers (λ u j. get_or row u No ≡ j) (class_at classes x)) (get_or merged x No)
  pub rest : (x : ℕ) → n ≤ x → get_or merged x No ≡ No

pub merged_start : (row : List K3) (classes : List (List ℕ)) (merged : List K3) → merged ≡ replicate (length classes) No
    → AreMerged row classes 0 merged
merged_start row classes merged is = record {
  long = ap length is ∙ length-replicate (length classes) No;
  joins = λ x lt. absurd (omega arith);
  rest = λ x past. ap (λ r. get_or r x No) is
      ∙ ⊎_elim (λ lt. get_or-replicate (length classes) x No No lt)
      (λ end. get_or_past (replicate (length classes) No) x No (rw (length-replicate (length classes) No) end))
      (cases_lt x (length classes));
}

-- writing No where No stands changes nothing
pub put_none : (row : List K3) (w : ℕ) (k : K3) → k ≡ No → get_or row w No ≡ No → row ≡ set row w k
put_none row w k is blank = sym (ap (set row w) (is ∙ sym blank) ∙ set-get_or row w No)

pub merged_step : (row : List K3) (classes : List (List ℕ)) (n : ℕ) (merged next : List K3) (k : K3)
    → AreMerged row classes n merged → n < length classes → next ≡ set merged n k
    → IsJoin (IsAmongMembers (λ u j. get_or row u No ≡ j) (class_at classes n)) k
    → AreMerged row classes (n + 1) next
merged_step row classes n merged next k are within is join = record {
  long = ap length is ∙ length-set merged n k ∙ are.long;
  joins = λ x lt. at x lt (cases_lt x n);
  rest = λ x past. ap (λ r. get_or r x No) is ∙ get_or-set_other merged n x k No (λ e. omega (arith, e, past))
      ∙ are.rest x (omega (arith, past));
}
  where
    at : (x : ℕ) → x < n + 1 → (x < n) ⊎ (n ≤ x)
        → IsJoin (IsAmongMembers (λ u j. get_or row u No ≡ j) (class_at classes x)) (get_or next x No)
    at x lt (inl before) =
        let P : K3 → Type 0 = λ j. IsJoin (IsAmongMembers (λ u j. get_or row u No ≡ j) (class_at classes x)) j
        in subst P (sym (ap (λ r. get_or r x No) is ∙ get_or-set_other merged n x k No (λ e. omega arith))) (are.joins x before)
    at x lt (inr after) =
        let last : n ≡ x = omega arith
        in let P : K3 → Type 0 = λ j. IsJoin (IsAmongMembers (λ u j. get_or row u No ≡ j) (class_at classes n)) j
        in let Q : ℕ → Type 0
        = λ y. IsJoin (IsAmongMembers (λ u j. get_or row u No ≡ j) (class_at classes y)) (get_or next y No)
        in subst Q last (subst P (sym (ap (λ r. get_or r n No) is ∙ get_or-set_same merged n k No (omega (arith, are.long)))) join)

-- ---- one member

pub joined-one : (row : List K3) (members : List ℕ) (k : K3) → 0 < length members → nat_lt 1 (length members) ≡ false
    → k ≡ get_or row (get_or members 0 0) No → IsJoin (IsAmongMembers (λ u j. get_or row u No ≡ j) members) k
joined-one row members k some single is = record {
  above = λ j (u, has, at). inl (sym at ∙ ap (λ x. get_or row x No) (only u has) ∙ sym is);
  least = λ l each. each k (get_or members 0 0, (0, some, get_or_default members 0 (get_or members 0 0) 0 some), sym is);
}
  where
    only : (u : ℕ) → Contains members u → u ≡ get_or members 0 0
    only u (i, lt, at) =
        let first : 0 ≡ i = omega (arith, lt, ltb-false 1 (length members) single)
        in sym at ∙ ap (λ x. get_or members x u) (sym first) ∙ get_or_default members 0 u 0 some

-- ---- rows of No

-- the join of values that are No
pub joined-none : (row : List K3) (members : List ℕ) → ¬ Any (λ x. x ≢ No) row → 0 < length members
    → IsJoin (IsAmongMembers (λ u j. get_or row u No ≡ j) members) No
joined-none row members none some = record {
  above = λ j (u, has, is). inl (sym is ∙ no_possible row none u);
  least = λ l each.
      let first : ℕ = get_or members 0 0
      in each No (first, (0, some, get_or_default members 0 first 0 some), no_possible row none first);
}
