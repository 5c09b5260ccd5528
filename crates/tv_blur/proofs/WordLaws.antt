-- Joined values in one word, one row or one class after the other.
use Rattle.std.proofs.Common.{ℕ, ◌≡◌, ◌⊎◌, ◌<◌, ◌≤◌, ◌+◌, ◌*◌, ⊎_elim, inl, inr, List, [], ◌∷◌, get_or, set}
use Rattle.std.proofs.Common.{length}
use Rattle.std.proofs.Common.{replicate, sym, ap, subst, ◌∙◌, arith}
use Rattle.std.specs.Prelude.{Contains}
use Rattle.std.proofs.lemmas.Bool.{cases_lt}
use Rattle.std.proofs.lemmas.List.{get_or_default, get_or_past, length-set, get_or-set_same, get_or-set_other}
use Rattle.tv_kleene.specs.declared.K3.{K3}
use Rattle.tv_kleene.specs.declared.K3.TheVariants.{No}
use Rattle.tv_kleene.specs.Kleene.{join_of}
use Rattle.tv_row.specs.Bits.{padded, paired}
use Rattle.tv_row.proofs.RowOps.{no_place, no_word}
use Rattle.tv_row.proofs.WordOps.{length-paired, get_or-paired}
use Rattle.tv_structure_form.specs.StructureForm.{StructureForm, value_at}
use Rattle.tv_blur.specs.Merged.{IsJoin}
use Rattle.tv_blur.specs.Classes.{IsAmongFirst, IsAmongMembers, class_at}
use Rattle.tv_blur.proofs.MergedLaws.{IsJoin-like}
use Rattle.tv_blur.proofs.JoinLaws.{join_is, join_first, join_next, join_members}

-- joins of values that others are equal to at the members
pub same_joins : (row other : List K3) (members : List ℕ) (k : K3)
    → ((u : ℕ) → Contains members u → get_or row u No ≡ get_or other u No)
    → IsJoin (IsAmongMembers (λ u j. get_or row u No ≡ j) members) k
    → IsJoin (IsAmongMembers (λ u j. get_or other u No ≡ j) members) k
same_joins row other members k same join =
    IsJoin-like (IsAmongMembers (λ u j. get_or row u No ≡ j) members) (IsAmongMembers (λ u j. get_or other u No ≡ j) members) k
    (λ j (u, has, is). (u, has, sym (same u has) ∙ is))
    (λ j (u, has, is). (u, has, same u has ∙ is)) join

-- the join of values that are No
pub none_joins : (row : List K3) (members : List ℕ) → 0 < length members
    → ((u : ℕ) → Contains members u → get_or row u No ≡ No) → IsJoin (IsAmongMembers (λ u j. get_or row u No ≡ j) members) No
none_joins row members some none = record {
  above = λ j (u, has, is). inl (sym is ∙ none u has);
  least = λ l each. each No (first, has, none first has);
}
  where
    first : ℕ
    first = get_or members 0 0

    has : Contains members first
    has = (0, some, get_or_default members 0 first 0 some)

-- what was put into the first word
pub first_word : (old new word : List K3) → ((i : ℕ) → i < 64 → 64 * 0 + i < length old → get_or new (64 * 0 + i) No ≡ get_or word i No)
    → (u : ℕ) → u < 64 → u < length old → get_or new u No ≡ get_or word u No
first_word old new word values u low within =
    let P : ℕ → Type 0 = λ x. get_or new x No ≡ get_or word u No
    in subst P (omega arith) (values u low (omega (arith, within)))

-- ---- rows of members

-- what a word of the predicate's row at u holds
abbrev pub HoldsRowAt : (s : StructureForm) (pred u : ℕ) (word : List K3) → Type 0
HoldsRowAt s pred u word =
    (i : ℕ) → i < 64 → 64 * 0 + i < s.size → get_or word i No ≡ value_at s pred (u ∷ (64 * 0 + i) ∷ [])

-- the word has the joins of the rows of the first n members
pub record AreJoinedIn (s : StructureForm) (pred : ℕ) (members : List ℕ) (n : ℕ) (word : List K3) : Type 0 where
  pub long : length word ≡ 64
  pub joins : (v : ℕ) → v < s.size
      → IsJoin (IsAmongFirst (λ i j. value_at s pred (get_or members i 0 ∷ v ∷ []) ≡ j) n) (get_or word v No)

held : (s : StructureForm) (pred u : ℕ) (word : List K3) → s.size ≤ 64 → HoldsRowAt s pred u word → (v : ℕ) → v < s.size
    → get_or word v No ≡ value_at s pred (u ∷ v ∷ [])
held s pred u word few holds v lt =
    let P : ℕ → Type 0 = λ x. get_or word v No ≡ value_at s pred (u ∷ x ∷ [])
    in subst P (omega arith) (holds v (omega (arith, few, lt)) (omega (arith, lt)))

pub joined_in_start : (s : StructureForm) (pred : ℕ) (members : List ℕ) (u : ℕ) (word : List K3) → s.size ≤ 64
    → length word ≡ 64 → HoldsRowAt s pred u word → u ≡ get_or members 0 0 → AreJoinedIn s pred members 1 word
joined_in_start s pred members u word few long holds is = record {
  long = long;
  joins = λ v lt.
      join_first (λ i j. value_at s pred (get_or members i 0 ∷ v ∷ []) ≡ j) (get_or word v No)
      (join_is (value_at s pred (get_or members 0 0 ∷ v ∷ [])) (get_or word v No)
      (held s pred u word few holds v lt ∙ ap (λ x. value_at s pred (x ∷ v ∷ [])) is));
}

pub joined_in_step : (s : StructureForm) (pred : ℕ) (members : List ℕ) (n u : ℕ) (joined word next : List K3) → s.size ≤ 64
    → AreJoinedIn s pred members n joined → length word ≡ 64 → HoldsRowAt s pred u word → u ≡ get_or members n 0
    → next ≡ paired join_of joined word → AreJoinedIn s pred members (n + 1) next
joined_in_step s pred members n u joined word next few are long holds is next_is = record {
  long = ap length next_is ∙ length-paired join_of joined word (are.long ∙ sym long) ∙ are.long;
  joins = λ v lt.
      let P : K3 → Type 0
      = λ k. IsJoin (IsAmongFirst (λ i j. value_at s pred (get_or members i 0 ∷ v ∷ []) ≡ j) (n + 1)) k
      in let read : get_or next v No ≡ join_of (get_or joined v No) (get_or word v No)
      = ap (λ r. get_or r v No) next_is
      ∙ get_or-paired join_of joined word v (omega (arith, are.long, few, lt)) (omega (arith, long, few, lt))
      in subst P (sym read)
      (join_next (λ i j. value_at s pred (get_or members i 0 ∷ v ∷ []) ≡ j) n (get_or joined v No) (get_or word v No)
      (are.joins v lt)
      (join_is (value_at s pred (get_or members n 0 ∷ v ∷ [])) (get_or word v No)
      (held s pred u word few holds v lt ∙ ap (λ x. value_at s pred (x ∷ v ∷ [])) is)));
}

pub joined_in_end : (s : StructureForm) (pred : ℕ) (members : List ℕ) (n : ℕ) (word : List K3) → AreJoinedIn s pred members n word
    → n ≡ length members → (v : ℕ) → v < s.size
    → IsJoin (IsAmongMembers (λ u j. value_at s pred (u ∷ v ∷ []) ≡ j) members) (get_or word v No)
joined_in_end s pred members n word are all v lt =
    join_members (λ u j. value_at s pred (u ∷ v ∷ []) ≡ j) members (get_or word v No)
    (let P : ℕ → Type 0
    = λ m. IsJoin (IsAmongFirst (λ i j. value_at s pred (get_or members i 0 ∷ v ∷ []) ≡ j) m) (get_or word v No)
    in subst P all (are.joins v lt))

-- ---- classes

-- the first n values are the joins over the first n classes
pub record AreMergedIn (word : List K3) (classes : List (List ℕ)) (n : ℕ) (merged : List K3) : Type 0 where
  pub long : length merged ≡ 64
  pub joins : (x : ℕ) → x < n → IsJoin (IsAmongMembers (λ u j. get_or word u No ≡ j) (class_at classes x)) (get_or merged x No)
  pub rest : (x : ℕ) → n ≤ x → get_or merged x No ≡ No

pub merged_in_start : (word : List K3) (classes : List (List ℕ)) (merged : List K3) → merged ≡ padded 0 (replicate 64 No)
    → AreMergedIn word classes 0 merged
merged_in_start word classes merged is = record {
  long = ap length is ∙ no_word;
  joins = λ x lt. absurd (omega arith);
  rest = λ x past. ap (λ r. get_or r x No) is
      ∙ ⊎_elim (λ lt. no_place x lt) (λ end. get_or_past (padded 0 (replicate 64 No)) x No (rw no_word end)) (cases_lt x 64);
}

pub merged_in_step : (word : List K3) (classes : List (List ℕ)) (n : ℕ) (merged next : List K3) (k : K3)
    → AreMergedIn word classes n merged → n < 64 → next ≡ set merged n k
    → IsJoin (IsAmongMembers (λ u j. get_or word u No ≡ j) (class_at classes n)) k
    → AreMergedIn word classes (n + 1) next
merged_in_step word classes n merged next k are within is join = record {
  long = ap length is ∙ length-set merged n k ∙ are.long;
  joins = λ x lt. at x lt (cases_lt x n);
  rest = λ x past. ap (λ r. get_or r x No) is ∙ get_or-set_other merged n x k No (λ e. omega (arith, e, past))
      ∙ are.rest x (omega (arith, past));
}
  where
    at : (x : ℕ) → x < n + 1 → (x < n) ⊎ (n ≤ x)
        → IsJoin (IsAmongMembers (λ u j. get_or word u No ≡ j) (class_at classes x)) (get_or next x No)
    at x lt (inl before) =
        let P : K3 → Type 0 = λ j. IsJoin (IsAmongMembers (λ u j. get_or word u No ≡ j) (class_at classes x)) j
        in subst P (sym (ap (λ r. get_or r x No) is ∙ get_or-set_other merged n x k No (λ e. omega arith))) (are.joins x before)
    at x lt (inr after) =
        let last : n ≡ x = omega arith
        in let P : K3 → Type 0 = λ j. IsJoin (IsAmongMembers (λ u j. get_or word u No ≡ j) (class_at classes n)) j
        in let Q : ℕ → Type 0
        = λ y. IsJoin (IsAmongMembers (λ u j. get_or word u No ≡ j) (class_at classes y)) (get_or next y No)
        in subst Q last (subst P (sym (ap (λ r. get_or r n No) is ∙ get_or-set_same merged n k No (omega (arith, are.long)))) join)
