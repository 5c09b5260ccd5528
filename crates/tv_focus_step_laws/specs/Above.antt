-- Structures that lie above whatever stable structure lies below a choice of a focus atom: what a walk knows
-- before the choice is made.
use Rattle.std.specs.Prelude.{ℕ, ◌≡◌, ◌≢◌, ◌<◌, ◌≤◌, ◌+◌, ◌-◌, List, [], ◌∷◌, ◌++◌, length, map, sum, take}
use Rattle.std.specs.Prelude.{replicate, false, IsTrue, Some, All, Any, Contains, slice_get, slice_index_or}
use Rattle.std.specs.List.{AllByRecursion}
use Rattle.std.specs.Option.{option_map}
use Rattle.tv_kleene.specs.declared.K3.{K3}
use Rattle.tv_kleene.specs.declared.K3.TheVariants.{No, Half}
use Rattle.tv_model.specs.Program.{RuleForm}
use Rattle.tv_kleene.specs.Kleene.{LiesUnder}
use Rattle.tv_embedding_laws.specs.LogicalStructure.{LogicalStructure}
use Rattle.tv_embedding_laws.specs.Embedding.{Embeds, IsBelow}
use Rattle.tv_stable_laws.specs.Laws.{IsPlainRule}
use Rattle.tv_stable_laws.specs.Stable.{IsStable, IsGreatestStable, HasNoStable}
use Rattle.tv_structure_form.specs.TableForm.{HasEntry}
use Rattle.tv_structure_form.specs.StructureForm.{StructureForm, IsStructure, arities_of, structure_of}
use Rattle.tv_structure_form.specs.StructureForm.{value_at}
use Rattle.tv_structure_form.specs.StructureForm.{split, summary_at, table_of}
use Rattle.tv_focus_laws.specs.Choices.{ChoiceForm, AimForm, Alone, Before, Behind, VectorSet, members}
use Rattle.tv_focus_laws.specs.Choices.{member_at, choices}
use Rattle.tv_focus_laws.specs.Laws.{AreAnchors}
use Rattle.tv_focus_laws.specs.Written.{WriteForm, vector_writes, written, chosen_table, places_of, AreApart}

-- the predicate has the aim's places, and the anchors are individuals, each once, and no summaries
pub record IsAim (s : StructureForm) (pred : ℕ) (aim : AimForm) : Type 0 where
  pub is : IsStructure s
  pub arity : slice_get (arities_of s) pred ≡ Some (places_of aim)
  pub anchors : AreAnchors (structure_of s) aim
  pub apart : AreApart aim

-- one of the choices, of at most 256 copies
pub record IsSmallChoice (s : StructureForm) (pred : ℕ) (aim : AimForm) (choice : ChoiceForm) : Type 0 where
  pub listed : Contains (choices (structure_of s) pred aim) choice
  pub few : length (members (structure_of s).individuals choice) ≤ 256

-- the choice begins with these sets
abbrev pub IsBegun : (begun choice : ChoiceForm) → Type 0
IsBegun begun choice = (tail : ChoiceForm) × (choice ≡ begun ++ tail)

-- how many copies the sets make
abbrev pub copies_so_far : (begun : ChoiceForm) → ℕ
copies_so_far begun = sum (map length begun)

-- a structure over the copies that these sets make of the first individuals of s, and the others of s, with
-- the predicates of s
pub record IsSplitSoFar (s : StructureForm) (begun : ChoiceForm) (c : StructureForm) : Type 0 where
  pub is : IsStructure c
  pub size : c.size ≡ copies_so_far begun + (s.size - length begun)
  pub over : arities_of c ≡ arities_of s

-- the individual of which the i-th of a choice is a copy
abbrev pub origin_in : StructureForm → ChoiceForm → ℕ → ℕ
origin_in s choice i = (member_at (members (structure_of s).individuals choice) i).origin

-- where the i-th of a choice stands there: in its own place where it is a copy of one of the first
-- individuals, and else in that of its individual
abbrev pub place_in : StructureForm → (choice begun : ChoiceForm) → ℕ → ℕ
place_in s choice begun i = (i - (i - copies_so_far begun)) + (origin_in s choice i - length begun)

-- where the first copy of an individual stands there
abbrev pub anchor_place : (begun : ChoiceForm) → ℕ → ℕ
anchor_place begun a = sum (take a (map length begun)) + (a - length begun)

abbrev pub aim_after : (begun : ChoiceForm) → AimForm → AimForm
aim_after begun Alone = Alone
aim_after begun (Before anchors) = Before (map (anchor_place begun) anchors)
aim_after begun (Behind anchors) = Behind (map (anchor_place begun) anchors)

-- each stable structure below that of the choice embeds in c, its copies going to their places
abbrev pub LiesAbove : List RuleForm → (s : StructureForm) → (pred : ℕ) → AimForm
    → (choice begun : ChoiceForm)
    → (c : StructureForm) → Type 0
LiesAbove rules s pred aim choice begun c =
    (u : LogicalStructure) → IsBelow u (structure_of (chosen_table s pred aim choice)) → IsStable rules u
    → Embeds (place_in s choice begun) u (structure_of c)

-- the values of c, and its summaries, lie under those of s at the copies' individuals, and its mark is that
-- of s
pub record LiesUnderAll (s : StructureForm) (choice begun : ChoiceForm) (c : StructureForm) : Type 0 where
  pub values : (q : ℕ) (tuple : List ℕ)
      → All (λ i. i < length (members (structure_of s).individuals choice)) tuple
      → LiesUnder (value_at c q (map (place_in s choice begun) tuple))
      (value_at s q (map (origin_in s choice) tuple))
  pub summaries : (i : ℕ) → i < length (members (structure_of s).individuals choice)
      → IsTrue (summary_at c (place_in s choice begun i)) → IsTrue (summary_at s (origin_in s choice i))
  pub mark : c.fresh ≡ option_map (anchor_place begun) s.fresh

-- c leads to the choice: each stable structure below that of the choice embeds in it, and it has no other
-- values than s leaves it
pub record LeadsTo (rules : List RuleForm) (s : StructureForm) (pred : ℕ) (aim : AimForm)
    (choice begun : ChoiceForm) (c : StructureForm) : Type 0 where
  pub above : LiesAbove rules s pred aim choice begun c
  pub under : LiesUnderAll s choice begun c

-- no stable structure lies below that of the choice
abbrev pub HasNoStableChoice : List RuleForm → (s : StructureForm) → (pred : ℕ) → AimForm → ChoiceForm
    → Type 0
HasNoStableChoice rules s pred aim choice = HasNoStable rules (structure_of (chosen_table s pred aim choice))

-- the values of a vector, put at the tuples of the individual u
abbrev pub writes_at : AimForm → (u : ℕ) → List K3 → List WriteForm
writes_at Alone u vector = record { tuple = u ∷ []; value = slice_index_or vector 0 No } ∷ []
writes_at (Before anchors) u vector = vector_writes (λ a. u ∷ a ∷ []) anchors vector
writes_at (Behind anchors) u vector = vector_writes (λ a. a ∷ u ∷ []) anchors vector

-- the structure has the other definite value there
pub record IsOther (c : StructureForm) (pred : ℕ) (w : WriteForm) : Type 0 where
  pub known : value_at c pred w.tuple ≢ Half
  pub definite : w.value ≢ Half
  pub other : value_at c pred w.tuple ≢ w.value

-- a structure leads to each of its choices
abbrev pub StructuresLead : Type 0
StructuresLead =
    (rules : List RuleForm) (s : StructureForm) (pred : ℕ) (aim : AimForm) (choice : ChoiceForm)
    → IsAim s pred aim → IsSmallChoice s pred aim choice → LeadsTo rules s pred aim choice [] s

-- where the next individual is given one vector, what led to a choice does so still
abbrev pub SinglesLead : Type 0
SinglesLead =
    (rules : List RuleForm) (s : StructureForm) (pred : ℕ) (aim : AimForm) (choice begun : ChoiceForm)
    (set : VectorSet) (c : StructureForm) → IsAim s pred aim → IsSmallChoice s pred aim choice
    → IsBegun (begun ++ set ∷ []) choice → length set ≡ 1 → LeadsTo rules s pred aim choice begun c
    → LeadsTo rules s pred aim choice (begun ++ set ∷ []) c

-- each individual once, but the one of the number `at`, which stands so often, and so many behind it
abbrev pub parts_at : (at count behind : ℕ) → List ℕ
parts_at at count behind = replicate at 1 ++ count ∷ replicate behind 1

-- where the next individual is given a set, what led to a choice does so once it is split into a copy a
-- vector
abbrev pub SplitsLead : Type 0
SplitsLead =
    (rules : List RuleForm) (s : StructureForm) (pred : ℕ) (aim : AimForm) (choice begun : ChoiceForm)
    (set : VectorSet) (c : StructureForm) (behind : ℕ) → IsAim s pred aim → IsSmallChoice s pred aim choice
    → IsBegun (begun ++ set ∷ []) choice → IsStructure c → length begun + (behind + 1) ≡ s.size
    → LeadsTo rules s pred aim choice begun c
    → LeadsTo rules s pred aim choice (begun ++ set ∷ [])
    (split c (parts_at (copies_so_far begun) (length set) behind))

-- the value is put for one of the vectors of a set, the copy of the first of which is that of the number `at`
abbrev pub IsOfVector : AimForm → (at : ℕ) → VectorSet → WriteForm → Type 0
IsOfVector aim at set w =
    (t : ℕ) × (t < length set) × Contains (writes_at aim (at + t) (slice_index_or set t [])) w

-- what leads to a choice does so too once it has values of the vectors of the last set
abbrev pub VectorsLead : Type 0
VectorsLead =
    (rules : List RuleForm) (s : StructureForm) (pred : ℕ) (aim : AimForm) (choice begun : ChoiceForm)
    (set : VectorSet) (c : StructureForm) (writes : List WriteForm) → IsAim s pred aim
    → IsSmallChoice s pred aim choice → IsBegun (begun ++ set ∷ []) choice → IsStructure c
    → All (λ (w : WriteForm). HasEntry (table_of c) pred w.tuple) writes
    → All (IsOfVector (aim_after (begun ++ set ∷ []) aim) (copies_so_far begun) set) writes
    → LeadsTo rules s pred aim choice (begun ++ set ∷ []) c
    → LeadsTo rules s pred aim choice (begun ++ set ∷ []) (written c pred writes)

-- where it has another definite value than a vector that the next individual is given, the choice has no
-- stable structure
abbrev pub VectorsRefute : Type 0
VectorsRefute =
    (rules : List RuleForm) (s : StructureForm) (pred : ℕ) (aim : AimForm) (choice begun : ChoiceForm)
    (set : VectorSet) (c : StructureForm) (vector : List K3) → IsAim s pred aim
    → IsSmallChoice s pred aim choice
    → IsBegun (begun ++ set ∷ []) choice → Contains set vector
    → Any (IsOther c pred) (writes_at (aim_after begun aim) (copies_so_far begun) vector)
    → LeadsTo rules s pred aim choice begun c
    → HasNoStableChoice rules s pred aim choice

-- nor has it one where the next individual is given several vectors, and is no summary there
abbrev pub OrdinariesRefute : Type 0
OrdinariesRefute =
    (rules : List RuleForm) (s : StructureForm) (pred : ℕ) (aim : AimForm) (choice begun : ChoiceForm)
    (set : VectorSet) (c : StructureForm) → IsAim s pred aim → IsSmallChoice s pred aim choice
    → IsBegun (begun ++ set ∷ []) choice → 1 < length set
    → summary_at c (copies_so_far begun) ≡ false → LeadsTo rules s pred aim choice begun c
    → HasNoStableChoice rules s pred aim choice

-- the greatest stable structure below what leads to a choice does so too, with the same mark; where there is
-- none, the choice has none
pub record SharpensOn (rules : List RuleForm) (s : StructureForm) (pred : ℕ) (aim : AimForm)
    (choice begun : ChoiceForm) (c : StructureForm) : Type 0 where
  pub kept : (d : StructureForm) → IsGreatestStable rules (structure_of c) (structure_of d)
      → d.fresh ≡ c.fresh → LeadsTo rules s pred aim choice begun d
  pub none : HasNoStable rules (structure_of c) → HasNoStableChoice rules s pred aim choice

abbrev pub SharpenedLead : Type 0
SharpenedLead =
    (rules : List RuleForm) (s : StructureForm) (pred : ℕ) (aim : AimForm) (choice begun : ChoiceForm)
    (c : StructureForm) → All IsPlainRule rules → IsAim s pred aim → IsSmallChoice s pred aim choice
    → IsBegun begun choice → IsSplitSoFar s begun c
    → LeadsTo rules s pred aim choice begun c → SharpensOn rules s pred aim choice begun c

-- the values that are put are the structure's
abbrev pub HasValues : (c : StructureForm) → (pred : ℕ) → List WriteForm → Type 0
HasValues c pred writes = AllByRecursion (λ (w : WriteForm). value_at c pred w.tuple ≡ w.value) writes

-- the copies from the number `at` on have these vectors
abbrev pub HasVectors : (c : StructureForm) → (pred : ℕ) → AimForm → (at : ℕ) → VectorSet → Type 0
HasVectors c pred aim at [] = Unit {0}
HasVectors c pred aim at (vector ∷ set) =
    HasValues c pred (writes_at aim at vector) × HasVectors c pred aim (at + 1) set

-- and those of these sets
abbrev pub HasChoice : (c : StructureForm) → (pred : ℕ) → AimForm → (at : ℕ) → ChoiceForm → Type 0
HasChoice c pred aim at [] = Unit {0}
HasChoice c pred aim at (set ∷ choice) =
    HasVectors c pred aim at set × HasChoice c pred aim (at + length set) choice

-- what coerce makes of c, it makes of the choice, with the same mark
pub record CoercesAlike (rules : List RuleForm) (s : StructureForm) (pred : ℕ) (aim : AimForm)
    (choice : ChoiceForm) (c : StructureForm) : Type 0 where
  pub mark : c.fresh ≡ (chosen_table s pred aim choice).fresh
  pub kept : (d : StructureForm) → IsGreatestStable rules (structure_of c) (structure_of d)
      → IsGreatestStable rules (structure_of (chosen_table s pred aim choice)) (structure_of d)
  pub none : HasNoStable rules (structure_of c) → HasNoStableChoice rules s pred aim choice

-- so it is where all sets are given, and c leads to the choice, and has its vectors
abbrev pub WholeCoerceAlike : Type 0
WholeCoerceAlike =
    (rules : List RuleForm) (s : StructureForm) (pred : ℕ) (aim : AimForm) (choice : ChoiceForm)
    (c : StructureForm) → All IsPlainRule rules → IsAim s pred aim → IsSmallChoice s pred aim choice
    → IsSplitSoFar s choice c → LeadsTo rules s pred aim choice choice c
    → HasChoice c pred (aim_after choice aim) 0 choice → CoercesAlike rules s pred aim choice c
