-- Laws of stable structures, as statements.
use Rattle.std.specs.Prelude.{ℕ, ◌≡◌, ◌≢◌, ◌↔◌, ◌≤◌, false, ◌||◌, List, length, map, All, Contains}
use Rattle.tv_kleene.specs.declared.K3.{K3}
use Rattle.tv_kleene.specs.declared.K3.TheVariants.{Half}
use Rattle.tv_kleene.specs.Kleene.{join_of}
use Rattle.tv_model.specs.Heap.{Heap}
use Rattle.tv_model.specs.Program.{HeadForm, HNever, HAtom, HSame, RuleForm}
use Rattle.tv_model.specs.Rules.{MeetsRule}
use Rattle.tv_model.specs.Valid.{NamesNew}
use Rattle.tv_embedding_laws.specs.LogicalStructure.{LogicalStructure, heap_structure}
use Rattle.tv_embedding_laws.specs.Embedding.{Embeds, KeepsMark, EmbedsWithMarks, IsBelow}
use Rattle.tv_stable_laws.specs.Stable.{IsStable, IsGreatestStable, HasNoStable}

-- t is the image of s under m: s embeds in it, a value in t is definite where all values that are taken
-- to it are the same definite one, and an individual of t is no summary where it comes from one alone,
-- which isn't one
pub record IsImage (m : ℕ → ℕ) (s t : LogicalStructure) : Type 0 where
  pub embeds : Embeds m s t
  pub definite : (pred : ℕ) (tuple : List ℕ) → All (Contains t.individuals) tuple → (k : K3) → k ≢ Half
      → ((below : List ℕ) → All (Contains s.individuals) below → map m below ≡ tuple → s.value pred below ≡ k)
      → t.value pred tuple ≡ k
  pub plain : (w : ℕ) → Contains t.individuals w
      → ((u : ℕ) → Contains s.individuals u → m u ≡ w → s.is_summary u ≡ false)
      → ((u x : ℕ) → Contains s.individuals u → Contains s.individuals x → m u ≡ w → m x ≡ w → u ≡ x)
      → t.is_summary w ≡ false

-- the head has at most two places
abbrev pub IsShort : HeadForm → Type 0
IsShort HNever = Unit {0}
IsShort (HAtom flag pred vars) = length vars ≤ 2
IsShort (HSame flag v w) = Unit {0}

-- the rule has a head of at most two places, and doesn't speak of a fresh individual
pub record IsPlainRule (rule : RuleForm) : Type 0 where
  pub short : IsShort rule.head
  pub unmarked : ¬ NamesNew rule.body

-- the image of a stable structure is stable
abbrev pub ImagesAreStable : Type 0
ImagesAreStable =
    (m : ℕ → ℕ) (s t : LogicalStructure) (rules : List RuleForm) → IsImage m s t → All IsPlainRule rules
    → IsStable rules s → IsStable rules t

-- the structure is stable and lies below t, has its mark, and m embeds s in it
pub record IsStableBetween (m : ℕ → ℕ) (s t : LogicalStructure) (rules : List RuleForm) (r : LogicalStructure)
    : Type 0 where
  pub embeds : Embeds m s r
  pub below : IsBelow r t
  pub mark : r.fresh ≡ t.fresh
  pub stable : IsStable rules r

-- where m embeds a stable structure in t, it embeds it in a stable structure below t; so the greatest
-- stable structure below t loses none of them
abbrev pub StableStructuresStay : Type 0
StableStructuresStay =
    (m : ℕ → ℕ) (s t : LogicalStructure) (rules : List RuleForm) → Embeds m s t → All IsPlainRule rules
    → IsStable rules s
    → (r : LogicalStructure) × IsStableBetween m s t rules r

-- a stable structure that embeds in t embeds in the greatest stable structure below t, with marks too
-- where that keeps the mark; and none embeds in t where no stable structure lies below it
pub record SharpeningLosesNone (m : ℕ → ℕ) (s t : LogicalStructure) (rules : List RuleForm) : Type 0 where
  pub kept : (r : LogicalStructure) → IsGreatestStable rules t r → Embeds m s r
  pub kept_with_marks : (r : LogicalStructure) → IsGreatestStable rules t r → KeepsMark m s t
      → r.fresh ≡ t.fresh
      → EmbedsWithMarks m s r
  pub some : ¬ HasNoStable rules t

abbrev pub SharpeningLosesNoStable : Type 0
SharpeningLosesNoStable =
    (m : ℕ → ℕ) (s t : LogicalStructure) (rules : List RuleForm) → Embeds m s t → All IsPlainRule rules
    → IsStable rules s
    → SharpeningLosesNone m s t rules

-- the same of a heap that meets the rules
abbrev pub SharpeningLosesNoHeap : Type 0
SharpeningLosesNoHeap =
    (m : ℕ → ℕ) (h : Heap) (t : LogicalStructure) (rules : List RuleForm) → Embeds m (heap_structure h) t
    → All IsPlainRule rules → All (MeetsRule h) rules → SharpeningLosesNone m (heap_structure h) t rules

-- the join of two structures over the same individuals, value by value
abbrev pub joined : LogicalStructure → LogicalStructure → LogicalStructure
joined s t = record {
  individuals = s.individuals;
  value = λ pred tuple. join_of (s.value pred tuple) (t.value pred tuple);
  is_summary = λ u. s.is_summary u || t.is_summary u;
  fresh = s.fresh;
}

-- the join of two stable structures is stable
abbrev pub JoinsAreStable : Type 0
JoinsAreStable =
    (s t : LogicalStructure) (rules : List RuleForm) → s.individuals ≡ t.individuals → All IsPlainRule rules
    → IsStable rules s → IsStable rules t → IsStable rules (joined s t)

-- a heap read as a structure is stable exactly where it meets the rules
abbrev pub StableHeapsMeetRules : Type 0
StableHeapsMeetRules =
    (h : Heap) (rules : List RuleForm) → IsStable rules (heap_structure h) ↔ All (MeetsRule h) rules
