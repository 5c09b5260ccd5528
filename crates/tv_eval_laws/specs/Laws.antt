-- Laws of values, as statements.
use Rattle.std.specs.Prelude.{ℕ, ◌≡◌, ◌⊎◌, ◌↔◌, List, map, Some, All, Contains}
use Rattle.tv_kleene.specs.declared.K3.{K3}
use Rattle.tv_kleene.specs.declared.K3.TheVariants.{No, Yes}
use Rattle.tv_kleene.specs.Kleene.{IsAtMost, LiesUnder}
use Rattle.tv_model.specs.Form.{Form, FClosure, IsFree, Mentions}
use Rattle.tv_model.specs.Heap.{Heap}
use Rattle.tv_model.specs.Truth.{Assignment, Truth, put}
use Rattle.tv_model.specs.Valid.{NamesNew}
use Rattle.tv_embedding_laws.specs.LogicalStructure.{LogicalStructure, heap_structure}
use Rattle.tv_embedding_laws.specs.Embedding.{EmbedsOn, KeepsMark, IsBelow}
use Rattle.tv_eval_laws.specs.Value.{value, least_along}

-- x is the greatest, over all walks from u to w through the individuals, of the least value of an edge
pub record IsGreatestOverWalks (edge : ℕ → ℕ → K3) (individuals : List ℕ) (u w : ℕ) (x : K3) : Type 0 where
  pub above : (stops : List ℕ) → All (Contains individuals) stops → IsAtMost (least_along edge u stops w) x
  pub reached : (stops : List ℕ) × All (Contains individuals) stops × (least_along edge u stops w ≡ x)

-- the value of a closure is the greatest, over all walks of at least one edge, of the least value of an
-- edge
abbrev pub ClosuresAreGreatest : Type 0
ClosuresAreGreatest =
    (s : LogicalStructure) (a : Assignment) (from to left right : ℕ) (f : Form)
    → IsGreatestOverWalks (λ u w. value s (put (put a left u) right w) f) s.individuals (a from) (a to)
    (value s a (FClosure from to left right f))

-- the free variables of the formula stand for individuals of s under a, and for their images under b
abbrev pub TakesAlong : (ℕ → ℕ) → LogicalStructure → Form → Assignment → Assignment → Type 0
TakesAlong m s f a b = (v : ℕ) → IsFree v f → Contains s.individuals (a v) × (m (a v) ≡ b v)

-- the map m embeds s in t as far as the formula sees: on the predicates that it mentions, and with
-- marks where it speaks of the fresh individual
pub record EmbedsFor (f : Form) (m : ℕ → ℕ) (s t : LogicalStructure) : Type 0 where
  pub mentioned : EmbedsOn (λ pred. Mentions pred f) m s t
  pub marks : NamesNew f → KeepsMark m s t

-- the embedding theorem: where s embeds in t, the value in s lies under the value in t (Sagiv, Reps and
-- Wilhelm 2002, theorem 4.9)
abbrev pub EmbeddingTheorem : Type 0
EmbeddingTheorem =
    (f : Form) (m : ℕ → ℕ) (s t : LogicalStructure) (a b : Assignment) → EmbedsFor f m s t
    → TakesAlong m s f a b
    → LiesUnder (value s a f) (value t b f)

-- where y is definite, x is the same
pub record ComesDown (x y : K3) : Type 0 where
  pub yes : y ≡ Yes → x ≡ Yes
  pub no : y ≡ No → x ≡ No

-- where s embeds in t, each definite value in t is the value in s, under every assignment that the map
-- takes along
abbrev pub DefiniteValuesComeDown : Type 0
DefiniteValuesComeDown =
    (f : Form) (m : ℕ → ℕ) (s t : LogicalStructure) (a b : Assignment) → EmbedsFor f m s t
    → TakesAlong m s f a b
    → ComesDown (value s a f) (value t b f)

-- the map r renames individuals of s to those of t as far as the formula sees
pub record Renames (f : Form) (r : ℕ → ℕ) (s t : LogicalStructure) : Type 0 where
  pub into : (u : ℕ) → Contains s.individuals u → Contains t.individuals (r u)
  pub onto : (w : ℕ) → Contains t.individuals w → (u : ℕ) × Contains s.individuals u × (r u ≡ w)
  pub injective : (u w : ℕ) → Contains s.individuals u → Contains s.individuals w → r u ≡ r w → u ≡ w
  pub values : (pred : ℕ) → Mentions pred f → (tuple : List ℕ) → All (Contains s.individuals) tuple
      → s.value pred tuple ≡ t.value pred (map r tuple)
  pub summaries : (u : ℕ) → Contains s.individuals u → s.is_summary u ≡ t.is_summary (r u)
  pub marks : NamesNew f → (u : ℕ) → Contains s.individuals u → (s.fresh ≡ Some u) ↔ (t.fresh ≡ Some (r u))

-- renaming individuals keeps values
abbrev pub ValuesAreKept : Type 0
ValuesAreKept =
    (f : Form) (r : ℕ → ℕ) (s t : LogicalStructure) (a b : Assignment) → Renames f r s t
    → TakesAlong r s f a b
    → value s a f ≡ value t b f

-- two structures look alike to the formula: they have the same individuals and summaries, the values of
-- the predicates that it mentions, and the mark where it speaks of the fresh individual
pub record LooksAlike (f : Form) (s t : LogicalStructure) : Type 0 where
  pub individuals : (u : ℕ) → Contains s.individuals u ↔ Contains t.individuals u
  pub values : (pred : ℕ) → Mentions pred f → (tuple : List ℕ) → All (Contains s.individuals) tuple
      → s.value pred tuple ≡ t.value pred tuple
  pub summaries : (u : ℕ) → Contains s.individuals u → s.is_summary u ≡ t.is_summary u
  pub marks : NamesNew f → s.fresh ≡ t.fresh

-- the free variables of the formula stand for individuals, for the same ones under a and b
abbrev pub AgreesOn : LogicalStructure → Form → Assignment → Assignment → Type 0
AgreesOn s f a b = (v : ℕ) → IsFree v f → Contains s.individuals (a v) × (a v ≡ b v)

-- a value depends only on the predicates that the formula mentions and on its free variables
abbrev pub ValuesAreLocal : Type 0
ValuesAreLocal =
    (f : Form) (s t : LogicalStructure) (a b : Assignment) → LooksAlike f s t → AgreesOn s f a b
    → value s a f ≡ value t b f

-- in one structure a value depends only on the formula's free variables, whatever they stand for
abbrev pub OnlyFreeVariablesMatter : Type 0
OnlyFreeVariablesMatter =
    (s : LogicalStructure) (f : Form) (a b : Assignment) → ((v : ℕ) → IsFree v f → a v ≡ b v)
    → value s a f ≡ value s b f

-- the free variables of the formula stand for individuals
abbrev pub GivesIndividuals : List ℕ → Form → Assignment → Type 0
GivesIndividuals individuals f a = (v : ℕ) → IsFree v f → Contains individuals (a v)

-- a value in a structure lies under that in each structure above it
abbrev pub ValuesAreMonotone : Type 0
ValuesAreMonotone =
    (f : Form) (s t : LogicalStructure) (a : Assignment) → IsBelow s t → (NamesNew f → s.fresh ≡ t.fresh)
    → GivesIndividuals s.individuals f a → LiesUnder (value s a f) (value t a f)

-- the value in a heap read as a structure is Yes exactly where the formula is true, and No exactly where
-- it is false; and it is one of both
pub record TellsTruth (h : Heap) (a : Assignment) (f : Form) : Type 0 where
  pub yes : value (heap_structure h) a f ≡ Yes ↔ Truth h a f
  pub no : value (heap_structure h) a f ≡ No ↔ (¬ Truth h a f)
  pub decided : Truth h a f ⊎ (¬ Truth h a f)

-- heaps of any size, read as structures, tell the truth
abbrev pub HeapsTellTruth : Type 0
HeapsTellTruth =
    (h : Heap) (a : Assignment) (f : Form) → GivesIndividuals h.individuals f a → TellsTruth h a f

-- Yes means true in the heap, and No means false
pub record TellsOfHeap (h : Heap) (a : Assignment) (f : Form) (x : K3) : Type 0 where
  pub yes : x ≡ Yes → Truth h a f
  pub no : x ≡ No → ¬ Truth h a f

-- where a heap embeds in t, a definite value in t tells the truth of the heap
abbrev pub DefiniteValuesAreSound : Type 0
DefiniteValuesAreSound =
    (f : Form) (m : ℕ → ℕ) (h : Heap) (t : LogicalStructure) (a b : Assignment)
    → EmbedsFor f m (heap_structure h) t → TakesAlong m (heap_structure h) f a b
    → TellsOfHeap h a f (value t b f)
