-- Laws of focus, as statements.
use Rattle.std.specs.Prelude.{ℕ, ◌≡◌, ◌≢◌, false, List, All, AllPairs, Any, Contains}
use Rattle.tv_model.specs.Form.{Form}
use Rattle.tv_kleene.specs.declared.K3.{K3}
use Rattle.tv_model.specs.Heap.{Heap}
use Rattle.tv_embedding_laws.specs.LogicalStructure.{LogicalStructure}
use Rattle.tv_embedding_laws.specs.Embedding.{IsHeapOf}
use Rattle.tv_focus_laws.specs.Choices.{ChoiceForm, AimForm, Alone, Before, Behind, SplitForm, Nothing, Whole}
use Rattle.tv_focus_laws.specs.Choices.{Each, choices, chosen}
use Rattle.tv_focus_laws.specs.Stages.{split_structures, stage}

-- an individual that is no summary
abbrev pub IsAnchor : LogicalStructure → ℕ → Type 0
IsAnchor s a = Contains s.individuals a × (s.is_summary a ≡ false)

-- the anchors are individuals of the structure and no summaries
abbrev pub AreAnchors : LogicalStructure → AimForm → Type 0
AreAnchors s Alone = Unit {0}
AreAnchors s (Before anchors) = All (IsAnchor s) anchors
AreAnchors s (Behind anchors) = All (IsAnchor s) anchors

-- the heap embeds in the structure of one of the choices
abbrev pub IsHeapOfChoice : Heap → LogicalStructure → (pred : ℕ) → AimForm → Type 0
IsHeapOfChoice h s pred aim =
    (choice : ChoiceForm) × Contains (choices s pred aim) choice × IsHeapOf h (chosen s pred aim choice)

-- each heap that embeds in the structure embeds in that of a choice, for any anchors
abbrev pub FocusLosesNoHeap : Type 0
FocusLosesNoHeap =
    (h : Heap) (s : LogicalStructure) (pred : ℕ) (aim : AimForm) → AllPairs ◌≢◌ s.individuals
    → AreAnchors s aim
    → IsHeapOf h s → IsHeapOfChoice h s pred aim

abbrev pub AreSplitAnchors : LogicalStructure → SplitForm → Type 0
AreSplitAnchors s Nothing = Unit {0}
AreSplitAnchors s Whole = Unit {0}
AreSplitAnchors s (Each aim) = AreAnchors s aim

-- each heap that embeds in the structure embeds in one of those that a split makes of it
abbrev pub SplitsLoseNoHeap : Type 0
SplitsLoseNoHeap =
    (h : Heap) (s : LogicalStructure) (pred : ℕ) (split : SplitForm) → AllPairs ◌≢◌ s.individuals
    → AreSplitAnchors s split
    → IsHeapOf h s → Any (IsHeapOf h) (split_structures s pred split)

-- each heap that embeds in the structure embeds in one of those of a focus atom
abbrev pub StagesLoseNoHeap : Type 0
StagesLoseNoHeap =
    (h : Heap) (s : LogicalStructure) (f : Form) (k : ℕ) → AllPairs ◌≢◌ s.individuals → IsHeapOf h s
    → Any (IsHeapOf h) (stage s f k)
