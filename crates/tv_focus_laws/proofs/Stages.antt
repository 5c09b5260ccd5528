-- The anchors of a formula are anchors, and its stages lose no heap.
use Rattle.std.proofs.Common.{ℕ, ◌≡◌, ◌≢◌, ◌<◌, zero, suc, Bool, true, false, cond, eqb, List, [], ◌∷◌, ◌++◌}
use Rattle.std.proofs.Common.{◌⊎◌, inl, inr, ⊎_elim, length, get_or, map, refl, sym, ap, subst, ◌∙◌, arith}
use Rattle.std.proofs.Common.{All, Contains, IsTrue, eq-eqb, ne_eqb}
use Rattle.std.specs.Prelude.{AllPairs, Any, ◌&&◌, not, fold}
use Rattle.std.specs.List.{filter, list_any}
use Rattle.std.proofs.lemmas.Bool.{cases_Bool, cases_eq, cond-true, cond-false, cond_both, not-true}
use Rattle.std.proofs.lemmas.Bool.{and_parts}
use Rattle.std.proofs.lemmas.List.Elements.{All-head, All-tail, All-cons, All-nil, All-append, All-push}
use Rattle.std.proofs.lemmas.List.Elements.{Contains-get_or}
use Rattle.tv_kleene.specs.declared.K3.{K3}
use Rattle.tv_kleene.specs.declared.K3.TheVariants.{No, Half, Yes}
use Rattle.tv_kleene.specs.Kleene.{LiesUnder, is_yes}
use Rattle.tv_model.specs.Heap.{Heap}
use Rattle.tv_model.specs.Form.{Form}
use Rattle.tv_embedding_laws.specs.LogicalStructure.{LogicalStructure, heap_structure, holds}
use Rattle.tv_embedding_laws.specs.Embedding.{Embeds, IsHeapOf}
use Rattle.tv_model.proofs.Lists.{Contains-here, Contains-there, Contains-none, Contains-cases, Contains-map}
use Rattle.tv_focus_laws.specs.FocusAtoms.{AtomForm, AnchorsForm, ordinary, is_anchored, anchors_of}
use Rattle.tv_focus_laws.specs.FocusAtoms.{and_given, by_unary, by_binary, anchors_in, focus_atoms}
use Rattle.tv_focus_laws.specs.Choices.{AimForm, Alone, Before, Behind, SplitForm, Nothing, Whole, Each}
use Rattle.tv_focus_laws.specs.Choices.{split_of, split_by, definite, choices, chosen}
use Rattle.tv_focus_laws.specs.Stages.{whole_value, with_whole, split_structures, atom_at, split_at, stage}
use Rattle.tv_focus_laws.specs.Laws.{IsAnchor, AreAnchors, AreSplitAnchors, IsHeapOfChoice, SplitsLoseNoHeap}
use Rattle.tv_focus_laws.specs.Laws.{StagesLoseNoHeap}
use Rattle.tv_focus_laws.proofs.Membership.{Contains-from_filter}
use Rattle.tv_focus_laws.proofs.Listed.{definite-has}
use Rattle.tv_focus_laws.proofs.HeapChoices.{heap-definite, focus_loses_no_heap}

-- ---- anchors

-- the variable was given anchors of the structure
abbrev pub HasAnchors : LogicalStructure → AnchorsForm → Type 0
HasAnchors s one = All (IsAnchor s) one.anchors

ordinary-are : (s : LogicalStructure) (test : ℕ → Bool) → All (IsAnchor s) (ordinary s test)
ordinary-are s test k d lt =
    let passes : ℕ → Bool = λ u. not (s.is_summary u) && test u
    in let one : ℕ = get_or (ordinary s test) k d
    in let kept : Contains s.individuals one × (passes one ≡ true)
    = Contains-from_filter passes one s.individuals (Contains-get_or (ordinary s test) k d lt)
    in (kept.0, not-true (s.is_summary one) (and_parts (not (s.is_summary one)) (test one) kept.1).0)

-- what holds of each variable with ordinary individuals
abbrev pub HoldsOfOrdinary : LogicalStructure → (AnchorsForm → Type 0) → Type 0
HoldsOfOrdinary s P = (v : ℕ) (test : ℕ → Bool) → P (record { var = v; anchors = ordinary s test })

given-are : (P : AnchorsForm → Type 0) (s : LogicalStructure) → HoldsOfOrdinary s P → (given : List AnchorsForm) (v : ℕ) (test : ℕ → Bool) → All P given
    → All P (and_given given v (ordinary s test))
given-are P s each given v test all = All-push P given (record { var = v; anchors = ordinary s test }) all (each v test)

pub unary-are : (P : AnchorsForm → Type 0) (s : LogicalStructure) → HoldsOfOrdinary s P → (given : List AnchorsForm) (pred : ℕ) (vars : List ℕ) → All P given
    → All P (by_unary s given pred vars)
unary-are P s each given pred [] all = all
unary-are P s each given pred (v ∷ []) all =
    cond_both (is_anchored given v) given (and_given given v (ordinary s (λ u. is_yes (s.value pred (u ∷ [])))))
    (λ out. All P out) (λ e. all) (λ e. given-are P s each given v (λ u. is_yes (s.value pred (u ∷ []))) all)
unary-are P s each given pred (v ∷ w ∷ more) all = all

pub binary-are : (P : AnchorsForm → Type 0) (s : LogicalStructure) → HoldsOfOrdinary s P → (given : List AnchorsForm) (pred : ℕ) (vars : List ℕ) → All P given
    → All P (by_binary s given pred vars)
binary-are P s each given pred [] all = all
binary-are P s each given pred (v ∷ []) all = all
binary-are P s each given pred (v ∷ w ∷ []) all =
    let After : ℕ → Bool = λ u. list_any (λ a. is_yes (s.value pred (a ∷ u ∷ []))) (anchors_of given v)
    in let Ahead : ℕ → Bool = λ u. list_any (λ a. is_yes (s.value pred (u ∷ a ∷ []))) (anchors_of given w)
    in cond_both (is_anchored given v)
    (cond (is_anchored given w) given (and_given given w (ordinary s After)))
    (cond (is_anchored given w) (and_given given v (ordinary s Ahead)) given)
    (λ out. All P out)
    (λ e. cond_both (is_anchored given w) given (and_given given w (ordinary s After)) (λ out. All P out)
    (λ d. all) (λ d. given-are P s each given w After all))
    (λ e. cond_both (is_anchored given w) (and_given given v (ordinary s Ahead)) given (λ out. All P out)
    (λ d. given-are P s each given v Ahead all) (λ d. all))
binary-are P s each given pred (v ∷ w ∷ x ∷ more) all = all

pub folded-are : (P : AnchorsForm → Type 0) (step : List AnchorsForm → AtomForm → List AnchorsForm)
    → ((given : List AnchorsForm) (atom : AtomForm) → All P given → All P (step given atom))
    → (given : List AnchorsForm) (atoms : List AtomForm) → All P given → All P (fold step given atoms)
folded-are P step each given [] all = all
folded-are P step each given (atom ∷ atoms) all = folded-are P step each (step given atom) atoms (each given atom all)

pub anchors-are : (P : AnchorsForm → Type 0) (s : LogicalStructure) → HoldsOfOrdinary s P → (atoms : List AtomForm) → All P (anchors_in s atoms)
anchors-are P s each atoms =
    folded-are P (λ given atom. by_binary s given atom.pred atom.vars) (λ given atom all. binary-are P s each given atom.pred atom.vars all)
    (fold (λ given atom. by_unary s given atom.pred atom.vars) [] atoms) atoms
    (folded-are P (λ given atom. by_unary s given atom.pred atom.vars) (λ given atom all. unary-are P s each given atom.pred atom.vars all)
    [] atoms (All-nil P))

-- what holds of a split, where it holds of those by one variable
pub record HoldsOfSplits (P : AnchorsForm → Type 0) (R : SplitForm → Type 0) : Type 0 where
  pub nothing : R Nothing
  pub whole : R Whole
  pub alone : R (Each Alone)
  pub before : (one : AnchorsForm) → P one → R (Each (Before one.anchors))
  pub behind : (one : AnchorsForm) → P one → R (Each (Behind one.anchors))

split_by-are : (P : AnchorsForm → Type 0) (R : SplitForm → Type 0) → HoldsOfSplits P R → (given : List AnchorsForm) (v w : ℕ) → All P given
    → R (split_by given v w)
split_by-are P R holds [] v w all = holds.nothing
split_by-are P R holds (one ∷ given) v w all =
    let here : P one = All-head P one given all
    in let later : R (split_by given v w) = split_by-are P R holds given v w (All-tail P one given all)
    in cond_both (eqb one.var v) (Each (Behind one.anchors))
    (cond (eqb one.var w) (Each (Before one.anchors)) (split_by given v w)) R
    (λ e. holds.behind one here)
    (λ e. cond_both (eqb one.var w) (Each (Before one.anchors)) (split_by given v w) R (λ d. holds.before one here) (λ d. later))

pub split_of-are : (P : AnchorsForm → Type 0) (R : SplitForm → Type 0) → HoldsOfSplits P R → (given : List AnchorsForm) (vars : List ℕ) → All P given
    → R (split_of given vars)
split_of-are P R holds given [] all = holds.whole
split_of-are P R holds given (v ∷ []) all = holds.alone
split_of-are P R holds given (v ∷ w ∷ []) all =
    cond_both (eqb v w) Nothing (split_by given v w) R (λ e. holds.nothing) (λ e. split_by-are P R holds given v w all)
split_of-are P R holds given (v ∷ w ∷ x ∷ more) all = holds.nothing

pub split-anchors : (s : LogicalStructure) (f : Form) (k : ℕ) → AreSplitAnchors s (split_at s f k)
split-anchors s f k =
    split_of-are (HasAnchors s) (AreSplitAnchors s)
    (record { nothing = tt; whole = tt; alone = tt; before = λ one is. is; behind = λ one is. is })
    (anchors_in s (focus_atoms f)) (atom_at f k).vars
    (anchors-are (HasAnchors s) s (λ v test. ordinary-are s test) (focus_atoms f))

-- ---- nullary atoms

whole-under : (x : K3) (r s : LogicalStructure) (f : ℕ → ℕ) → Embeds f r s → (pred : ℕ) → r.value pred [] ≡ x → (q : ℕ) (tuple : List ℕ)
    → All (Contains r.individuals) tuple → LiesUnder (r.value q tuple) (whole_value s pred x q (map f tuple))
whole-under x r s f e pred is q [] all =
    let At : K3 → Type 0 = λ y. LiesUnder (r.value q []) y
    in let Of : ℕ → Type 0 = λ p. LiesUnder (r.value p []) x
    in ⊎_elim
    (λ same. subst At (sym (cond-true (eqb q pred) x (s.value q []) (eq-eqb q pred same))) (subst Of (sym same) (inl is)))
    (λ ne. subst At (sym (cond-false (eqb q pred) x (s.value q []) (ne_eqb q pred ne))) (e.values q tt [] all))
    (cases_eq q pred)
whole-under x r s f e pred is q (u ∷ more) all = e.values q tt (u ∷ more) all

whole-embeds : (x : K3) (r s : LogicalStructure) (f : ℕ → ℕ) → Embeds f r s → (pred : ℕ) → r.value pred [] ≡ x
    → Embeds f r (with_whole s pred x)
whole-embeds x r s f e pred is = record {
  into = e.into;
  onto = e.onto;
  values = λ q any tuple all. whole-under x r s f e pred is q tuple all;
  summaries = e.summaries;
  several = e.several;
}

-- ---- stages

any-from_map : {X : Type 0} (P : LogicalStructure → Type 0) (g : X → LogicalStructure) (x : X) (xs : List X) → Contains xs x → P (g x)
    → Any P (map g xs)
any-from_map P g x xs at has =
    let there : Contains (map g xs) (g x) = Contains-map g x xs at
    in (there.0, g x, there.1, there.2, has)

pub splits_lose_no_heap : SplitsLoseNoHeap
splits_lose_no_heap h s pred Nothing differ are (f, e) = (0, s, omega arith, refl, (f, e))
splits_lose_no_heap h s pred Whole differ are (f, e) =
    let x : K3 = (heap_structure h).value pred []
    in any-from_map (IsHeapOf h) (with_whole s pred) x (definite (s.value pred []))
    (definite-has x (s.value pred []) (heap-definite h pred []) (e.values pred tt [] (All-nil (Contains h.individuals))))
    (f, whole-embeds x (heap_structure h) s f e pred refl)
splits_lose_no_heap h s pred (Each aim) differ are is =
    let found : IsHeapOfChoice h s pred aim = focus_loses_no_heap h s pred aim differ are is
    in any-from_map (IsHeapOf h) (chosen s pred aim) found.0 (choices s pred aim) found.1 found.2

pub stages_lose_no_heap : StagesLoseNoHeap
stages_lose_no_heap h s f k differ is =
    splits_lose_no_heap h s (atom_at f k).pred (split_at s f k) differ (split-anchors s f k) is
