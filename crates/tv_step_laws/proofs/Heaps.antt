-- Abstract steps lose no heap.
use Rattle.std.proofs.Common.{ℕ, ◌≡◌, ◌≢◌, ◌∙◌, List, [], ◌∷◌, map, Some, slice_get, inl, inr}
use Rattle.std.proofs.Common.{⊎_elim, refl, sym, ap, subst, All, Contains}
use Rattle.std.specs.Prelude.{Any}
use Rattle.std.proofs.lemmas.Bool.{false≢true}
use Rattle.std.specs.Option.{option_map}
use Rattle.std.proofs.lemmas.List.{length-map}
use Rattle.std.proofs.lemmas.Option.{slice_get-map}
use Rattle.std.proofs.lemmas.List.Elements.{All-contains}
use Rattle.tv_lemmas.proofs.Lists.{range_differs, All-map_into}
use Rattle.tv_lemmas.proofs.Zips.{zip_found}
use Rattle.tv_kleene.specs.declared.K3.{K3}
use Rattle.tv_kleene.specs.declared.K3.TheVariants.{No}
use Rattle.tv_kleene.specs.Kleene.{LiesUnder}
use Rattle.tv_kleene.proofs.Thresholds.{No-below}
use Rattle.tv_model.specs.declared.program.Edge.{Edge}
use Rattle.tv_model.specs.declared.program.Mode.{Mode}
use Rattle.tv_model.specs.Heap.{Heap}
use Rattle.tv_model.specs.Program.{ProgramForm, ActionForm, MessageForm}
use Rattle.tv_model.specs.Rules.{IsConcrete, blank}
use Rattle.tv_model.specs.Run.{IsStart}
use Rattle.tv_model.specs.Step.{FairStep, FairlySteps}
use Rattle.tv_model.specs.Truth.{Truth}
use Rattle.tv_model.specs.Valid.{IsValid, IsAction, IsMessage}
use Rattle.tv_model.proofs.Lists.{Contains-here, Contains-cases, Contains-none, Contains-map}
use Rattle.tv_model.proofs.Lists.{Contains-map_back, slice_get-contains}
use Rattle.tv_embedding_laws.specs.LogicalStructure.{LogicalStructure, heap_structure}
use Rattle.tv_embedding_laws.specs.Embedding.{IsHeapOf}
use Rattle.tv_embedding_laws.proofs.EmbeddingLaws.{EmbedsOn-compose}
use Rattle.tv_eval_laws.specs.Value.{value}
use Rattle.tv_eval_laws.specs.Laws.{TellsOfHeap}
use Rattle.tv_eval_laws.proofs.Embedded.{embeds-for}
use Rattle.tv_eval_laws.proofs.InHeaps.{definite_values_are_sound}
use Rattle.tv_stable_laws.specs.Laws.{SharpeningLosesNone}
use Rattle.tv_stable_laws.proofs.InHeaps.{sharpening_loses_no_heap}
use Rattle.tv_rules.specs.Closing.{closed_rules}
use Rattle.tv_rules.proofs.MetByHeaps.{closed_rules_are_met}
use Rattle.tv_rules.proofs.Ranges.{rules_are_plain}
use Rattle.tv_row.proofs.Extremes.{any_possible}
use Rattle.tv_structure_form.specs.TableForm.{AreIndividuals}
use Rattle.tv_structure_form.specs.StructureForm.{StructureForm, structure_of, arities_of, value_at}
use Rattle.tv_structure_form.proofs.Library.{below-range, AreIndividuals-range}
use Rattle.tv_focus_laws.specs.Tables.{Shows}
use Rattle.tv_focus_laws.proofs.Stages.{stages_lose_no_heap}
use Rattle.tv_focus_laws.proofs.Tables.{Fits, fits-or_No}
use Rattle.tv_update_laws.specs.Picks.{passing_picks}
use Rattle.tv_update_laws.proofs.Picks.{action_loses_no_heap}
use Rattle.tv_blur.proofs.MergedLaws.{covers}
use Rattle.tv_step_laws.specs.Shaped.{IsShaped}
use Rattle.tv_step_laws.specs.Transfer.{Coerces, FocusPlace, focus_places, choices_at, IsTableOf, Focuses}
use Rattle.tv_step_laws.specs.Transfer.{AreFocused, AreAtHand, message_value, GivesStructures, Updates}
use Rattle.tv_step_laws.specs.Transfer.{IsBlurOf, Finishes, Steps, AreResults, AreMessageValues, IsActionOf}
use Rattle.tv_step_laws.specs.Transfer.{IsOpening, HasNoOpening}
use Rattle.tv_step_laws.specs.Sound.{IsHeapOfSome}
use Rattle.tv_step_laws.proofs.From.{HasPart, from-part, Some-of, some-from, zip-back}

-- the structure is over the program, and the heap embeds in it
abbrev pub HasHeap : ProgramForm → Heap → StructureForm → Type 0
HasHeap p h s = IsShaped p s × IsHeapOf h (structure_of s)

-- ---- coerce

pub coerce-heap : (p : ProgramForm) → IsValid p → (h : Heap) → IsStart p h
    → (s : StructureForm) (ts : List StructureForm)
    → Coerces p s ts → IsHeapOf h (structure_of s) → Some-of (HasHeap p h) ts
coerce-heap p valid h start s ts coerces heap = at coerces
  where
    kept : SharpeningLosesNone heap.0 (heap_structure h) (structure_of s) (closed_rules p)
    kept = sharpening_loses_no_heap heap.0 h (structure_of s) (closed_rules p) heap.1
        (rules_are_plain p valid)
        (closed_rules_are_met p h valid start.concrete start.meets)

    at : Coerces p s ts → Some-of (HasHeap p h) ts
    at (inl (none, is)) = absurd (kept.some none)
    at (inr (t, coerced, is)) =
        let In : List StructureForm → Type 0 = λ us. Contains us t
        in (
          t,
          subst In (sym is) (Contains-here t []),
          (coerced.shaped, (heap.0, kept.kept (structure_of t) coerced.greatest)),
        )

-- ---- focus

-- a heap of s that embeds in a structure embeds in a table of it over the same predicates
table-heap : (h : Heap) (s t : StructureForm) (l : LogicalStructure) → arities_of t ≡ arities_of s → Shows t l
    → IsHeapOf h (structure_of s) → IsHeapOf h l → IsHeapOf h (structure_of t)
table-heap h s t l over shows (f, e) (g, d) = (
  g,
  record {
    into = λ u at. here u (d.into u at);
    onto = λ w at. d.onto w (subst (λ us. Contains us w) shows.individuals at);
    values = λ pred any tuple all. at-each pred tuple all;
    summaries = λ u at summary. absurd (false≢true summary);
    several = λ u w hu hw ne same. shows.summaries (g u) (below-range t.size (g u) (here u (d.into u hu)))
        ∙ d.several u w hu hw ne same;
  },
)
  where
    here : (u : ℕ) → Contains l.individuals (g u) → Contains (structure_of t).individuals (g u)
    here u at = subst (λ us. Contains us (g u)) (sym shows.individuals) at

    at-each : (pred : ℕ) (tuple : List ℕ) → All (Contains h.individuals) tuple
        → LiesUnder ((heap_structure h).value pred tuple) (value_at t pred (map g tuple))
    at-each pred tuple all =
        let At : K3 → Type 0 = λ y. LiesUnder ((heap_structure h).value pred tuple) y
        in let inside : AreIndividuals t.size (map g tuple)
        = AreIndividuals-range t.size (map g tuple)
        (All-map_into g h.individuals (structure_of t).individuals tuple (λ u at. here u (d.into u at)) all)
        in let shown : Fits t pred (map g tuple) → At (value_at t pred (map g tuple))
        = λ fits. subst At
        (sym (shows.values pred (map g tuple) (record { arity = fits; individuals = inside })))
        (d.values pred tt tuple all)
        in ⊎_elim shown
        (λ none. ⊎_elim
        (λ fits. shown
        (ap (λ xs. slice_get xs pred) over ∙ fits ∙ ap Some (length-map tuple f ∙ sym (length-map tuple g))))
        (λ above. inl
        (No-below ((heap_structure h).value pred tuple) (value_at s pred (map f tuple))
        (e.values pred tt tuple all) above
        ∙ sym none))
        (fits-or_No s pred (map f tuple)))
        (fits-or_No t pred (map g tuple))

focus-heap : (p : ProgramForm) → IsValid p → (h : Heap) → IsStart p h
    → (place : FocusPlace) (s : StructureForm)
    (ts : List StructureForm) → Focuses p place s ts → HasHeap p h s → Some-of (HasHeap p h) ts
focus-heap p valid h start place s ts (us, zip, are) (shaped, heap) =
    let found : Any (IsHeapOf h) (choices_at s place)
    = stages_lose_no_heap h (structure_of s) place.formula place.atom (range_differs s.size) heap
    in let table : (u : StructureForm) × Contains us u × IsTableOf p u found.1
    = zip-back (IsTableOf p) us (choices_at s place) zip found.1 (found.0, found.2, found.3)
    in some-from (λ u. IsHeapOf h (structure_of u)) (HasHeap p h) (Coerces p)
    (λ u own coerces is. coerce-heap p valid h start u own coerces is) us ts are (
      table.0,
      table.1,
      table-heap h s table.0 found.1
          (table.2.0.over ∙ sym shaped.over) table.2.1 heap found.4,
    )

focused-heap : (p : ProgramForm) → IsValid p → (h : Heap) → IsStart p h → (places : List FocusPlace)
    (ss ts : List StructureForm) → AreFocused p places ss ts → Some-of (HasHeap p h) ss
    → Some-of (HasHeap p h) ts
focused-heap p valid h start [] ss ts are some =
    let In : List StructureForm → Type 0 = λ us. Some-of (HasHeap p h) us in subst In (sym are) some
focused-heap p valid h start (place ∷ places) ss ts (us, are, later) some =
    focused-heap p valid h start places us ts later
    (some-from (HasHeap p h) (HasHeap p h) (Focuses p place)
    (λ s own focuses has. focus-heap p valid h start place s own focuses has) ss us are some)

-- a heap with which a run may begin, and which embeds in a structure, embeds in one of those at hand
pub at_hand-heap : (p : ProgramForm) → IsValid p → (h : Heap) → IsStart p h → (places : List FocusPlace)
    (s : StructureForm) (ts : List StructureForm) → AreAtHand p places s ts → IsHeapOf h (structure_of s)
    → Some-of (HasHeap p h) ts
at_hand-heap p valid h start places s ts (cs, coerces, are) heap =
    focused-heap p valid h start places cs ts are (coerce-heap p valid h start s cs coerces heap)

-- ---- messages

-- where the message is true in a heap of a structure at hand, its value isn't No
message-told : (p : ProgramForm) (m : MessageForm) → IsMessage p m → (h : Heap) (ts : List StructureForm)
    → Some-of (HasHeap p h) ts → Truth h blank m.cond → message_value ts m ≢ No
message-told p m is h ts (t, at, (shaped, (f, e))) true_there =
    let told : TellsOfHeap h blank m.cond (value (structure_of t) blank m.cond)
    = definite_values_are_sound m.cond f h (structure_of t) blank blank
    (embeds-for m.cond f (heap_structure h) (structure_of t) e (λ names. absurd (is.0.1 names)))
    (λ v free. absurd (Contains-none v (is.1 v free)))
    in let found : Contains (map (λ u. value (structure_of u) blank m.cond) ts)
    (value (structure_of t) blank m.cond)
    = Contains-map (λ u. value (structure_of u) blank m.cond) t ts at
    in (any_possible (map (λ u. value (structure_of u) blank m.cond) ts)).1
    (found.0, value (structure_of t) blank m.cond, found.1, found.2, λ none. told.no none true_there)

-- ---- update

update-heap : (p : ProgramForm) → IsValid p → (mode : Mode) (action : ActionForm) → Contains p.actions action
    → (old new : Heap) (picked : ℕ → ℕ) → FairlySteps p mode action picked old new → IsConcrete p old
    → (s : StructureForm) (ts : List StructureForm) → Updates p mode action s ts → HasHeap p old s
    → Some-of (HasHeap p new) ts
update-heap p valid mode action has old new picked steps concrete s ts are (shaped, heap) =
    let chosen = action_loses_no_heap p valid mode action has old new
    (structure_of s) heap concrete picked steps
    in let part : HasPart (GivesStructures p mode action s) ts chosen.0
    = from-part (GivesStructures p mode action s) (passing_picks action (structure_of s)) ts are chosen.0 chosen.1
    in let given : (l : LogicalStructure) × Contains (map structure_of part.own) l × IsHeapOf new l
    = chosen.2 (map structure_of part.own) part.made.0
    in let table : (u : StructureForm) × Contains part.own u × (structure_of u ≡ given.0)
    = Contains-map_back structure_of part.own given.0 given.1
    in (
      table.0,
      part.within table.0 table.1,
      (
        All-contains (IsShaped p) part.own table.0 part.made.1 table.1,
        subst (IsHeapOf new) (sym table.2) given.2,
      ),
    )

-- ---- blur

blur-heap : (p : ProgramForm) (h : Heap) (s t : StructureForm) → IsBlurOf p s t → HasHeap p h s
    → HasHeap p h t
blur-heap p h s t (shaped, (place, by)) (of, (f, e)) = (
  shaped,
  (
    λ u. place (f u),
    EmbedsOn-compose (λ pred. Unit {0}) f place (heap_structure h) (structure_of s) (structure_of t) e
        (covers place (structure_of s) (structure_of t) by.merged),
  ),
)

finish-heap : (p : ProgramForm) → IsValid p → (h : Heap) → IsStart p h
    → (s : StructureForm) (ts : List StructureForm)
    → Finishes p s ts → IsHeapOf h (structure_of s) → Some-of (HasHeap p h) ts
finish-heap p valid h start s ts (cs, coerces, zip) heap =
    let coerced : Some-of (HasHeap p h) cs = coerce-heap p valid h start s cs coerces heap
    in let blurred : (t : StructureForm) × Contains ts t × IsBlurOf p coerced.0 t
    = zip_found (IsBlurOf p) cs ts zip coerced.0 coerced.1
    in (blurred.0, blurred.1, blur-heap p h coerced.0 blurred.0 blurred.2 coerced.2)

-- a heap with which a run may begin, and which embeds in s, embeds in its opening, and there is one
pub opening-heap : (p : ProgramForm) → IsValid p → (h : Heap) → IsStart p h → (s : StructureForm)
    → IsHeapOf h (structure_of s)
    → (¬ HasNoOpening p s) × ((t : StructureForm) → IsOpening p s t → HasHeap p h t)
opening-heap p valid h start s heap = (
  λ none. let some : Some-of (HasHeap p h) [] = coerce-heap p valid h start s [] (inl (none, refl)) heap
      in Contains-none some.0 some.1,
  λ t opening.
      let coerced : Some-of (HasHeap p h) (opening.0 ∷ [])
      = coerce-heap p valid h start s (opening.0 ∷ []) (inr (opening.0, opening.1, refl)) heap
      in let same : opening.0 ≡ coerced.0
      = ⊎_elim (λ e. e) (λ none. absurd (Contains-none coerced.0 none))
      (Contains-cases opening.0 coerced.0 [] coerced.1)
      in blur-heap p h opening.0 t opening.2 (subst (HasHeap p h) (sym same) coerced.2),
)

-- ---- the step

-- the new heap of a fair step could begin a run
pub new-start : (p : ProgramForm) (mode : Mode) (edge : Edge) (old new : Heap) → FairStep p mode edge old new
    → IsStart p new
new-start p mode edge old new step = record {
  is_heap = step.fair.1.step.new_heap;
  concrete = step.fair.1.step.concrete;
  meets = step.fair.1.new_meets;
}

step-heap : (p : ProgramForm) → IsValid p → (mode : Mode) (action : ActionForm) → Contains p.actions action
    → (old new : Heap) (picked : ℕ → ℕ) → FairlySteps p mode action picked old new → IsStart p old
    → IsStart p new
    → (s : StructureForm) (ts : List StructureForm) → Steps p mode action s ts → HasHeap p old s
    → Some-of (HasHeap p new) ts
step-heap p valid mode action has old new picked steps start fresh s ts (us, are, ends) heap =
    some-from (HasHeap p new) (HasHeap p new) (Finishes p)
    (λ u own finishes is. finish-heap p valid new fresh u own finishes is.1) us ts ends
    (update-heap p valid mode action has old new picked steps start.concrete s us are heap)

same-some : {X : Type 0} {x y : X} → Some x ≡ Some y → x ≡ y
same-some e = cc e

-- an edge has one action
pub action-once : (p : ProgramForm) (edge : ℕ) (a b : ActionForm) → IsActionOf p edge a → IsActionOf p edge b
    → a ≡ b
action-once p edge a b one other =
    let same : one.taken ≡ other.taken = same-some (sym one.its_edge ∙ other.its_edge)
    in let Of : Edge → Type 0 = λ e. slice_get p.actions e.action ≡ Some a
    in same-some (sym (subst Of same one.its_action) ∙ other.its_action)

-- the new heap of a fair step along the edge, from a heap of s, embeds in a result of s
pub result-heap : (p : ProgramForm) → IsValid p → (mode : Mode) (edge : ℕ) (taken : Edge)
    → slice_get p.edges edge ≡ Some taken → (s : StructureForm) (results : List StructureForm)
    → AreResults p mode edge s results
    → (old new : Heap) → IsStart p old → FairStep p mode taken old new → IsHeapOf old (structure_of s)
    → Some-of (HasHeap p new) results
result-heap p valid mode edge taken there s results are old new start step heap =
    let same_action : are.action ≡ step.action
    = action-once p edge are.action step.action are.its_action
    (record { taken = taken; its_edge = there; its_action = step.its_action })
    in let By : ActionForm → Type 0 = λ a. FairlySteps p mode a step.picked old new
    in let found : Some-of (HasHeap p new) are.given
    = some-from (HasHeap p old) (HasHeap p new) (Steps p mode are.action)
    (λ t own steps has. step-heap p valid mode are.action
    (slice_get-contains p.actions are.its_action.taken.action are.action are.its_action.its_action) old new
    step.picked
    (subst By (sym same_action) step.fair) start (new-start p mode taken old new step) t own steps has)
    are.at_hand are.given
    are.are_given
    (at_hand-heap p valid old start (focus_places are.action.focus) s are.at_hand are.are_at_hand heap)
    in (found.0, (are.same found.0).1 found.1, found.2)

-- a message that is true in a heap of s has a value, which isn't No
pub message-heap : (p : ProgramForm) → IsValid p → (edge : ℕ) (s : StructureForm) (values : List K3)
    → AreMessageValues p edge s values → (action : ActionForm) → IsActionOf p edge action
    → (number : ℕ) (m : MessageForm)
    → slice_get action.messages number ≡ Some m → (h : Heap) → IsStart p h → IsHeapOf h (structure_of s)
    → Truth h blank m.cond
    → (k : K3) × (slice_get values number ≡ Some k) × (k ≢ No)
message-heap p valid edge s values are action is number m there h start heap true_there =
    let same : action ≡ are.action = action-once p edge action are.action is are.its_action
    in let Of : ActionForm → Type 0 = λ a. slice_get a.messages number ≡ Some m
    in let its : slice_get are.action.messages number ≡ Some m = subst Of same there
    in let has : Contains p.actions are.action
    = slice_get-contains p.actions are.its_action.taken.action are.action are.its_action.its_action
    in let message : IsMessage p m
    = All-contains (IsMessage p) are.action.messages m
    (All-contains (IsAction p) p.actions are.action valid.actions has).messages
    (slice_get-contains are.action.messages number m its)
    in (
      message_value are.at_hand m,
      ap (λ ks. slice_get ks number) are.are
          ∙ slice_get-map (message_value are.at_hand) are.action.messages number
          ∙ ap (option_map (message_value are.at_hand)) its,
      message-told p m message h are.at_hand
          (at_hand-heap p valid h start (focus_places are.action.focus) s are.at_hand are.are_at_hand heap)
          true_there,
    )

pub any_heap : (p : ProgramForm) (h : Heap) (ts : List StructureForm) → Some-of (HasHeap p h) ts
    → IsHeapOfSome ts h
any_heap p h ts (t, (k, lt, is), (shaped, heap)) = (k, t, lt, is, heap)
