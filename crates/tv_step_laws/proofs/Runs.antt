-- A closed listing covers all runs.
use Rattle.std.proofs.Common.{ℕ, ◌≡◌, ◌≢◌, List, map, Some, slice_get, inl, inr, refl, All, Contains}
use Rattle.std.proofs.lemmas.List.Elements.{All-contains}
use Rattle.tv_lemmas.proofs.Lists.{found_at}
use Rattle.tv_kleene.specs.declared.K3.{K3}
use Rattle.tv_kleene.specs.declared.K3.TheVariants.{No}
use Rattle.tv_model.specs.declared.program.Edge.{Edge}
use Rattle.tv_model.specs.declared.program.Mode.{Mode}
use Rattle.tv_model.specs.Heap.{Heap}
use Rattle.tv_model.specs.Program.{ProgramForm, MessageForm}
use Rattle.tv_model.specs.Rules.{blank}
use Rattle.tv_model.specs.Run.{IsStart, Stage, IsRun, Brings}
use Rattle.tv_model.specs.Step.{FairStep}
use Rattle.tv_model.specs.Truth.{Truth}
use Rattle.tv_model.specs.Valid.{IsValid}
use Rattle.tv_model.proofs.Runs.{brought-covered}
use Rattle.tv_embedding_laws.specs.LogicalStructure.{heap_structure}
use Rattle.tv_embedding_laws.specs.Embedding.{IsHeapOf}
use Rattle.tv_embedding_laws.proofs.EmbeddingLaws.{EmbedsOn-compose}
use Rattle.tv_listing.specs.ListingForm.{at_node}
use Rattle.tv_structure_form.specs.StructureForm.{StructureForm, structure_of}
use Rattle.tv_listing.specs.declared.analysis.MessageLine.{MessageLine}
use Rattle.tv_step_laws.specs.Transfer.{AreResults, AreMessageValues, message_value}
use Rattle.tv_step_laws.specs.Closed.{IsCovered, HasLine, IsOpened, IsFollowed, IsClosed}
use Rattle.tv_step_laws.specs.Sound.{IsHeapOfSome, IsMessageOf}
use Rattle.tv_step_laws.specs.Laws.{ClosedListingsCoverRuns}
use Rattle.tv_step_laws.proofs.From.{Some-of}
use Rattle.tv_step_laws.proofs.Heaps.{HasHeap, new-start, opening-heap, result-heap, message-heap}

-- what embeds in a structure that is covered embeds in one of those that cover it
covered-heap : (h : Heap) (s : StructureForm) (ts : List StructureForm) → IsCovered ts s
    → IsHeapOf h (structure_of s) → IsHeapOfSome ts h
covered-heap h s ts (k, t, lt, is, (g, d)) (f, e) = (
  k,
  t,
  lt,
  is,
  (
    λ u. g (f u),
    EmbedsOn-compose (λ pred. Unit {0}) f g (heap_structure h) (structure_of s)
        (structure_of t) e d,
  ),
)

-- a heap with which a run may begin, and which embeds in a structure that is listed at the node
record IsListed (p : ProgramForm) (listed : List (List StructureForm)) (node : ℕ) (h : Heap) : Type 0 where
  start : IsStart p h
  embeds : IsHeapOfSome (at_node listed node) h

opened-heap : (p : ProgramForm) → IsValid p → (ts initial : List StructureForm) → All (IsOpened p ts) initial
    → (h : Heap) → IsStart p h → IsHeapOfSome initial h → IsHeapOfSome ts h
opened-heap p valid ts initial all h start (k, s, lt, is, heap) = at
    (All-contains (IsOpened p ts) initial s all (k, lt, is))
  where
    at : IsOpened p ts s → IsHeapOfSome ts h
    at (inl none) = absurd ((opening-heap p valid h start s heap).0 none)
    at (inr (t, opening, covered)) = covered-heap h t ts covered
        ((opening-heap p valid h start s heap).1 t opening).1

followed-heap : (p : ProgramForm) → IsValid p → (mode : Mode) (initial : List StructureForm)
    (listed : List (List StructureForm)) (lines : List MessageLine) → IsClosed p mode initial listed lines
    → (edge : Edge) (old new : Heap) → Contains p.edges edge → FairStep p mode edge old new
    → IsListed p listed edge.from old
    → IsListed p listed edge.to new
followed-heap p valid mode initial listed lines closed edge old new has step is =
    let number : (k : ℕ) × (slice_get p.edges k ≡ Some edge) = found_at p.edges edge has
    in let s : StructureForm = is.embeds.1
    in let followed : IsFollowed p mode number.0 s (at_node listed edge.to) lines
    = closed.followed number.0 edge number.1 s (is.embeds.0, is.embeds.2, is.embeds.3)
    in let found : Some-of (HasHeap p new) followed.results.0
    = result-heap p valid mode number.0 edge number.1 s followed.results.0 followed.results.1 old new is.start
    step is.embeds.4
    in record {
      start = new-start p mode edge old new step;
      embeds = covered-heap new found.0 (at_node listed edge.to)
          (All-contains
          (IsCovered (at_node listed edge.to)) followed.results.0 found.0 followed.results.2 found.1)
          found.2.1;
    }

brought : (p : ProgramForm) → IsValid p → (mode : Mode) (initial : List StructureForm)
    (listed : List (List StructureForm)) (lines : List MessageLine) → IsClosed p mode initial listed lines
    → (start : Heap) (stages : List Stage) → IsRun p mode start stages → IsHeapOfSome initial start
    → (node : ℕ) (h : Heap) → Brings start stages node h → IsListed p listed node h
brought p valid mode initial listed lines closed start stages run begins node h brings =
    brought-covered p mode (IsListed p listed)
    (followed-heap p valid mode initial listed lines closed) 0 start stages run.goes_on
    (record {
      start = run.begins;
      embeds = opened-heap p valid
          (at_node listed 0) initial closed.opened start run.begins begins;
    })
    node h brings

pub closed_listings_cover_runs : ClosedListingsCoverRuns
closed_listings_cover_runs p mode initial listed lines valid closed = record {
  heaps = λ start stages run begins node h brings.
      (brought p valid mode initial listed lines closed start stages run begins node h brings).embeds;
  messages = λ start stages run begins edge taken there number m of none h brings true_there.
      none (line edge taken there number m of h
      (brought p valid mode initial listed lines closed start stages run begins taken.from h brings)
      true_there);
}
  where
    line : (edge : ℕ) (taken : Edge) → slice_get p.edges edge ≡ Some taken → (number : ℕ) (m : MessageForm)
        → IsMessageOf p edge number m → (h : Heap) → IsListed p listed taken.from h → Truth h blank m.cond
        → HasLine lines edge number
    line edge taken there number m (action, its_action, its_message) h is true_there =
        let s : StructureForm = is.embeds.1
        in let followed : IsFollowed p mode edge s (at_node listed taken.to) lines
        = closed.followed edge taken there s (is.embeds.0, is.embeds.2, is.embeds.3)
        in let results : AreResults p mode edge s followed.results.0 = followed.results.1
        in let values : List K3 = map (message_value results.at_hand) results.action.messages
        in let are : AreMessageValues p edge s values
        = record {
          action = results.action;
          its_action = results.its_action;
          at_hand = results.at_hand;
          are_at_hand = results.are_at_hand;
          are = refl;
        }
        in let told : (k : K3) × (slice_get values number ≡ Some k) × (k ≢ No)
        = message-heap p valid edge s values are action its_action number m its_message h is.start is.embeds.4
        true_there
        in followed.messages number told.0 (values, are, told.1) told.2
