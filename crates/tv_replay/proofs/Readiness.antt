-- What judging asks for.
use Rattle.std.proofs.Common.{ℕ, ◌≡◌, ◌<◌, List, [], length, sym, subst, ◌∙◌, All}
use Rattle.std.specs.Prelude.{◌^◌}
use Rattle.std.proofs.lemmas.List.Elements.{All-contains, All-get_or}
use Rattle.tv_eval.specs.ScratchForm.{ScratchForm}
use Rattle.tv_replay_judge.specs.Ready.{IsReadyToEvaluate}
use Rattle.tv_listing.specs.ListingForm.{at_node}
use Rattle.tv_model.specs.Program.{PredForm, pred_of}
use Rattle.tv_model.proofs.Lists.{map-compose, slice_get-contains}
use Rattle.tv_model.specs.Valid.{IsEdge}
use Rattle.tv_replay_laws.specs.States.{standing}
use Rattle.tv_replay_laws.specs.declared.state.State.{State}
use Rattle.tv_replay_step.specs.Stepped.{IsMoved}
use Rattle.tv_replay_step.specs.declared.moved.Moved.{Moved}
use Rattle.tv_trace.specs.declared.trace.Move.{Move}
use Rattle.tv_structure_form.specs.StructureForm.{StructureForm, IsStructure, IsOver, arities_of}
use Rattle.tv_replay.specs.Judging.{CanJudge, IsHeapAt, IsStateAt, program_in}
use Rattle.tv_replay.specs.declared.states.Judge.{Judge}

module _ (judge : Judge) (scratch : ScratchForm) (can : CanJudge judge scratch) (node : ℕ) (s : StructureForm) (at : IsHeapAt judge node s) where
  pub ready : IsReadyToEvaluate (program_in judge) s scratch
  ready = record {
    valid = can.valid;
    structure = at.structure;
    two_valued = at.two_valued;
    arities = at.over ∙ sym (map-compose pred_of (λ (d : PredForm). d.arity) judge.program.now.vocab.preds);
    room = can.made;
  }

  pub node-listed : node < length judge.listing.now
  node-listed = subst (λ n. node < n) (sym can.listing.nodes) at.there

  pub over-listed : All (λ t. arities_of s ≡ arities_of t) (at_node judge.listing.now node)
  over-listed k d lt =
      at.over ∙ sym (All-get_or (All (λ t. IsStructure t × IsOver judge.program.now.vocab t)) judge.listing.now node [] node-listed can.listing.structures k d lt).1

  pub few-listed : length (at_node judge.listing.now node) < 2 ^ 32
  few-listed = All-get_or (λ (ts : List StructureForm). length ts < 2 ^ 32) judge.listing.now node [] node-listed can.listing.counts

-- structures over the program's predicates
pub over-each : (judge : Judge) (s : StructureForm) → IsOver judge.program.now.vocab s → (ts : List StructureForm)
    → All (λ t. IsStructure t × IsOver judge.program.now.vocab t) ts → All (λ t. arities_of s ≡ arities_of t) ts
over-each judge s over ts all k d lt = over ∙ sym (all k d lt).1

-- where a step leads is a heap at a node again
pub moved-at : (judge : Judge) (scratch : ScratchForm) → CanJudge judge scratch → (move : Move) (before : State) → IsStateAt judge before
    → (m : Moved) → IsMoved (program_in judge) move (standing before) m → IsHeapAt judge m.node m.heap
moved-at judge scratch can move before at m made = record {
  there = subst (λ n. n < length judge.program.now.nodes) (sym made.moves.node)
      (All-contains (IsEdge (program_in judge)) (program_in judge).edges made.moves.taken.edge can.valid.edges
      (slice_get-contains (program_in judge).edges move.edge made.moves.taken.edge made.moves.taken.its_edge)).1;
  structure = made.moves.next.structure;
  over = made.moves.next.over ∙ at.over;
  two_valued = made.moves.next.two_valued;
  unmarked = made.moves.unmarked;
}
