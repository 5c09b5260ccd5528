use Rattle.tv_step_laws.proofs.Heaps.{any_heap, message-heap, result-heap}
use Rattle.tv_step_laws.proofs.laws.steps_lose_no_heap.Goals as goal

pub returns : goal.returns
returns c = λ p valid mode edge s. record {
  steps = λ results are taken there old new is step.
      any_heap p new results
      (result-heap p valid mode edge taken there s results are old new is.start step is.embeds);
  messages = λ values are number m of h is true_there.
      message-heap p valid edge s values are of.0 of.1 number m of.2 h is.start is.embeds true_there;
}
