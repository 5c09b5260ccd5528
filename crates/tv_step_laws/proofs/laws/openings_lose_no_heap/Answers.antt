use Rattle.tv_step_laws.proofs.Heaps.{opening-heap}
use Rattle.tv_step_laws.proofs.laws.openings_lose_no_heap.Goals as goal

pub returns : goal.returns
returns c = λ p valid s. record {
  some = λ h is. (opening-heap p valid h is.start s is.embeds).0;
  kept = λ t opening h is. ((opening-heap p valid h is.start s is.embeds).1 t opening).1;
}
