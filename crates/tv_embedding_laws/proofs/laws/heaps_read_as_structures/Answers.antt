use Rattle.tv_embedding_laws.proofs.EmbeddingLaws.{reads_heap}
use Rattle.tv_embedding_laws.proofs.laws.heaps_read_as_structures.Goals as goal

pub returns : goal.returns
returns c = reads_heap
