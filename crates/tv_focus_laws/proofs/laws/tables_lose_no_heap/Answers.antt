use Rattle.tv_focus_laws.proofs.Tables.{tables_lose_no_heap}
use Rattle.tv_focus_laws.proofs.laws.tables_lose_no_heap.Goals as goal

pub returns : goal.returns
returns c = tables_lose_no_heap
