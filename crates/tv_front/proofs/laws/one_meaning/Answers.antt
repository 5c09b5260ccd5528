use Rattle.tv_front.proofs.OneMeaning.{one_program, unrefused}
use Rattle.tv_front.proofs.laws.one_meaning.Goals as goal

pub returns : goal.returns
returns c = record {
  one = one_program c.one_reading.ensures c.one_tree.ensures;
  unrefused = unrefused c.one_reading.ensures c.one_tree.ensures;
}
