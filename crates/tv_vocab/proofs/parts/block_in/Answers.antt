use Rattle.std.proofs.Common.{map, ap, sym, ◌∙◌}
use Rattle.tv_tree.specs.Copies.{update_of}
use Rattle.tv_vocab.proofs.Texts.{block_here}
use Rattle.tv_vocab.proofs.parts.block_in.Goals as goal

pub returns-in-Block : goal.returns-in-Block
returns-in-Block c =
    ap (map update_of) c.as_slice.ensures.value
    ∙ sym (c.loop-part.invariant ∙ block_here c.args.parts.now c.loop-part.part-index c.part-item.result c.in-Block.updates c.loop-part-test.true c.part-item.is c.in-Block.is)
