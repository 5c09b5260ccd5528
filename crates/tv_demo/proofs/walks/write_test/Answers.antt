-- write_test
use Rattle.std.proofs.Common.{codes}
use Rattle.tv_demo.specs.Texts.{test_text}
use Rattle.tv_demo.proofs.Turns.{three_parts}
use Rattle.tv_demo.proofs.walks.write_test.Goals as goal

pub returns : goal.returns
unfolding test_text
returns c =
    three_parts c.extend_from_slice.result _ _ _ (codes "\n") c.args.out.now.items _ _ _ _
    c.in_ok-write_numbered.ensures c.in_ok-write_numbered-2.ensures c.in_ok-write_numbered-3.ensures c.extend_from_slice.ensures.items
