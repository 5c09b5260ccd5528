use Rattle.std.proofs.Common.{Ok, sym, ap, ◌∙◌, arith}
use Rattle.tv_source.specs.Copies.{stmt_of}
use Rattle.tv_source.proofs.Unfolds.{block_of_items}
use Rattle.tv_source_syntax.specs.Copies.{statement_of}
use Rattle.tv_source_names.specs.Scopes.{variables_of, fields_of}
use Rattle.tv_source_names.proofs.Blocks.{block_more, block_done}
use Rattle.tv_source_names.proofs.number.+blocks.Goals as goal

pub block-loop-one-preserved : goal.block-loop-one-preserved
block-loop-one-preserved t c =
    c.loop-one.invariant
    ∙ block_more (variables_of c.args.scope.now) (fields_of c.args.scope.now) (statement_of c.args.scope.now.bytes.now) stmt_of c.deref-one-items.result.now
    c.loop-one.one-index c.one-item.result c.loop-one-test.true c.one-item.is c.loop-one.items.items c.push.new.self.items c.in_ok-made.made c.in_ok-push.ensures.items c.in_ok-made.ensures

pub block-returns : goal.block-returns
block-returns t c =
    c.loop-one.invariant
    ∙ block_done (variables_of c.args.scope.now) (fields_of c.args.scope.now) (statement_of c.args.scope.now.bytes.now) stmt_of c.deref-one-items.result.now
    c.loop-one.items.items c.loop-one.one-index (omega (arith, c.loop-one-test.false))
    ∙ ap Ok (sym (block_of_items _))
