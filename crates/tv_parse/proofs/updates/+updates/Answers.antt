use Rattle.std.proofs.Common.{◌∙◌, ap, map, arith}
use Rattle.tv_lex.specs.Token.{spec_tokens}
use Rattle.tv_tree.specs.Copies.{update_of}
use Rattle.tv_parse.specs.Kinds.{begins_update}
use Rattle.tv_parse.specs.Reading.{update_reading}
use Rattle.tv_parse.proofs.Lists.{rows_more, rows_start}
use Rattle.tv_parse.proofs.updates.+updates.Goals as goal

pub updates_at-updates-preserved : goal.updates_at-updates-preserved
updates_at-updates-preserved t c = record {
  same = c.updates.invariant.same
      ∙ rows_more update_of c.updates.items.items c.push.new.self.items c.in_ok-update.update begins_update update_reading c.updates.left c.in_ok-left.left (spec_tokens c.args.bytes.now c.updates.rest.now) (spec_tokens c.args.bytes.now c.in_ok-update.behind.now) c.in_ok-push.ensures.items c.in_ok-left.ensures.value (cc) c.in_ok-update.ensures;
  less = omega (arith, c.in_ok-left.ensures.less, c.updates.invariant.less);
}

pub updates_at-updates-init : goal.updates_at-updates-init
updates_at-updates-init t c = record {
  same = rows_start (map update_of c.new-items.result.items) begins_update update_reading c.args.depth (spec_tokens c.args.bytes.now c.args.tokens.now) (ap (map update_of) c.new-items.ensures.items);
  less = omega arith;
}
