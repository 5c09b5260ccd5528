use Rattle.std.proofs.Common.{◌∙◌, ap, map, arith}
use Rattle.tv_lex.specs.Token.{spec_tokens}
use Rattle.tv_source_syntax.specs.Copies.{statement_of}
use Rattle.tv_source_syntax.proofs.Rows.{rows_more, rows_start}
use Rattle.tv_source_syntax.proofs.statements.+statements.Goals as goal

pub statements-statements-preserved : goal.statements-statements-preserved
statements-statements-preserved t c = record {
  same = c.statements.invariant.same
      ∙ rows_more (statement_of c.args.bytes.now) c.statements.items.items c.push.new.self.items c.in_ok-one.one c.statements.left c.in_ok-left.left (spec_tokens c.args.bytes.now c.statements.rest.now) (spec_tokens c.args.bytes.now c.in_ok-one.behind.now) c.in_ok-push.ensures.items c.in_ok-left.ensures.value (cc) c.in_ok-one.ensures;
  less = omega (arith, c.in_ok-left.ensures.less, c.statements.invariant.less);
}

pub statements-statements-init : goal.statements-statements-init
statements-statements-init t c = record {
  same = rows_start (map (statement_of c.args.bytes.now) c.new-items.result.items) c.args.depth (spec_tokens c.args.bytes.now c.args.tokens.now) (ap (map (statement_of c.args.bytes.now)) c.new-items.ensures.items);
  less = omega arith;
}
