use Rattle.std.proofs.Common.{◌∙◌, ap, map, arith}
use Rattle.tv_lex.specs.Token.{spec_tokens}
use Rattle.tv_tree.specs.Copies.{decl_of}
use Rattle.tv_parse.specs.Kinds.{begins_decl}
use Rattle.tv_parse.specs.Reading.{decl_reading}
use Rattle.tv_parse.proofs.Lists.{rows_more, rows_start}
use Rattle.tv_parse.proofs.decls.+decls.Goals as goal

pub decls_at-decls-preserved : goal.decls_at-decls-preserved
decls_at-decls-preserved t c = record {
  same = c.decls.invariant.same
      ∙ rows_more decl_of c.decls.items.items c.push.new.self.items c.in_ok-decl.decl begins_decl decl_reading c.decls.left c.in_ok-left.left (spec_tokens c.args.bytes.now c.decls.rest.now) (spec_tokens c.args.bytes.now c.in_ok-decl.behind.now) c.in_ok-push.ensures.items c.in_ok-left.ensures.value (cc) c.in_ok-decl.ensures;
  less = omega (arith, c.in_ok-left.ensures.less, c.decls.invariant.less);
}

pub decls_at-decls-init : goal.decls_at-decls-init
decls_at-decls-init t c = record {
  same = rows_start (map decl_of c.new-items.result.items) begins_decl decl_reading c.args.depth (spec_tokens c.args.bytes.now c.args.tokens.now) (ap (map decl_of) c.new-items.ensures.items);
  less = omega arith;
}
