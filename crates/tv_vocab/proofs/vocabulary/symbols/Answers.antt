use Rattle.std.proofs.Common.{map}
use Rattle.std.proofs.lemmas.Result.{err_from_is_err_and}
use Rattle.tv_tree.specs.Copies.{pred_of as decl_of}
use Rattle.tv_names.specs.Copies.{symbols_of}
use Rattle.tv_names.proofs.Loops.{go_on, stopped}
use Rattle.tv_vocab.specs.Vocabulary.{symbols, with_symbol}
use Rattle.tv_vocab.proofs.vocabulary.symbols.Goals as goal

pub returns-in_err-declare_symbol : goal.returns-in_err-declare_symbol
returns-in_err-declare_symbol c =
    let p = err_from_is_err_and c.from_residual.result c.from_residual.ensures.1 in
    rw (p.1, p.2)
    (stopped with_symbol decl_of (symbols (map decl_of c.args.decls.now)) (symbols_of c.loop-decl.seen) c.loop-decl.decl-index c.args.decls.now c.decl-item.result c.in_err-declare_symbol.field-0.0 c.loop-decl.invariant c.loop-decl-test.true c.decl-item.is c.in_err-declare_symbol.ensures)

pub loop-decl-preserved : goal.loop-decl-preserved
loop-decl-preserved c =
    go_on with_symbol decl_of (symbols (map decl_of c.args.decls.now)) (symbols_of c.loop-decl.seen) (symbols_of c.declare_symbol.new.seen) c.loop-decl.decl-index c.args.decls.now c.decl-item.result c.loop-decl.invariant c.loop-decl-test.true c.decl-item.is c.in_ok-declare_symbol.ensures
