use Rattle.std.proofs.Common.{map}
use Rattle.std.proofs.lemmas.Result.{err_from_is_err_and}
use Rattle.tv_tree.specs.Copies.{pred_of as decl_of}
use Rattle.tv_model.specs.Program.{pred_of}
use Rattle.tv_names.specs.Refusal.{each}
use Rattle.tv_names.specs.Copies.{symbols_of}
use Rattle.tv_vocab.specs.Vocabulary.{predicate}
use Rattle.tv_vocab.proofs.Eaches.{each_more, each_stopped}
use Rattle.tv_vocab.proofs.vocabulary.predicates.Goals as goal

pub returns-in_err-predicate : goal.returns-in_err-predicate
returns-in_err-predicate c =
    let p = err_from_is_err_and c.from_residual.result c.from_residual.ensures.1 in
    let known = symbols_of c.args.symbols.now in
    rw (p.1, p.2)
    (each_stopped (predicate known) decl_of pred_of (each (predicate known) (map decl_of c.args.decls.now)) c.loop-decl.preds.items c.loop-decl.decl-index c.args.decls.now c.decl-item.result c.in_err-predicate.field-0.0 c.loop-decl.invariant c.loop-decl-test.true c.decl-item.is c.in_err-predicate.ensures)

pub loop-decl-preserved : goal.loop-decl-preserved
loop-decl-preserved c =
    let known = symbols_of c.args.symbols.now in
    rw c.in_ok-push.ensures.items
    (each_more (predicate known) decl_of pred_of (each (predicate known) (map decl_of c.args.decls.now)) c.loop-decl.preds.items c.loop-decl.decl-index c.args.decls.now c.decl-item.result c.in_ok-predicate.field-0 c.loop-decl.invariant c.loop-decl-test.true c.decl-item.is c.in_ok-predicate.ensures)
