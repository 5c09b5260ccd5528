use Rattle.std.proofs.lemmas.Result.{err_from_is_err_and}
use Rattle.tv_flat.specs.FlatForm.{flat_of}
use Rattle.tv_front.proofs.Stages.{flat_form_given, resolution_refused, tree_read}
use Rattle.tv_tree.specs.Copies.{program_of as tree_of}
use Rattle.tv_front.proofs.Understanding.{understood}
use Rattle.tv_front.specs.declared.understood.Understood.{Understood}
use Rattle.tv_front.proofs.understood.understand.Goals as goal

pub returns-in_err-program-clause-cause : goal.returns-in_err-program-clause-cause
returns-in_err-program-clause-cause c =
    let text = c.args.bytes.now in
    let tree = tree_of c.in_ok-tree.tree in
    let flat = flat_of c.in_ok-flat.flat in
    let has = tree_read text c.in_ok-tokens.tokens.list.items tree c.in_ok-tokens.ensures.tokens
    c.in_ok-tree.ensures.low c.in_ok-tree.ensures.tree in
    let given = flat_form_given text tree flat has c.in_ok-flat.ensures.exact in
    let p = err_from_is_err_and c.from_residual-in_err-program.result c.from_residual-in_err-program.ensures.1 in
    rw (p.1, p.2) (resolution_refused text flat c.in_err-program.field-0.0 given c.in_err-program.ensures.program)

pub returns-clause-means : goal.returns-clause-means
returns-clause-means c =
    let read : Understood = record {
      tokens = c.in_ok-tokens.tokens;
      tree = c.in_ok-tree.tree;
      program = c.in_ok-program.program;
    } in
    understood c.args.bytes.now read (flat_of c.in_ok-flat.flat) c.in_ok-tokens.ensures.tokens
    c.in_ok-tree.ensures.low c.in_ok-tree.ensures.tree c.in_ok-flat.ensures.exact c.in_ok-program.ensures.program

pub returns-clause-valid : goal.returns-clause-valid
returns-clause-valid c =
    c.in_ok-program.ensures.valid
    (c.flat_forms_are_resolvable.ensures _ (c.in_ok-flat.ensures.flat c.in_ok-tree.ensures.spelled))
