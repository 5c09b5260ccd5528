use Rattle.std.proofs.Common.{◌+◌, ap, sym, ◌∙◌, arith, subst}
use Rattle.std.proofs.lemmas.Result.{err_from_is_err_and}
use Rattle.tv_lex.specs.Front.{front}
use Rattle.tv_lex.proofs.Cut.{CutBefore, cut_more, cut_bounds, cut_refused}
use Rattle.tv_lex.proofs.reader.lex.Goals as goal

pub returns-in_err-found-clause-fault : goal.returns-in_err-found-clause-fault
returns-in_err-found-clause-fault c =
    let p = err_from_is_err_and c.from_residual.result c.from_residual.ensures.1 in
    rw (p.1, p.2) (cut_refused c.args.bytes.now c.loop-at.at c.loop-at.list.items _ c.loop-at.invariant c.loop-at-test.true (ap front (sym c.behind.ensures) ∙ sym c.in_err-found.ensures))

pub push_token-requires : goal.push_token-requires
push_token-requires c =
    let bounds = cut_bounds c.args.bytes.now c.loop-at.at c.in_ok-found.found c.loop-at-test.true (ap front (sym c.behind.ensures) ∙ sym c.in_ok-found.ensures) in
    omega (arith, bounds)

pub overflow_add-at : goal.overflow_add-at
overflow_add-at c =
    let bounds = cut_bounds c.args.bytes.now c.loop-at.at c.in_ok-found.found c.loop-at-test.true (ap front (sym c.behind.ensures) ∙ sym c.in_ok-found.ensures) in
    omega (arith, bounds)

pub loop-at-smaller : goal.loop-at-smaller
loop-at-smaller c =
    let bounds = cut_bounds c.args.bytes.now c.loop-at.at c.in_ok-found.found c.loop-at-test.true (ap front (sym c.behind.ensures) ∙ sym c.in_ok-found.ensures) in
    omega (arith, bounds)

pub loop-at-preserved : goal.loop-at-preserved
loop-at-preserved c =
    let more = cut_more c.args.bytes.now c.loop-at.at c.loop-at.list.items c.in_ok-found.found c.loop-at.invariant c.loop-at-test.true (ap front (sym c.behind.ensures) ∙ sym c.in_ok-found.ensures) in
    subst (CutBefore c.args.bytes.now (c.loop-at.at + c.in_ok-found.found.len)) (sym c.in_ok-push_token.ensures) more
