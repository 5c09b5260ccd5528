use Rattle.std.proofs.Common.{◌≡◌, ◌==◌, true, length, refl, sym, ◌∙◌, arith}
use Rattle.std.proofs.lemmas.Bool.{eqb-true}
use Rattle.tv_embed.proofs.AllowedLaws.{none_to_go_to}
use Rattle.tv_embed.proofs.CandidateLaws.{all_more}
use Rattle.tv_embed.proofs.candidates.all_candidates.Goals as goal

pub loop-u-preserved : goal.loop-u-preserved
loop-u-preserved c =
    rw (c.in_ok-push.ensures.items)
    (all_more c.args.small.now c.args.large.now c.loop-u.u c.loop-u.lists.items c.in_ok-list.list c.loop-u.invariant
    c.in_ok-list.ensures)

pub returns-then-is_empty-clause-none : goal.returns-then-is_empty-clause-none
returns-then-is_empty-clause-none c =
    none_to_go_to c.args.small.now c.args.large.now c.loop-u.u c.in_ok-list.list
    (let end : c.args.small.now.size ≡ c.args.small.now.size = refl in omega (arith, c.loop-u-test.true, c.size-size.ensures.size))
    c.in_ok-list.ensures
    (let is : (length c.as_slice.result.now == 0) ≡ true = sym c.is_empty.ensures ∙ c.if-is_empty.true
    in let same : c.as_slice.result.now ≡ c.in_ok-list.list = c.as_slice.ensures
    in rw (← same) (eqb-true _ _ is))
