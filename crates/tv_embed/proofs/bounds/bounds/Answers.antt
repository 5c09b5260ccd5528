use Rattle.std.proofs.Common.{◌≡◌, [], get_or, sym, subst, ◌∙◌, arith}
use Rattle.std.proofs.lemmas.List.{get_or_read}
use Rattle.tv_embed.specs.Search.{AreCandidates}
use Rattle.tv_embed.proofs.BoundLaws.{bounds_none, bounds_more}
use Rattle.tv_embed.proofs.bounds.bounds.Goals as goal

pub loop-u-init : goal.loop-u-init
loop-u-init c =
    bounds_none c.args.small.now c.args.large.now c.in_ok-bounds.bounds.items (c.in_ok-bounds.ensures ∙ c.size-2.ensures.size)

pub raise-requires : goal.raise-requires
raise-requires c =
    let read : c.as_slice.result.now ≡ get_or c.args.candidates.now c.loop-u.u []
    = c.as_slice.ensures ∙ get_or_read c.args.candidates.now c.loop-u.u c.index-candidates-u.result c.loop-u-test.true c.index-candidates-u.is []
    in let are : AreCandidates c.args.small.now c.args.large.now c.loop-u.u c.args.large.now.size c.as_slice.result.now
    = subst (AreCandidates c.args.small.now c.args.large.now c.loop-u.u c.args.large.now.size) (sym read)
    (c.requires.each c.loop-u.u (omega (arith, c.loop-u-test.true, c.requires.count)))
    in λ k d lt. omega (arith, are.within k d lt, c.loop-u.invariant.count)

pub loop-u-preserved : goal.loop-u-preserved
loop-u-preserved c =
    let read : c.as_slice.result.now ≡ get_or c.args.candidates.now c.loop-u.u []
    = c.as_slice.ensures ∙ get_or_read c.args.candidates.now c.loop-u.u c.index-candidates-u.result c.loop-u-test.true c.index-candidates-u.is []
    in let are : AreCandidates c.args.small.now c.args.large.now c.loop-u.u c.args.large.now.size c.as_slice.result.now
    = subst (AreCandidates c.args.small.now c.args.large.now c.loop-u.u c.args.large.now.size) (sym read)
    (c.requires.each c.loop-u.u (omega (arith, c.loop-u-test.true, c.requires.count)))
    in bounds_more c.args.small.now c.args.large.now c.loop-u.u c.as_slice.result.now c.loop-u.bounds.items
    c.raise.new.bounds.items are c.raise.ensures.length c.raise.ensures.set c.raise.ensures.kept c.loop-u.invariant
