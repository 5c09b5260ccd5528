use Rattle.std.proofs.Common.{[]}
use Rattle.tv_embed.proofs.MapLaws.{HeapsStay-embedding}
use Rattle.tv_embed.proofs.SearchLaws.{none_embedded, none_nullary, searched_case, searched_none}
use Rattle.tv_embed.proofs.least.find.Goals as goal

pub returns-then-not-tuple_fits-clause-none : goal.returns-then-not-tuple_fits-clause-none
returns-then-not-tuple_fits-clause-none c =
    none_embedded c.args.small.now c.args.large.now
    (none_nullary c.args.small.now c.args.large.now (λ fits. absurd (cc (c.tuple_fits.ensures.1 fits))))

pub returns-then-not-may_reach_all-clause-none : goal.returns-then-not-may_reach_all-clause-none
returns-then-not-may_reach_all-clause-none c =
    none_embedded c.args.small.now c.args.large.now c.if-not-may_reach_all.ensures

pub returns-then-branch-clause-heaps : goal.returns-then-branch-clause-heaps
returns-then-branch-clause-heaps c =
    HeapsStay-embedding c.args.small.now c.args.large.now c.search.new.images.items
    (searched_case c.args.small.now c.args.large.now c.in_ok-images.images.items c.in_ok-images.images.items c.in_ok-search.field-0
    c.search.new.images.items c.in_ok-search.ensures c.if-branch.true).embeds

pub returns-clause-none : goal.returns-clause-none
returns-clause-none c =
    none_embedded c.args.small.now c.args.large.now
    (searched_none c.args.small.now c.args.large.now [] [] c.in_ok-search.field-0 c.search.new.images.items
    (rw c.in_ok-images.ensures.items at c.in_ok-search.ensures) c.if-branch.false).0

pub returns-in_default-clause-none : goal.returns-in_default-clause-none
returns-in_default-clause-none c = none_embedded c.args.small.now c.args.large.now (rw c.in_default.is at c.in_ok-candidates.ensures.none)
