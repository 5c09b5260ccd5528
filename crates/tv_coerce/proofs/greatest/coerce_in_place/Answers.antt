-- The beginning and the end.
use Rattle.std.proofs.Common.{None, Some, refl}
use Rattle.tv_rules.specs.EntryForms.{rules_of}
use Rattle.tv_coerce.proofs.Heaps.{coercing_loses_no_heap}
use Rattle.tv_coerce.proofs.Once.{again}
use Rattle.tv_coerce.proofs.OnTheWay.{way-begins, end-found, end-none}
use Rattle.tv_coerce.proofs.greatest.coerce_in_place.Goals as goal

pub settle-requires-clause-begun : goal.settle-requires-clause-begun
settle-requires-clause-begun c =
    way-begins (rules_of c.args.closed.now) c.args.waiting c.args.s c.requires.count c.size.ensures.kept c.requires.rest

pub returns-then-branch-clause-heaps : goal.returns-then-branch-clause-heaps
returns-then-branch-clause-heaps c =
    coercing_loses_no_heap (rules_of c.args.closed.now) c.args.s (Some c.settle.new.t) c.requires.ready.plain
    (end-found (rules_of c.args.closed.now) c.args.s c.args.s c.settle.new.t c.in_ok-settle.field-0
    c.in_ok-settle.ensures.settled refl c.if-branch.true)

pub returns-then-branch-clause-again : goal.returns-then-branch-clause-again
returns-then-branch-clause-again c stable =
    again (rules_of c.args.closed.now) c.args.s stable c.size.ensures.kept (Some c.settle.new.t)
    (end-found (rules_of c.args.closed.now) c.args.s c.args.s c.settle.new.t c.in_ok-settle.field-0
    c.in_ok-settle.ensures.settled refl c.if-branch.true)

pub returns-else-branch-clause-exact : goal.returns-else-branch-clause-exact
returns-else-branch-clause-exact c =
    end-none (rules_of c.args.closed.now) c.args.s c.args.s c.settle.new.t c.in_ok-settle.field-0
    c.in_ok-settle.ensures.settled refl c.if-branch.false

pub returns-else-branch-clause-heaps : goal.returns-else-branch-clause-heaps
returns-else-branch-clause-heaps c =
    coercing_loses_no_heap (rules_of c.args.closed.now) c.args.s None c.requires.ready.plain
    (end-none (rules_of c.args.closed.now) c.args.s c.args.s c.settle.new.t c.in_ok-settle.field-0
    c.in_ok-settle.ensures.settled refl c.if-branch.false)

pub returns-else-branch-clause-again : goal.returns-else-branch-clause-again
returns-else-branch-clause-again c stable =
    again (rules_of c.args.closed.now) c.args.s stable c.size.ensures.kept None
    (end-none (rules_of c.args.closed.now) c.args.s c.args.s c.settle.new.t c.in_ok-settle.field-0
    c.in_ok-settle.ensures.settled refl c.if-branch.false)
