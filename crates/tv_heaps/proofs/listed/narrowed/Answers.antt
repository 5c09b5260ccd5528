use Rattle.std.proofs.Common.{subst, sym}
use Rattle.tv_coerce.specs.Ready.{CanCoerce}
use Rattle.tv_rules.specs.EntryForms.{rules_of}
use Rattle.tv_heaps.specs.Listed.{wish_of}
use Rattle.tv_heaps.proofs.ListedLaws.{narrows, over_vocab}
use Rattle.tv_heaps.proofs.listed.narrowed.Goals as goal

pub coerce-requires : goal.coerce-requires
coerce-requires c =
    subst (λ rules. CanCoerce rules c.args.w.now c.args.scratch.now) (sym c.requires.ready.closed)
    (c.closed_rules_can_be_tried.ensures c.args.book.now.program.now c.args.w.now c.args.scratch.now
    c.requires.ready.valid (over_vocab c.args.book.now c.args.w.now c.requires.waiting.over) c.size.ensures.kept
    c.requires.ready.room)

pub returns-clause-narrowed : goal.returns-clause-narrowed
returns-clause-narrowed c =
    narrows (wish_of c.args.book.now c.args.wanted.now) (rules_of c.args.book.now.closed.now) c.requires.ready.closed
    c.requires.ready.valid c.args.w.now c.requires.waiting c.in_ok-found.found c.in_ok-found.ensures.exact
    c.in_ok-found.ensures.heaps
