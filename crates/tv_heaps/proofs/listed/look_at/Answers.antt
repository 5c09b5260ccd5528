use Rattle.std.proofs.Common.{refl, subst, sym}
use Rattle.tv_heaps.specs.Judging.{IsReadyBook}
use Rattle.tv_heaps.specs.Listed.{NarrowsTo, wish_of}
use Rattle.tv_heaps.proofs.ListedLaws.{same_ahead, split_narrowed}
use Rattle.tv_heaps.proofs.listed.look_at.Goals as goal

pub sort_in-requires-clause-ready : goal.sort_in-requires-clause-ready
sort_in-requires-clause-ready c =
    subst (IsReadyBook c.args.book.now) (sym c.narrowed.ensures.scratch) c.requires.ready

pub sort_in-requires-clause-waiting : goal.sort_in-requires-clause-waiting
sort_in-requires-clause-waiting c =
    (subst (NarrowsTo (wish_of c.args.book.now c.args.wanted.now) c.args.w.now) c.in-Some.is
    c.in_ok-narrowed.ensures.narrowed).0

pub returns-in-None-clause-split : goal.returns-in-None-clause-split
returns-in-None-clause-split c =
    let x = wish_of c.args.book.now c.args.wanted.now
    in same_ahead x c.args.w.now c.args.listed.now c.args.listed.now c.requires.under_way refl refl
    (subst (NarrowsTo x c.args.w.now) c.in-None.is c.in_ok-narrowed.ensures.narrowed)

pub returns-in_ok-sort_in-in-Some-clause-split : goal.returns-in_ok-sort_in-in-Some-clause-split
returns-in_ok-sort_in-in-Some-clause-split c =
    let x = wish_of c.args.book.now c.args.wanted.now
    in split_narrowed x c.args.w.now c.in-Some.t c.args.listed.now _
    (subst (NarrowsTo x c.args.w.now) c.in-Some.is c.in_ok-narrowed.ensures.narrowed)
    c.in_ok-sort_in-in-Some.ensures.split
