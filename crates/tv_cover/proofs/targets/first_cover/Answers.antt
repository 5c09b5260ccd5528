use Rattle.std.proofs.Common.{refl, sym, subst}
use Rattle.std.specs.Prelude.{IfSome, slice_index_or}
use Rattle.std.specs.List.Sorted.{IsNonDecreasing}
use Rattle.tv_cover.specs.Listed.{structures_in}
use Rattle.tv_cover.specs.Covers.{IsCoverAt, HasCoversAmong}
use Rattle.tv_cover.proofs.CoverLaws.{from_none, tried-none, tried-more, tried-first, tried-all}
use Rattle.tv_cover.proofs.targets.first_cover.Goals as goal

pub loop-place-init : goal.loop-place-init
loop-place-init c = tried-none (structures_in c.args.x.now) c.args.s.now c.as_slice-place-items.result.now

pub returns-in-Some-clause-some : goal.returns-in-Some-clause-some
returns-in-Some-clause-some c =
    let targets = structures_in c.args.x.now
    in let places = c.as_slice-place-items.result.now
    in let place = slice_index_or places c.loop-place.place-index 0
    in tried-first targets c.args.s.now places c.loop-place.place-index place c.in-Some.map
    (subst (HasCoversAmong targets c.args.s.now) (sym c.as_slice-place-items.ensures.value) c.in_ok-places.ensures.each)
    (subst IsNonDecreasing (sym c.as_slice-place-items.ensures.value) c.in_ok-places.ensures.order)
    c.loop-place.invariant c.loop-place-test.true refl
    (subst (λ o. IfSome o (IsCoverAt targets c.args.s.now place)) c.in-Some.is c.in_ok-map.ensures.some)

pub loop-place-preserved : goal.loop-place-preserved
loop-place-preserved c =
    tried-more (structures_in c.args.x.now) c.args.s.now c.as_slice-place-items.result.now c.loop-place.place-index
    (slice_index_or c.as_slice-place-items.result.now c.loop-place.place-index 0) refl
    (from_none c.in_ok-map.field-0 c.in_ok-map.ensures.none c.in_default.not-Some)
    c.loop-place.invariant

pub returns-clause-none : goal.returns-clause-none
returns-clause-none c =
    let targets = structures_in c.args.x.now
    in tried-all targets c.args.s.now c.as_slice-place-items.result.now c.loop-place.place-index
    (subst (HasCoversAmong targets c.args.s.now) (sym c.as_slice-place-items.ensures.value) c.in_ok-places.ensures.each)
    c.loop-place-test.false c.loop-place.invariant
