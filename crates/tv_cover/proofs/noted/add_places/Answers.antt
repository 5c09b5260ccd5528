use Rattle.tv_cover.proofs.NotedLaws.{added-none, added-more, added-all}
use Rattle.tv_cover.proofs.noted.add_places.Goals as goal

pub loop-noting-init : goal.loop-noting-init
loop-noting-init c = record {
  kept = λ place has. has;
  added = added-none c.args.notings.now c.args.slots c.args.found.now.items;
}

pub loop-noting-preserved : goal.loop-noting-preserved
loop-noting-preserved c = record {
  kept = λ place has. c.in_ok-add_place.ensures.kept place (c.loop-noting.invariant.kept place has);
  added = added-more c.args.notings.now c.args.slots c.loop-noting.noting-index c.noting-item.result c.loop-noting.found.items
      c.add_place.new.found.items c.noting-item.is c.in_ok-add_place.ensures.kept c.in_ok-add_place.ensures.added
      c.loop-noting.invariant.added;
}

pub returns-clause-added : goal.returns-clause-added
returns-clause-added c =
    added-all c.args.notings.now c.args.slots c.loop-noting.noting-index c.loop-noting.found.items c.loop-noting-test.false
    c.loop-noting.invariant.added
