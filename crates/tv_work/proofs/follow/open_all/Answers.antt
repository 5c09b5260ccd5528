use Rattle.std.proofs.Common.{subst, All, take}
use Rattle.std.proofs.lemmas.List.{take_all}
use Rattle.std.proofs.lemmas.List.Elements.{All-more, All-weaker}
use Rattle.tv_work.specs.Explored.{IsOpenedIn}
use Rattle.tv_work.specs.Task.{task_of}
use Rattle.tv_work.proofs.Advancing.{opened-kept}
use Rattle.tv_work.proofs.Growing.{grows-on}
use Rattle.tv_work.proofs.follow.open_all.Goals as goal

pub loop-s-preserved : goal.loop-s-preserved
loop-s-preserved c =
    let t = task_of c.args.x.now
    in let xs = c.args.x.now.initial.now
    in let Opened = IsOpenedIn t c.open.new.search.listing
    in let before : All Opened (take c.loop-s.s-index xs)
    = All-weaker (IsOpenedIn t c.loop-s.search.listing) Opened
    (opened-kept t c.loop-s.search.listing c.open.new.search.listing c.in_ok-open.ensures.grows.kept)
    (take c.loop-s.s-index xs)
    c.loop-s.invariant.opened
    in record {
      kept = c.in_ok-open.ensures.kept;
      grows = grows-on c.args.search.now c.loop-s.search c.open.new.search c.loop-s.invariant.grows
          c.in_ok-open.ensures.grows;
      opened = All-more Opened xs c.loop-s.s-index c.s-item.result c.loop-s-test.true before
          (subst Opened c.s-item.is c.in_ok-open.ensures.opened);
      same = cc;
    }

pub returns-clause-opened : goal.returns-clause-opened
returns-clause-opened c =
    subst (All (IsOpenedIn (task_of c.args.x.now) c.loop-s.search.listing))
    (take_all c.loop-s.s-index c.args.x.now.initial.now c.loop-s-test.false) c.loop-s.invariant.opened
