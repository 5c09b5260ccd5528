use Rattle.std.proofs.Common.{refl}
use Rattle.tv_heaps.specs.Listed.{wish_of}
use Rattle.tv_heaps.specs.declared.listed.Listed.{Listed}
use Rattle.tv_heaps.proofs.ListedLaws.{IsPopped, popped_ahead, popped_under_way}
use Rattle.tv_heaps.proofs.listed.look_at_all.Goals as goal

pub look_at-requires-clause-under_way : goal.look_at-requires-clause-under_way
look_at-requires-clause-under_way c =
    let rest : Listed = record { waiting = c.pop.new.self; found = c.loop.listed.found }
    in popped_under_way (wish_of c.args.book.now c.args.wanted.now) c.loop.listed rest c.in-Some.w
    (record { waiting = c.in-Some.ensures.items; found = refl }) c.loop.invariant.under_way

pub loop-preserved : goal.loop-preserved
loop-preserved c =
    let x = wish_of c.args.book.now c.args.wanted.now
    in let rest : Listed = record { waiting = c.pop.new.self; found = c.loop.listed.found }
    in let popped : IsPopped c.loop.listed rest c.in-Some.w
    = record { waiting = c.in-Some.ensures.items; found = refl }
    in record {
      under_way = c.in_ok-look_at.ensures.split.under_way;
      ahead = λ h wanted before.
          popped_ahead x c.loop.listed rest c.look_at.new.listed c.in-Some.w popped
          c.in_ok-look_at.ensures.split h wanted
          (c.loop.invariant.ahead h wanted before);
      scratch = cc;
    }
