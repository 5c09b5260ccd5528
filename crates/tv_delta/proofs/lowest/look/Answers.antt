use Rattle.std.proofs.Common.{◌<◌, refl, subst, arith, ◌-◌}
use Rattle.tv_delta.specs.Lowest.{IsSight}
use Rattle.tv_delta.proofs.LowestLaws.{all_pushed, weighs_inside}
use Rattle.tv_delta.proofs.lowest.look.Goals as goal

pub returns-then-room-eq0-clause-stack : goal.returns-then-room-eq0-clause-stack
returns-then-room-eq0-clause-stack c =
    all_pushed c.args.o.now c.args.stack.now.items c.push.new.self.items c.args.w c.in_ok-push.ensures.items
    c.requires.stack c.requires.waiting

pub returns-in-Known-clause-stack : goal.returns-in-Known-clause-stack
returns-in-Known-clause-stack c =
    all_pushed c.args.o.now c.args.stack.now.items c.push.new.self.items c.args.w c.in_ok-push.ensures.items
    c.requires.stack c.requires.waiting

pub returns-in_ok-push-in-Opened-clause-stack : goal.returns-in_ok-push-in-Opened-clause-stack
returns-in_ok-push-in-Opened-clause-stack c =
    let seen = subst (IsSight c.args.o.now (c.args.w.room - 1)) c.in-Opened.is c.in_ok-formed.ensures
    in all_pushed c.args.o.now c.push.new.self.items c.push-in-Opened.new.self.items c.in-Opened.next
    c.in_ok-push-in-Opened.ensures.items
    (all_pushed c.args.o.now c.args.stack.now.items c.push.new.self.items c.args.w c.in_ok-push.ensures.items
    c.requires.stack c.requires.waiting)
    seen.0

pub returns-in_ok-push-in-Opened-clause-weight : goal.returns-in_ok-push-in-Opened-clause-weight
returns-in_ok-push-in-Opened-clause-weight c =
    let seen = subst (IsSight c.args.o.now (c.args.w.room - 1)) c.in-Opened.is c.in_ok-formed.ensures
    in let some : 0 < c.args.w.room = omega (arith, c.if-room-eq0.false)
    in weighs_inside c.args.o.now c.args.stack.now.items c.push.new.self.items c.push-in-Opened.new.self.items c.args.w
    c.in-Opened.next c.args.w.room c.in_ok-push.ensures.items c.in_ok-push-in-Opened.ensures.items seen.0 seen.1 refl some
