use Rattle.std.proofs.Common.{All, subst, sym}
use Rattle.std.proofs.lemmas.List.Elements.{All-nil}
use Rattle.tv_delta.specs.Lowest.{IsSight, IsWaiting}
use Rattle.tv_delta.proofs.LowestLaws.{all_pushed}
use Rattle.tv_delta.proofs.lowest.work_out_atom.Goals as goal

pub finish-requires-clause-stack : goal.finish-requires-clause-stack
finish-requires-clause-stack c =
    let seen = subst (IsSight c.args.o.now c.pred_count.result) c.in-Opened.is c.in_ok-formed.ensures
    in all_pushed c.args.o.now c.new-stack.result.items c.push.new.self.items c.in-Opened.w
    c.in_ok-push-in-Opened.ensures.items
    (subst (All (IsWaiting c.args.o.now)) (sym c.new-stack.ensures.items) (All-nil (IsWaiting c.args.o.now))) seen.0
