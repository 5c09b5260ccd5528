use Rattle.std.proofs.Common.{List, OnOk, subst, sym}
use Rattle.tv_kleene.specs.declared.K3.{K3}
use Rattle.tv_work.specs.Told.{IsNoted}
use Rattle.tv_join.proofs.Greatest.{nothing-noted}
use Rattle.tv_join.proofs.telling.tell.Goals as goal

pub returns-in-None-clause-noted : goal.returns-in-None-clause-noted
returns-in-None-clause-noted c =
    subst (λ (values : List K3). IsNoted c.args.edge values c.args.told.now c.args.told.now) (sym c.in-None.ensures.none)
    (nothing-noted c.args.edge c.args.told.now)

pub returns-in-Some-clause-noted : goal.returns-in-Some-clause-noted
returns-in-Some-clause-noted c =
    subst (λ (values : List K3). OnOk c.note.result (IsNoted c.args.edge values c.args.told.now c.note.new.self))
    c.in-Some.ensures.some c.note.ensures.noted
