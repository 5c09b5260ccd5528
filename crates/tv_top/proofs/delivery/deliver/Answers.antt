use Rattle.std.proofs.Common.{◌≡◌, Ok, refl}
use Rattle.tv_status.specs.declared.status.Status.TheVariants.{Done, Rejected, Stuck}
use Rattle.tv_top.proofs.Duly.{given_out}
use Rattle.tv_top.specs.declared.fault.Answer.TheVariants as answer
use Rattle.tv_top.proofs.delivery.deliver.Goals as goal

pub returns-in-Ok-Done-clause-out : goal.returns-in-Ok-Done-clause-out
returns-in-Ok-Done-clause-out g c =
    let found : c.args.found ≡ Ok (answer.Done c.in-Ok-Done.text) = cc in
    given_out _ (answer.Done c.in-Ok-Done.text) _ Done _ _ _ _ _ _ _ found refl c.deref.ensures.value c.give.ensures.gives

pub returns-in-Ok-Rejected-clause-out : goal.returns-in-Ok-Rejected-clause-out
returns-in-Ok-Rejected-clause-out g c =
    let found : c.args.found ≡ Ok (answer.Rejected c.in-Ok-Rejected.rejection c.in-Ok-Rejected.text) = cc in
    given_out _ (answer.Rejected c.in-Ok-Rejected.rejection c.in-Ok-Rejected.text) _ (Rejected c.in-Ok-Rejected.rejection) _ _ _ _ _ _ _
    found refl c.deref-in-Ok-Rejected.ensures.value c.give-in-Ok-Rejected.ensures.gives

pub returns-in-Ok-Stuck-clause-out : goal.returns-in-Ok-Stuck-clause-out
returns-in-Ok-Stuck-clause-out g c =
    let found : c.args.found ≡ Ok (answer.Stuck c.in-Ok-Stuck.step c.in-Ok-Stuck.why c.in-Ok-Stuck.text) = cc in
    given_out _ (answer.Stuck c.in-Ok-Stuck.step c.in-Ok-Stuck.why c.in-Ok-Stuck.text) _ (Stuck c.in-Ok-Stuck.step c.in-Ok-Stuck.why)
    _ _ _ _ _ _ _ found refl c.deref-in-Ok-Stuck.ensures.value c.give-in-Ok-Stuck.ensures.gives
