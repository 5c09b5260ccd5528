use Rattle.std.proofs.Common.{map, subst, take}
use Rattle.std.proofs.lemmas.List.{take_all}
use Rattle.tv_lemmas.proofs.Lists.{map_next}
use Rattle.tv_rules.specs.EntryForms.{rules_of}
use Rattle.tv_coerce_sets.specs.Unmet.{WaitsAmong}
use Rattle.tv_coerce_sets.proofs.Awaiting.{none-among}
use Rattle.tv_step.proofs.changed.waiting_in_updated.Goals as goal

pub loop-update-init : goal.loop-update-init
loop-update-init c = none-among (rules_of c.args.x.now.closed.now) c.args.from.now c.args.s.now

pub with_changed-requires-clause-count : goal.with_changed-requires-clause-count
with_changed-requires-clause-count c = c.loop-update.invariant.count

pub loop-update-preserved : goal.loop-update-preserved
loop-update-preserved c =
    let updates = c.args.updates.now
    in let i = c.loop-update.update-index
    in rw (map_next (λ w. w.pred.0) updates i c.update-item.result c.loop-update-test.true c.update-item.is)
    (c.in_ok-found.ensures (map (λ w. w.pred.0) (take i updates)) c.loop-update.invariant)

pub returns : goal.returns
returns c =
    subst (λ updates. WaitsAmong (map (λ w. w.pred.0) updates) (rules_of c.args.x.now.closed.now) c.args.from.now
    c.args.s.now c.loop-update.found)
    (take_all c.loop-update.update-index c.args.updates.now c.loop-update-test.false) c.loop-update.invariant
