use Rattle.std.proofs.Common.{◌++◌, map, subst, sym, take}
use Rattle.std.proofs.lemmas.List.{append-nil, take_all}
use Rattle.tv_rules.specs.EntryForms.{rules_of}
use Rattle.tv_coerce_sets.specs.Unmet.{WaitsAmong}
use Rattle.tv_step.proofs.Differing.{preds-next}
use Rattle.tv_step.proofs.changed.waiting_in_some.Goals as goal

pub loop-p-init : goal.loop-p-init
loop-p-init c =
    subst (λ preds. WaitsAmong preds (rules_of c.args.x.now.closed.now) c.args.from.now c.args.s.now
    c.in_ok-found.found)
    (sym (append-nil (map (λ w. w.pred.0) c.args.updates.now))) c.in_ok-found.ensures

pub with_changed-requires-clause-count : goal.with_changed-requires-clause-count
with_changed-requires-clause-count c = c.loop-p.invariant.count

pub loop-p-preserved : goal.loop-p-preserved
loop-p-preserved c =
    let preds = c.args.preds.now
    in let i = c.loop-p.p-index
    in let updated = map (λ w. w.pred.0) c.args.updates.now
    in subst (λ qs. WaitsAmong qs (rules_of c.args.x.now.closed.now) c.args.from.now c.args.s.now
    c.in_ok-found-2.found) (preds-next updated preds i _ c.loop-p-test.true)
    (c.in_ok-found-2.ensures (updated ++ map (λ p. p.0) (take i preds)) c.loop-p.invariant)

pub returns : goal.returns
returns c =
    subst (λ preds. WaitsAmong (map (λ w. w.pred.0) c.args.updates.now ++ map (λ p. p.0) preds)
    (rules_of c.args.x.now.closed.now) c.args.from.now c.args.s.now c.loop-p.found)
    (take_all c.loop-p.p-index c.args.preds.now c.loop-p-test.false) c.loop-p.invariant
