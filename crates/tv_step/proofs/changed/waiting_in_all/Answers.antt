use Rattle.std.proofs.Common.{◌≡◌, arith, length, subst}
use Rattle.std.specs.List.{range_with_len}
use Rattle.tv_eval_laws.proofs.Rounds.{range-push}
use Rattle.tv_rules.specs.EntryForms.{rules_of}
use Rattle.tv_structure_form.specs.StructureForm.{arities_of}
use Rattle.tv_coerce_sets.specs.Unmet.{WaitsAmong}
use Rattle.tv_coerce_sets.proofs.Awaiting.{none-among}
use Rattle.tv_step.proofs.changed.waiting_in_all.Goals as goal

pub loop-number-init : goal.loop-number-init
loop-number-init c = none-among (rules_of c.args.x.now.closed.now) c.args.from.now c.args.s.now

pub with_changed-requires-clause-count : goal.with_changed-requires-clause-count
with_changed-requires-clause-count c = c.loop-number.invariant.count

pub loop-number-preserved : goal.loop-number-preserved
loop-number-preserved c =
    rw (range-push c.loop-number.number)
    (c.in_ok-found.ensures (range_with_len 0 c.loop-number.number) c.loop-number.invariant)

pub returns : goal.returns
returns c =
    let all : c.loop-number.number ≡ length (arities_of c.args.from.now)
    = omega (arith, c.loop-number-test.false, c.loop-number.auto.number-end, c.pred_count-number-end.ensures)
    in subst (λ n. WaitsAmong (range_with_len 0 n) (rules_of c.args.x.now.closed.now) c.args.from.now c.args.s.now
    c.loop-number.found) all c.loop-number.invariant
