-- Each individual so far is kept.
use Rattle.std.proofs.Common.{Contains, get_or}
use Rattle.std.proofs.lemmas.List.{get_or_default}
use Rattle.tv_model.specs.Program.{retain_of}
use Rattle.tv_concrete.specs.Steps.{KeepsIn}
use Rattle.tv_concrete.proofs.Every.{every-more, every-false, every-true}
use Rattle.tv_concrete.proofs.step.has_only_kept.Goals as goal

pub returns-then-not-is_kept : goal.returns-then-not-is_kept
returns-then-not-is_kept c =
    rw (← c.as_slice-u-items.ensures) (every-false
    (λ u. Contains c.args.step.now.middle.now.individuals u
    × KeepsIn c.args.step.now (retain_of c.args.retain.now) u) c.as_slice-u-items.result.now c.loop-u.u-index
    (get_or c.as_slice-u-items.result.now c.loop-u.u-index 0) c.loop-u-test.true
    (get_or_default c.as_slice-u-items.result.now c.loop-u.u-index 0
    (get_or c.as_slice-u-items.result.now c.loop-u.u-index 0) c.loop-u-test.true) c.if-not-is_kept.ensures)

pub loop-u-preserved : goal.loop-u-preserved
loop-u-preserved c =
    every-more (λ u. Contains c.args.step.now.middle.now.individuals u
    × KeepsIn c.args.step.now (retain_of c.args.retain.now) u) c.as_slice-u-items.result.now c.loop-u.u-index
    (get_or c.as_slice-u-items.result.now c.loop-u.u-index 0) c.loop-u-test.true
    (get_or_default c.as_slice-u-items.result.now c.loop-u.u-index 0
    (get_or c.as_slice-u-items.result.now c.loop-u.u-index 0) c.loop-u-test.true) c.loop-u.invariant
    c.if-not-is_kept.ensures

pub returns : goal.returns
returns c =
    rw (← c.as_slice-u-items.ensures) (every-true
    (λ u. Contains c.args.step.now.middle.now.individuals u
    × KeepsIn c.args.step.now (retain_of c.args.retain.now) u) c.as_slice-u-items.result.now c.loop-u.u-index
    c.loop-u-test.false c.loop-u.invariant)
