-- Each individual so far that is kept is there.
use Rattle.std.proofs.Common.{ℕ, ◌↔◌, List, All, Contains, IsTrue, true, false, subst, get_or}
use Rattle.std.proofs.lemmas.List.{get_or_default}
use Rattle.tv_model.specs.Program.{retain_of}
use Rattle.tv_concrete.specs.Steps.{KeepsIn}
use Rattle.tv_concrete.proofs.Every.{every-more, every-false, every-true}
use Rattle.tv_concrete.proofs.step.has_all_kept.Goals as goal

pub returns-then-not-is_there_if_kept : goal.returns-then-not-is_there_if_kept
returns-then-not-is_there_if_kept c =
    let Is : ℕ → Type 0 = λ u. KeepsIn c.args.step.now (retain_of c.args.retain.now) u
    → Contains c.args.step.now.new.now.individuals u
    in let Of : List ℕ → Type 0 = λ xs. IsTrue false ↔ All Is xs
    in subst Of c.as_slice-u-items.ensures (every-false Is c.as_slice-u-items.result.now c.loop-u.u-index
    (get_or c.as_slice-u-items.result.now c.loop-u.u-index 0) c.loop-u-test.true
    (get_or_default c.as_slice-u-items.result.now c.loop-u.u-index 0
    (get_or c.as_slice-u-items.result.now c.loop-u.u-index 0) c.loop-u-test.true) c.if-not-is_there_if_kept.ensures)

pub loop-u-preserved : goal.loop-u-preserved
loop-u-preserved c =
    every-more (λ u. KeepsIn c.args.step.now (retain_of c.args.retain.now) u
    → Contains c.args.step.now.new.now.individuals u) c.as_slice-u-items.result.now c.loop-u.u-index
    (get_or c.as_slice-u-items.result.now c.loop-u.u-index 0) c.loop-u-test.true
    (get_or_default c.as_slice-u-items.result.now c.loop-u.u-index 0
    (get_or c.as_slice-u-items.result.now c.loop-u.u-index 0) c.loop-u-test.true) c.loop-u.invariant
    c.if-not-is_there_if_kept.ensures

pub returns : goal.returns
returns c =
    let Is : ℕ → Type 0 = λ u. KeepsIn c.args.step.now (retain_of c.args.retain.now) u
    → Contains c.args.step.now.new.now.individuals u
    in let Of : List ℕ → Type 0 = λ xs. IsTrue true ↔ All Is xs
    in subst Of c.as_slice-u-items.ensures
    (every-true Is c.as_slice-u-items.result.now c.loop-u.u-index c.loop-u-test.false c.loop-u.invariant)
