-- Each part's answer is a part of the whole.
use Rattle.std.proofs.Common.{ℕ, ◌↔◌, List, All, IsTrue, Contains, map, subst}
use Rattle.tv_model.specs.declared.formula.Var.{Var}
use Rattle.tv_model.specs.declared.program.Pred.{Pred}
use Rattle.tv_model.specs.declared.program.Update.{Update}
use Rattle.tv_model.specs.Program.{EachPred, picks_of, pred_of, program_of, retain_of, update_of}
use Rattle.tv_model.specs.Rules.{IsConcrete}
use Rattle.tv_concrete.specs.Lists.{assignment_of, heap_of}
use Rattle.tv_concrete.specs.Steps.{CoreFollows, KeepsIn, StepsBy}
use Rattle.tv_concrete.proofs.Parts.{part-fails, part-holds, result-answer}
use Rattle.tv_concrete.proofs.StepLemmas.{all-kept, exactly-kept, only-kept}
use Rattle.tv_concrete.proofs.step.steps_through.Goals as goal

pub returns-then-not-picks_individuals : goal.returns-then-not-picks_individuals
returns-then-not-picks_individuals c =
    let Is : ℕ → Type 0 = λ v. Contains c.args.step.now.old.now.individuals (assignment_of c.args.step.now.picked v)
    in let Of : List Var → Type 0 = λ picks. IsTrue c.picks_individuals.result ↔ All Is (picks_of picks)
    in part-fails (All Is (picks_of c.args.acting.now.action.now.picks)) (StepsBy c.args.acting.now c.args.step.now)
    c.picks_individuals.result c.if-not-picks_individuals.true
    (subst Of c.as_slice.ensures c.picks_individuals.ensures) (λ s. s.picks_individuals)

pub returns-then-not-has_only_kept : goal.returns-then-not-has_only_kept
returns-then-not-has_only_kept c =
    let Kept : ℕ → Type 0 = KeepsIn c.args.step.now (retain_of c.args.acting.now.action.now.retain)
    in part-fails
    (All (λ u. Contains c.args.step.now.middle.now.individuals u × Kept u) c.args.step.now.new.now.individuals)
    (StepsBy c.args.acting.now c.args.step.now)
    c.has_only_kept.result c.if-not-has_only_kept.true c.has_only_kept.ensures
    (λ s. only-kept c.args.step.now.new.now.individuals c.args.step.now.middle.now.individuals Kept s.keeps)

pub returns-then-not-has_all_kept : goal.returns-then-not-has_all_kept
returns-then-not-has_all_kept c =
    let Kept : ℕ → Type 0 = KeepsIn c.args.step.now (retain_of c.args.acting.now.action.now.retain)
    in part-fails
    (All (λ u. Kept u → Contains c.args.step.now.new.now.individuals u) c.args.step.now.middle.now.individuals)
    (StepsBy c.args.acting.now c.args.step.now)
    c.has_all_kept.result c.if-not-has_all_kept.true c.has_all_kept.ensures
    (λ s. all-kept c.args.step.now.new.now.individuals c.args.step.now.middle.now.individuals Kept s.keeps)

pub returns-then-not-branch : goal.returns-then-not-branch
returns-then-not-branch c =
    let Core : List Pred → List Update → Type 0 = λ preds updates.
    EachPred (map pred_of preds) (CoreFollows c.args.step.now (map update_of updates))
    in let Of : List Pred → Type 0 = λ preds. IsTrue c.in_ok-updates_all.field-0 ↔ Core preds c.as_slice-2.result.now
    in let With : List Update → Type 0 = λ updates. IsTrue c.in_ok-updates_all.field-0
    ↔ Core c.args.acting.now.program.now.vocab.preds updates
    in part-fails (Core c.args.acting.now.program.now.vocab.preds c.args.acting.now.action.now.updates)
    (StepsBy c.args.acting.now c.args.step.now) c.in_ok-updates_all.field-0 c.if-not-branch.true
    (subst With c.as_slice-2.ensures (subst Of c.as_slice-preds.ensures c.in_ok-updates_all.ensures)) (λ s. s.core)

pub returns : goal.returns
returns c =
    let Is : ℕ → Type 0 = λ v. Contains c.args.step.now.old.now.individuals (assignment_of c.args.step.now.picked v)
    in let OfPicks : List Var → Type 0 = λ picks. IsTrue c.picks_individuals.result ↔ All Is (picks_of picks)
    in let Core : List Pred → List Update → Type 0 = λ preds updates.
    EachPred (map pred_of preds) (CoreFollows c.args.step.now (map update_of updates))
    in let Of : List Pred → Type 0 = λ preds. IsTrue c.in_ok-updates_all.field-0 ↔ Core preds c.as_slice-2.result.now
    in let With : List Update → Type 0 = λ updates. IsTrue c.in_ok-updates_all.field-0
    ↔ Core c.args.acting.now.program.now.vocab.preds updates
    in result-answer (IsConcrete (program_of c.args.acting.now.program.now) (heap_of c.args.step.now.new.now))
    (StepsBy c.args.acting.now c.args.step.now)
    (λ concrete. record {
      old_heap = (c.are_heaps.ensures.0 c.if-not-are_heaps.false).0;
      picks_individuals = part-holds (All Is (picks_of c.args.acting.now.action.now.picks)) c.picks_individuals.result
          c.if-not-picks_individuals.false (subst OfPicks c.as_slice.ensures c.picks_individuals.ensures);
      precondition = c.meets_precondition.ensures.0 c.if-not-meets_precondition.false;
      is_middle = c.is_middle.ensures.0 c.if-not-is_middle.false;
      keeps = exactly-kept c.args.step.now.new.now.individuals c.args.step.now.middle.now.individuals
          (KeepsIn c.args.step.now (retain_of c.args.acting.now.action.now.retain))
          (c.has_only_kept.ensures.0 c.if-not-has_only_kept.false)
          (c.has_all_kept.ensures.0 c.if-not-has_all_kept.false);
      core = part-holds (Core c.args.acting.now.program.now.vocab.preds c.args.acting.now.action.now.updates)
          c.in_ok-updates_all.field-0 c.if-not-branch.false
          (subst With c.as_slice-2.ensures (subst Of c.as_slice-preds.ensures c.in_ok-updates_all.ensures));
      new_heap = (c.are_heaps.ensures.0 c.if-not-are_heaps.false).1;
      concrete = concrete;
    })
    (λ s. s.concrete) c.is_concrete.result c.is_concrete.ensures
