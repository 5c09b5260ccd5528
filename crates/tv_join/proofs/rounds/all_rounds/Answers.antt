use Rattle.std.proofs.Common.{◌≡◌, ◌≢◌, [], ◌∙◌, MatchBool, ap, length, subst}
use Rattle.std.proofs.lemmas.List.{length-replicate}
use Rattle.tv_model.specs.Program.{program_of}
use Rattle.tv_join.specs.State.{IsAbsorbed}
use Rattle.tv_work.specs.Task.{task_of}
use Rattle.tv_join.proofs.Rounding.{last-round, none-changed, on-rises}
use Rattle.tv_join.proofs.rounds.all_rounds.Goals as goal

pub loop-stepper-init : goal.loop-stepper-init
loop-stepper-init c = record {
  at = c.in_ok-joins.ensures.at c.in_ok-values.values;
  edges = ap length c.in_ok-values.ensures ∙ length-replicate c.len.result [] ∙ c.len.ensures;
  same = cc;
}

pub loop-stepper-preserved : goal.loop-stepper-preserved
loop-stepper-preserved c = record {
  at = c.in_ok-round.ensures.on.at;
  edges = c.in_ok-round.ensures.edges;
  same = cc;
}

pub loop-stepper-smaller : goal.loop-stepper-smaller
loop-stepper-smaller c =
    on-rises (task_of c.args.x.now.task) c.loop-stepper.joins c.round.new.joins c.round.new.values
    c.in_ok-round.ensures.on
    (subst (λ b. MatchBool b (c.loop-stepper.joins.changed ≢ []) (c.loop-stepper.joins.changed ≡ []))
    c.loop-stepper-test.true c.has_changed.ensures)

pub tell_all-requires : goal.tell_all-requires
tell_all-requires c = record {
  followed = (
    c.requires.ready.0.valid,
    c.loop-stepper.invariant.at.at.kept,
    c.loop-stepper.invariant.edges,
    none-changed (task_of c.args.x.now.task) c.loop-stepper.joins
        (IsAbsorbed (program_of c.args.x.now.task.program.now) c.loop-stepper.joins.nodes) c.loop-stepper.values
        c.loop-stepper.invariant.at.followed
        (subst (λ b. MatchBool b (c.loop-stepper.joins.changed ≢ []) (c.loop-stepper.joins.changed ≡ []))
        c.loop-stepper-test.false c.has_changed.ensures),
  );
}

pub returns-clause-last : goal.returns-clause-last
returns-clause-last c =
    last-round (task_of c.args.x.now.task) c.requires.ready.0.valid c.loop-stepper.invariant.at.round
    c.loop-stepper.joins c.loop-stepper.values
    c.loop-stepper.invariant.at.at
    (none-changed (task_of c.args.x.now.task) c.loop-stepper.joins
    (IsAbsorbed (program_of c.args.x.now.task.program.now) c.loop-stepper.joins.nodes) c.loop-stepper.values
    c.loop-stepper.invariant.at.followed
    (subst (λ b. MatchBool b (c.loop-stepper.joins.changed ≢ []) (c.loop-stepper.joins.changed ≡ []))
    c.loop-stepper-test.false c.has_changed.ensures))
    c.in_ok-told.told c.in_ok-told.ensures
