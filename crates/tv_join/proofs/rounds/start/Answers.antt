use Rattle.std.proofs.Common.{ap}
use Rattle.std.proofs.lemmas.Result.{err_from_is_err_and}
use Rattle.tv_join.specs.State.{JoinsForm}
use Rattle.tv_work.specs.Task.{task_of}
use Rattle.tv_join.proofs.Rounding.{first-round, nothing-kept, placed-found, start-cause, starts-placed}
use Rattle.tv_join.proofs.rounds.start.Goals as goal

pub meet_all-requires-clause-kept : goal.meet_all-requires-clause-kept
meet_all-requires-clause-kept c =
    nothing-kept (task_of c.args.x.now.task) c.len.result c.in_ok-joins.joins c.len.ensures c.in_ok-joins.ensures

pub meet_all-requires-clause-none : goal.meet_all-requires-clause-none
meet_all-requires-clause-none c = ap (λ (j : JoinsForm). j.changed) c.in_ok-joins.ensures

pub meet_all-requires-clause-placed : goal.meet_all-requires-clause-placed
meet_all-requires-clause-placed c =
    placed-found (task_of c.args.x.now.task) c.in_ok-found.found.items
    (starts-placed (task_of c.args.x.now.task) c.requires.ready.0.valid c.in_ok-found.found.items
    c.in_ok-found.ensures.found)

pub returns-in_err-meet_all-clause-cause : goal.returns-in_err-meet_all-clause-cause
returns-in_err-meet_all-clause-cause c =
    let p = err_from_is_err_and c.from_residual-in_err-meet_all.result c.from_residual-in_err-meet_all.ensures.1
    in rw (p.1, p.2)
    (start-cause (task_of c.args.x.now.task) c.requires.ready.0.valid c.len.result c.in_ok-joins.joins
    c.meet_all.new.self
    c.in_ok-found.found.items c.in_ok-joins.ensures c.in_ok-found.ensures.found c.in_err-meet_all.field-0.0
    c.in_err-meet_all.ensures.cause)

pub returns-clause-at : goal.returns-clause-at
returns-clause-at c = λ values.
    first-round (task_of c.args.x.now.task) c.requires.ready.0.valid c.len.result c.in_ok-joins.joins
    c.meet_all.new.self
    c.in_ok-found.found.items c.in_ok-joins.ensures c.in_ok-found.ensures.found c.in_ok-meet_all.ensures.met
    c.in_ok-meet_all.ensures.within values
