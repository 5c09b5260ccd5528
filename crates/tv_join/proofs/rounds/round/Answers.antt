use Rattle.std.proofs.Common.{ap}
use Rattle.std.proofs.lemmas.Result.{err_from_is_err_and}
use Rattle.tv_join.specs.State.{JoinsForm}
use Rattle.tv_join.specs.Stepped.{GatheredForm}
use Rattle.tv_work.specs.Task.{task_of}
use Rattle.tv_join.proofs.Rounding.{follow-cause, on-cause, placed-found, round-on, taken-cause}
use Rattle.tv_join.proofs.Rounding.{taken-followed, taken-in, taken-kept, taken-nodes}
use Rattle.tv_join.proofs.rounds.round.Goals as goal

pub follow_all-requires-clause-kept : goal.follow_all-requires-clause-kept
follow_all-requires-clause-kept c =
    taken-kept (task_of c.args.x.now.task) c.args.joins.now c.take_changed-changed.new.self
    c.take_changed-changed.result
    c.take_changed-changed.ensures.taken c.take_changed-changed.ensures.left c.requires.at.at.kept

pub follow_all-requires-clause-places : goal.follow_all-requires-clause-places
follow_all-requires-clause-places c =
    taken-in (task_of c.args.x.now.task) c.args.joins.now c.take_changed-changed.new.self
    c.take_changed-changed.result
    c.take_changed-changed.ensures.taken c.take_changed-changed.ensures.left c.requires.at.at.kept

pub meet_all-requires-clause-kept : goal.meet_all-requires-clause-kept
meet_all-requires-clause-kept c =
    taken-kept (task_of c.args.x.now.task) c.args.joins.now c.take_changed-changed.new.self
    c.take_changed-changed.result
    c.take_changed-changed.ensures.taken c.take_changed-changed.ensures.left c.requires.at.at.kept

pub meet_all-requires-clause-none : goal.meet_all-requires-clause-none
meet_all-requires-clause-none c = ap (λ (j : JoinsForm). j.changed) c.take_changed-changed.ensures.left

pub meet_all-requires-clause-placed : goal.meet_all-requires-clause-placed
meet_all-requires-clause-placed c =
    placed-found (task_of c.args.x.now.task) c.in_ok-found.found.items
    (λ x has. (c.in_ok-found.ensures.followed.only x has).1)

pub returns-in_err-found-clause-cause : goal.returns-in_err-found-clause-cause
returns-in_err-found-clause-cause c =
    let t = task_of c.args.x.now.task
    in let p = err_from_is_err_and c.from_residual.result c.from_residual.ensures.1
    in rw (p.1, p.2)
    (follow-cause t c.requires.at.round c.args.joins.now c.requires.at.at c.in_err-found.field-0.0
    (taken-cause t c.args.joins.now c.take_changed-changed.new.self c.take_changed-changed.result
    c.take_changed-changed.ensures.taken c.take_changed-changed.ensures.left c.in_err-found.field-0.0
    c.in_err-found.ensures.cause))

pub returns-in_err-meet_all-clause-cause : goal.returns-in_err-meet_all-clause-cause
returns-in_err-meet_all-clause-cause c =
    let t = task_of c.args.x.now.task
    in let old = c.args.joins.now
    in let middle = c.take_changed-changed.new.self
    in let places = c.take_changed-changed.result
    in let g : GatheredForm = record { found = c.in_ok-found.found.items; values = c.follow_all.new.values }
    in let p = err_from_is_err_and c.from_residual-in_err-meet_all.result c.from_residual-in_err-meet_all.ensures.1
    in rw (p.1, p.2)
    (on-cause t c.requires.ready.0.valid old middle c.meet_all.new.self c.in_ok-found.found.items c.args.values.now
    c.follow_all.new.values c.requires.at
    (taken-followed t old middle places c.take_changed-changed.ensures.taken c.take_changed-changed.ensures.left g
    c.args.values.now c.in_ok-found.ensures.followed)
    (taken-nodes t old middle places c.take_changed-changed.ensures.taken c.take_changed-changed.ensures.left)
    c.in_err-meet_all.field-0.0 c.in_err-meet_all.ensures.cause)

pub returns-clause-on : goal.returns-clause-on
returns-clause-on c =
    let t = task_of c.args.x.now.task
    in let old = c.args.joins.now
    in let middle = c.take_changed-changed.new.self
    in let places = c.take_changed-changed.result
    in let g : GatheredForm = record { found = c.in_ok-found.found.items; values = c.follow_all.new.values }
    in round-on t c.requires.ready.0.valid c.requires.at.round old middle c.meet_all.new.self c.in_ok-found.found.items
    c.args.values.now c.follow_all.new.values c.requires.at.at c.requires.at.followed
    (taken-followed t old middle places c.take_changed-changed.ensures.taken c.take_changed-changed.ensures.left g
    c.args.values.now c.in_ok-found.ensures.followed)
    (taken-nodes t old middle places c.take_changed-changed.ensures.taken c.take_changed-changed.ensures.left)
    c.in_ok-meet_all.ensures.met c.in_ok-meet_all.ensures.within
