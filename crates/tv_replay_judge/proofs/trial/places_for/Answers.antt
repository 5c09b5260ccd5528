use Rattle.std.proofs.Common.{sym, subst}
use Rattle.tv_coerce_members.specs.Members.{numbers_of}
use Rattle.tv_eval.specs.AssignmentForm.{assignment_of}
use Rattle.tv_model.specs.Truth.{put}
use Rattle.tv_two_valued.specs.TwoValued.{heap_of}
use Rattle.tv_replay_judge.specs.Trying.{IsRowOf, IsMetFrom, implication_of}
use Rattle.tv_replay_judge.proofs.Passed.{body-places, both-places}
use Rattle.tv_replay_judge.proofs.trial.places_for.Goals as goal

pub returns-then-not-has_yes-clause-row : goal.returns-then-not-has_yes-clause-row
returns-then-not-has_yes-clause-row c =
    body-places c.args.s.now (numbers_of c.args.turn.now.rest.now) (assignment_of c.args.turn.now.a.now)
    c.args.turn.now.v.0 (implication_of c.args.trial.now)
    c.body_row-body.result c.body_row-body.ensures.row

pub returns-clause-row : goal.returns-clause-row
returns-clause-row c =
    let s = c.args.s.now
    in let rest = numbers_of c.args.turn.now.rest.now
    in let a = assignment_of c.args.turn.now.a.now
    in let t = implication_of c.args.trial.now
    in subst (IsRowOf s.size (λ u. IsMetFrom (heap_of s) t rest (put a c.args.turn.now.v.0 u))) (sym c.and.ensures)
    (both-places s rest a c.args.turn.now.v.0 t c.body_row-body.result c.lacking_row-lacking.result
    c.body_row-body.ensures.row
    c.lacking_row-lacking.ensures.row)
