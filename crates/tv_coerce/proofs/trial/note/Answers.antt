-- What one assignment tells.
use Rattle.std.proofs.Common.{subst}
use Rattle.std.proofs.lemmas.Result.{IfOk-weaker}
use Rattle.tv_eval.specs.AssignmentForm.{assignment_of}
use Rattle.tv_coerce.specs.Counting.{members_in}
use Rattle.tv_coerce.specs.Lacking.{IsLacking}
use Rattle.tv_coerce.proofs.Noting.{can-value, kin-placed, none-denies, several-met, told-all, told-one}
use Rattle.tv_coerce.proofs.Walking.{told-tried}
use Rattle.tv_coerce.proofs.trial.note.Goals as goal

pub lacking-requires-clause-can : goal.lacking-requires-clause-can
lacking-requires-clause-can c = can-value c.args.trial.now c.requires.ready.trial _ c.args.a.now c.requires.ready.rules c.requires.placed

pub note_head-requires-in-Some-clause-placed : goal.note_head-requires-in-Some-clause-placed
note_head-requires-in-Some-clause-placed c =
    kin-placed c.args.trial.now c.requires.ready.trial c.args.a.now c.in-Some.number c.in-Some.ensures.0 c.requires.placed

pub returns-in-Nothing-clause-told : goal.returns-in-Nothing-clause-told
returns-in-Nothing-clause-told c =
    let trial = c.args.trial.now
    in let found = subst (IsLacking trial.structure.now (assignment_of c.args.a.now) (members_in trial)) c.in-Nothing.is c.lacking.ensures.lacking
    in IfOk-weaker c.note_head.result _ _
    (λ outcome noted. told-all trial c.requires.ready.trial c.args.a.now _ c.requires.ready.rules c.requires.placed found c.args.noted.now
    c.note_head.new.noted outcome noted)
    c.note_head.ensures.noted

pub returns-in-None-clause-told : goal.returns-in-None-clause-told
returns-in-None-clause-told c =
    let trial = c.args.trial.now
    in let found = subst (IsLacking trial.structure.now (assignment_of c.args.a.now) (members_in trial)) c.in-Member.is c.lacking.ensures.lacking
    in told-tried trial _ c.args.noted.now
    (none-denies trial c.requires.ready.trial c.args.a.now _ c.requires.ready.rules c.requires.placed c.in-Member.member found c.in-None.ensures)

pub returns-in-Some-clause-told : goal.returns-in-Some-clause-told
returns-in-Some-clause-told c =
    let trial = c.args.trial.now
    in let found = subst (IsLacking trial.structure.now (assignment_of c.args.a.now) (members_in trial)) c.in-Member.is c.lacking.ensures.lacking
    in IfOk-weaker c.note_head-in-Some.result _ _
    (λ outcome noted. told-one trial c.requires.ready.trial c.args.a.now _ c.requires.ready.rules c.requires.placed c.in-Member.member found
    c.in-Some.number c.in-Some.ensures.0 c.in-Some.ensures.1 c.args.noted.now c.note_head-in-Some.new.noted outcome noted)
    c.note_head-in-Some.ensures.noted

pub returns-in-Several-clause-told : goal.returns-in-Several-clause-told
returns-in-Several-clause-told c =
    let trial = c.args.trial.now
    in let found = subst (IsLacking trial.structure.now (assignment_of c.args.a.now) (members_in trial)) c.in-Several.is c.lacking.ensures.lacking
    in told-tried trial _ c.args.noted.now
    (several-met trial c.requires.ready.trial c.args.a.now _ c.requires.ready.rules c.requires.placed found)
