use Rattle.std.proofs.Common.{subst, sym, false}
use Rattle.std.specs.Prelude.{Contains}
use Rattle.std.proofs.lemmas.Result.{IfOk-weaker}
use Rattle.tv_model.proofs.Lists.{Contains-none}
use Rattle.tv_coerce_members.specs.Members.{AreSteps}
use Rattle.tv_eval.specs.AssignmentForm.{assignment_of}
use Rattle.tv_eval.specs.Bound.{bound_room}
use Rattle.tv_coerce.specs.Counting.{CountTells, IsAt, IsIdle, Lacks, members_in}
use Rattle.tv_coerce.specs.Walks.{AreMet, AreTriedFor, IsAny}
use Rattle.tv_coerce.proofs.Placing.{kin-variable, none-free, own-kin, test-free}
use Rattle.tv_coerce.proofs.Walking.{can-try-kin, idle-everywhere, met-everywhere, told-so, told-tried}
use Rattle.tv_coerce.proofs.trial.Walk.walk_none.Goals as goal

pub count-requires-clause-can : goal.count-requires-clause-can
count-requires-clause-can c =
    let trial = c.args.trial.now
    in let is = c.requires.ready.trial
    in test-free trial is (bound_room c.args.self.now.evaluator) (can-try-kin trial _ trial.number (own-kin trial
    is) c.requires.ready.rules) 0 false
    c.args.self.now.a c.as_slice.result.now
    (subst (AreSteps (members_in trial) 0 false) (sym c.as_slice.ensures)
    ((is.laid.level c.requires.variables).each 0 c.level_of-level.result.now c.level_of-level.ensures).0)
    (λ k m there left last. none-free trial is c.requires.variables k m there)

pub returns-then-is_no-clause-told : goal.returns-then-is_no-clause-told
returns-then-is_no-clause-told c =
    let trial = c.args.trial.now
    in let is = c.requires.ready.trial
    in let a = assignment_of c.args.self.now.a
    in let ms = members_in trial
    in let tells = c.count.ensures.tells 0 false (subst (AreSteps ms 0 false) (sym c.as_slice.ensures)
    ((is.laid.level c.requires.variables).each 0 c.level_of-level.result.now c.level_of-level.ensures).0)
    in told-tried trial (AreTriedFor trial IsAny) c.args.self.now.noted
    (idle-everywhere trial is a (IsAt 0 false)
    (subst (CountTells (Lacks (IsAt 0 false) trial.structure.now a ms) (IsIdle (IsAt 0 false) trial.structure.now a ms)) c.if-is_no.ensures tells)
    (λ k m there those. none-free trial is c.requires.variables k m there))

pub note-requires-clause-placed : goal.note-requires-clause-placed
note-requires-clause-placed c v free none =
    absurd (Contains-none v (subst (λ xs. Contains xs v) c.requires.variables
    (kin-variable c.args.trial.now c.requires.ready.trial c.args.trial.now.number (own-kin c.args.trial.now c.requires.ready.trial) v free)))

pub returns-clause-told : goal.returns-clause-told
returns-clause-told c =
    let trial = c.args.trial.now
    in let is = c.requires.ready.trial
    in IfOk-weaker c.note.result _ _
    (λ outcome told. told-so trial (AreMet trial (assignment_of c.args.self.now.a)) (AreTriedFor trial IsAny)
    c.args.self.now.noted c.note.new.noted outcome
    (met-everywhere trial is c.requires.variables (assignment_of c.args.self.now.a)) told)
    c.note.ensures.told
