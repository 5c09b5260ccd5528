use Rattle.std.proofs.Common.{length, arith, subst, sym, false}
use Rattle.std.proofs.lemmas.List.{length-map}
use Rattle.tv_model.specs.declared.formula.Var.{Var}
use Rattle.tv_coerce_members.specs.Members.{AreSteps, numbers_of}
use Rattle.tv_eval.specs.AssignmentForm.{assignment_of}
use Rattle.tv_eval.specs.Bound.{bound_room}
use Rattle.tv_coerce.specs.Counting.{CountTells, IsAt, IsIdle, Lacks, members_in}
use Rattle.tv_coerce.specs.Walks.{AreTriedFor, IsAny}
use Rattle.tv_coerce.proofs.Placing.{own-kin, own-none, test-free}
use Rattle.tv_coerce.proofs.Walking.{can-try-kin, idle-everywhere}
use Rattle.tv_coerce.proofs.Walking.{told-tried}
use Rattle.tv_coerce.proofs.trial.Walk.walk_some.Goals as goal

pub count-own-requires-clause-can : goal.count-own-requires-clause-can
count-own-requires-clause-can c =
    let trial = c.args.trial.now
    in let is = c.requires.ready.trial
    in let before = numbers_of c.args.before.now
    in let left = length c.args.before.now
    in test-free trial is (bound_room c.args.self.now.evaluator) (can-try-kin trial _ trial.number (own-kin trial
    is) c.requires.ready.rules) left false
    c.args.self.now.a c.as_slice.result.now
    (subst (AreSteps (members_in trial) left false) (sym c.as_slice.ensures)
    ((is.laid.levels before c.args.trial.now.last.0 c.requires.variables).each left c.level_of-level.result.now c.level_of-level.ensures).0)
    (λ k m there at-left apart. own-none trial is before c.args.trial.now.last.0 c.requires.variables k m there
    (omega (arith, at-left, length-map c.args.before.now (λ (x : Var). x.0))) apart)

pub returns-then-is_no-clause-told : goal.returns-then-is_no-clause-told
returns-then-is_no-clause-told c =
    let trial = c.args.trial.now
    in let is = c.requires.ready.trial
    in let ms = members_in trial
    in let a = assignment_of c.args.self.now.a
    in let before = numbers_of c.args.before.now
    in let left = length c.args.before.now
    in let tells = c.count-own.ensures.tells left false (subst (AreSteps ms left false) (sym c.as_slice.ensures)
    ((is.laid.levels before c.args.trial.now.last.0 c.requires.variables).each left c.level_of-level.result.now c.level_of-level.ensures).0)
    in told-tried trial (AreTriedFor trial IsAny) c.args.self.now.noted
    (idle-everywhere trial is a (IsAt left false)
    (subst (CountTells (Lacks (IsAt left false) trial.structure.now a ms) (IsIdle (IsAt left false) trial.structure.now a ms)) c.if-is_no.ensures tells)
    (λ k m there those. own-none trial is before c.args.trial.now.last.0 c.requires.variables k m there
    (omega (arith, those.0, length-map c.args.before.now (λ (x : Var). x.0))) those.1))

-- the members without variables count the same
pub walk_chunks-requires-clause-begun : goal.walk_chunks-requires-clause-begun
walk_chunks-requires-clause-begun c =
    let trial = c.args.trial.now
    in let is = c.requires.ready.trial
    in let ms = members_in trial
    in let left = length c.args.before.now
    in let same = length-map c.args.before.now (λ (x : Var). x.0)
    in let tells = c.count-own.ensures.tells left false (subst (AreSteps ms left false) (sym c.as_slice.ensures)
    ((is.laid.levels (numbers_of c.args.before.now) c.args.trial.now.last.0 c.requires.variables).each left c.level_of-level.result.now c.level_of-level.ensures).0)
    in record {
      variables = c.requires.variables;
      own = subst (λ n. CountTells (Lacks (IsAt n false) trial.structure.now (assignment_of c.args.self.now.a) ms)
          (IsIdle (IsAt n false) trial.structure.now (assignment_of c.args.self.now.a) ms) c.count-own.result) (sym
          same) tells;
      some = c.if-is_no.ensures;
    }

pub walk_narrowed-requires-clause-begun : goal.walk_narrowed-requires-clause-begun
walk_narrowed-requires-clause-begun c =
    let trial = c.args.trial.now
    in let is = c.requires.ready.trial
    in let ms = members_in trial
    in let left = length c.args.before.now
    in let same = length-map c.args.before.now (λ (x : Var). x.0)
    in let tells = c.count-own.ensures.tells left false (subst (AreSteps ms left false) (sym c.as_slice.ensures)
    ((is.laid.levels (numbers_of c.args.before.now) c.args.trial.now.last.0 c.requires.variables).each left c.level_of-level.result.now c.level_of-level.ensures).0)
    in record {
      variables = c.requires.variables;
      own = subst (λ n. CountTells (Lacks (IsAt n false) trial.structure.now (assignment_of c.args.self.now.a) ms)
          (IsIdle (IsAt n false) trial.structure.now (assignment_of c.args.self.now.a) ms) c.count-own.result) (sym
          same) tells;
      some = c.if-is_no.ensures;
    }
