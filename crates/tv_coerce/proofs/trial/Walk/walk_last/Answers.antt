use Rattle.std.proofs.Common.{◌≡◌, ◌*◌, ◌-◌, ◌∙◌, [], ◌∷◌, ◌++◌, length, ap, min, subst, sym, true, false}
use Rattle.std.proofs.Common.{Some}
use Rattle.std.specs.Prelude.{Contains, slice_get}
use Rattle.std.proofs.lemmas.List.{length-map}
use Rattle.std.proofs.lemmas.Result.{IfOk-weaker}
use Rattle.tv_kleene.specs.declared.K3.TheVariants.{No}
use Rattle.tv_model.specs.declared.formula.Var.{Var}
use Rattle.tv_coerce_members.specs.Members.{AreSteps, numbers_of}
use Rattle.tv_eval.specs.AssignmentForm.{assignment_of}
use Rattle.tv_eval.specs.Bound.{bound_room}
use Rattle.tv_coerce.specs.Counting.{CountTells, IsAt, IsIdle, Lacks, members_in}
use Rattle.tv_coerce.specs.Walks.{AreTriedFor, GoesOnIn, IsInChunk}
use Rattle.tv_coerce.proofs.Placing.{kin-variable, level-last, own-kin, read-last}
use Rattle.tv_coerce.proofs.Walking.{all-word, can-try-kin, first-tried, none-left, start-first, told-so}
use Rattle.tv_coerce.proofs.Walking.{told-tried}
use Rattle.tv_coerce.proofs.trial.Walk.walk_last.Goals as goal

pub counted_alone-tail-requires-clause-can : goal.counted_alone-tail-requires-clause-can
counted_alone-tail-requires-clause-can c =
    let trial = c.args.trial.now
    in let is = c.requires.ready.trial
    in let before = numbers_of c.args.before.now
    in let found = subst (λ n. slice_get trial.shape.now.levels n ≡ Some c.level_of-level.result.now)
    (sym (length-map c.args.before.now (λ (x : Var). x.0))) c.level_of-level.ensures
    in let steps = subst (AreSteps (members_in trial) (length before) true) (sym c.as_slice-steps.ensures)
    (level-last trial is before ([], c.requires.begun.variables) c.level_of-level.result.now found)
    in read-last trial is (bound_room c.args.self.now.evaluator) (can-try-kin trial _ trial.number (own-kin trial
    is) c.requires.ready.rules) before c.args.self.now.a
    c.as_slice-steps.result.now ([], c.requires.begun.variables)
    (λ x free none. absurd (none (subst (λ xs. Contains xs x) c.requires.begun.variables (kin-variable trial is trial.number (own-kin trial is) x free)))) steps

pub counted_alone-tail-requires-clause-along : goal.counted_alone-tail-requires-clause-along
counted_alone-tail-requires-clause-along c = record {
  structure = c.requires.ready.structure;
  chunk = c.requires.chunk;
  long = (all-word c.args.trial.now.structure.now.size c.args.trial.now.chunk c.places.result c.args.own c.of-all.result
      (c.places.ensures.value ∙ ap (λ n. min 64 (n - 64 * c.args.trial.now.chunk)) c.size.ensures.size) c.requires.chunk c.of-all.ensures).long;
}

pub walk-requires-clause-walk : goal.walk-requires-clause-walk
walk-requires-clause-walk c =
    let trial = c.args.trial.now
    in let is = c.requires.ready.trial
    in let ms = members_in trial
    in let a = assignment_of c.args.self.now.a
    in let before = numbers_of c.args.before.now
    in let found = subst (λ n. slice_get trial.shape.now.levels n ≡ Some c.level_of-level.result.now)
    (sym (length-map c.args.before.now (λ (x : Var). x.0))) c.level_of-level.ensures
    in let steps = subst (AreSteps ms (length before) true) (sym c.as_slice-steps.ensures)
    (level-last trial is before ([], c.requires.begun.variables) c.level_of-level.result.now found)
    in let all = all-word trial.structure.now.size trial.chunk c.places.result c.args.own c.of-all.result
    (c.places.ensures.value ∙ ap (λ n. min 64 (n - 64 * trial.chunk)) c.size.ensures.size) c.requires.chunk c.of-all.ensures
    in start-first trial is before c.args.self.now.a c.args.own c.of-all.result c.counted_alone-tail.result
    c.requires.begun.variables c.requires.chunk
    c.requires.narrowed c.requires.begun.some
    (λ e. subst (CountTells (Lacks (IsAt (length before) false) trial.structure.now a ms) (IsIdle (IsAt (length before) false) trial.structure.now a ms)) e
    c.requires.begun.own)
    all (c.counted_alone-tail.ensures.counted (length before) true steps)

pub returns-then-is_no-clause-told : goal.returns-then-is_no-clause-told
returns-then-is_no-clause-told c =
    let trial = c.args.trial.now
    in let is = c.requires.ready.trial
    in let ms = members_in trial
    in let a = assignment_of c.args.self.now.a
    in let before = numbers_of c.args.before.now
    in let found = subst (λ n. slice_get trial.shape.now.levels n ≡ Some c.level_of-level.result.now)
    (sym (length-map c.args.before.now (λ (x : Var). x.0))) c.level_of-level.ensures
    in let steps = subst (AreSteps ms (length before) true) (sym c.as_slice-steps.ensures)
    (level-last trial is before ([], c.requires.begun.variables) c.level_of-level.result.now found)
    in let all = all-word trial.structure.now.size trial.chunk c.places.result c.args.own c.of-all.result
    (c.places.ensures.value ∙ ap (λ n. min 64 (n - 64 * trial.chunk)) c.size.ensures.size) c.requires.chunk c.of-all.ensures
    in let start = start-first trial is before c.args.self.now.a c.args.own c.of-all.result
    c.counted_alone-tail.result c.requires.begun.variables c.requires.chunk
    c.requires.narrowed c.requires.begun.some
    (λ e. subst (CountTells (Lacks (IsAt (length before) false) trial.structure.now a ms) (IsIdle (IsAt (length before) false) trial.structure.now a ms)) e
    c.requires.begun.own)
    all (c.counted_alone-tail.ensures.counted (length before) true steps)
    in told-tried trial (AreTriedFor trial (IsInChunk trial.last.0 trial.chunk)) c.args.self.now.noted
    (first-tried trial before a c.requires.begun.variables
    (none-left trial is before c.args.self.now.a c.counted_alone-tail.result start
    (subst (λ x. x ≡ No) c.greatest.ensures c.if-is_no.ensures)))

pub returns-clause-told : goal.returns-clause-told
returns-clause-told c =
    let trial = c.args.trial.now
    in let a = assignment_of c.args.self.now.a
    in let before = numbers_of c.args.before.now
    in IfOk-weaker c.walk.result _ _
    (λ outcome told. told-so trial (AreTriedFor trial (GoesOnIn trial (before ++ trial.last.0 ∷ []) a))
    (AreTriedFor trial (IsInChunk trial.last.0 trial.chunk)) c.args.self.now.noted c.walk.new.self.noted outcome
    (first-tried trial before a c.requires.begun.variables) told)
    c.walk.ensures.told
