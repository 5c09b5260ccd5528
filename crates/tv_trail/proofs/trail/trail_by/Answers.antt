use Rattle.std.proofs.Common.{subst, List}
use Rattle.std.specs.Prelude.{IfOk, IfErr, IfSome, IfNone}
use Rattle.std.proofs.lemmas.Result.{IfOk-weaker}
use Rattle.tv_model.specs.Program.{program_of}
use Rattle.tv_structure_form.specs.StructureForm.{StructureForm}
use Rattle.tv_work.specs.Analyzed.{IsWorkCause}
use Rattle.tv_work.specs.Reach.{Point, IsReached}
use Rattle.tv_work.specs.Task.{TaskForm}
use Rattle.tv_trail_laws.specs.Trails.{IsShortest, IsGoal}
use Rattle.tv_trail.specs.Searched.{AnswersTrail}
use Rattle.tv_trail.specs.Reasons.{StaysWithin}
use Rattle.tv_trail.proofs.Answering.{shortest-some, goal-ends, goal-none}
use Rattle.tv_trail.proofs.trail.trail_by.Goals as goal

pub returns-clause-some : goal.returns-clause-some
returns-clause-some c =
    let p = program_of c.args.x.now.program.now
    in let G : Point → Type 0 = IsGoal p c.args.goal.now
    in let initial = c.as_slice.result.now
    in let t : TaskForm = record { program = p; mode = c.args.x.now.mode; initial = initial; max = c.args.x.now.max }
    in subst (λ (ss : List StructureForm). IfOk c.search_for.result (λ found. IfSome found (IsShortest p
    c.args.x.now.mode ss G))) c.as_slice.ensures
    (IfOk-weaker c.search_for.result (AnswersTrail t G) (λ found. IfSome found (IsShortest p c.args.x.now.mode
    initial G)) (shortest-some t G) c.search_for.ensures.answer)

pub returns-clause-none : goal.returns-clause-none
returns-clause-none c =
    let p = program_of c.args.x.now.program.now
    in let G : Point → Type 0 = IsGoal p c.args.goal.now
    in let initial = c.as_slice.result.now
    in let t : TaskForm = record { program = p; mode = c.args.x.now.mode; initial = initial; max = c.args.x.now.max }
    in subst (λ (ss : List StructureForm). IfOk c.search_for.result (λ found. IfNone found ((x : Point)
    → IsReached p c.args.x.now.mode ss x → ¬ G x))) c.as_slice.ensures
    (IfOk-weaker c.search_for.result (AnswersTrail t G) (λ found. IfNone found ((x : Point)
    → IsReached p c.args.x.now.mode initial x → ¬ G x)) (goal-none t G) c.search_for.ensures.answer)

pub returns-clause-ends : goal.returns-clause-ends
returns-clause-ends c =
    let p = program_of c.args.x.now.program.now
    in let G : Point → Type 0 = IsGoal p c.args.goal.now
    in let initial = c.as_slice.result.now
    in let t : TaskForm = record { program = p; mode = c.args.x.now.mode; initial = initial; max = c.args.x.now.max }
    in subst (λ (ss : List StructureForm). IfOk c.search_for.result (λ found. IfNone found (StaysWithin p
    c.args.x.now.mode ss c.args.x.now.max))) c.as_slice.ensures
    (IfOk-weaker c.search_for.result (AnswersTrail t G) (λ found. IfNone found (StaysWithin p c.args.x.now.mode
    initial c.args.x.now.max)) (goal-ends t G) c.search_for.ensures.answer)

pub returns-clause-cause : goal.returns-clause-cause
returns-clause-cause c =
    let p = program_of c.args.x.now.program.now
    in subst (λ (ss : List StructureForm). IfErr c.search_for.result (IsWorkCause p c.args.x.now.max (IsReached p
    c.args.x.now.mode ss))) c.as_slice.ensures c.search_for.ensures.cause
