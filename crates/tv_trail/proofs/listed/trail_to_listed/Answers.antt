use Rattle.std.proofs.Common.{refl}
use Rattle.std.specs.Prelude.{IfNone}
use Rattle.std.proofs.lemmas.Result.{IfOk-weaker}
use Rattle.tv_model.specs.Program.{program_of}
use Rattle.tv_trail_laws.specs.Trails.{IsGoal}
use Rattle.tv_trail_laws.specs.declared.trail.Goal.TheVariants.{Structure}
use Rattle.tv_work.specs.Reach.{Point, IsReached}
use Rattle.tv_trail.specs.Reasons.{HasNone}
use Rattle.tv_trail.proofs.Ends.{never-missed}
use Rattle.tv_trail.proofs.listed.trail_to_listed.Goals as goal

pub returns-clause-none : goal.returns-clause-none
returns-clause-none c =
    let p = program_of c.args.program.now in
    let G : Point → Type 0 = IsGoal p (Structure c.args.node c.in-Some.structure) in
    IfOk-weaker c.shortest_trail.result
    (λ found. IfNone found ((x : Point) → IsReached p c.args.mode c.args.initial.now x → ¬ G x))
    (λ found. IfNone found (HasNone p c.args.mode c.args.initial.now c.args.max c.args.node c.args.index))
    (never-missed p c.args.mode c.args.initial.now c.args.max c.in_ok-found.found.listing
    c.in_ok-found.found.messages c.in_ok-found.ensures.exact c.args.node c.args.index c.in-Some.structure.now
    c.in-Some.ensures.some G (refl, refl) _) c.shortest_trail.ensures.none
