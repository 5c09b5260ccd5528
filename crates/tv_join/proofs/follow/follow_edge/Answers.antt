use Rattle.std.proofs.Common.{arith, subst, sym}
use Rattle.std.proofs.lemmas.Option.{slice_get_within}
use Rattle.std.proofs.lemmas.Result.{err_from_is_err_and}
use Rattle.tv_model.specs.Program.{program_of}
use Rattle.tv_step_laws.specs.Transfer.{AreMessageValues}
use Rattle.tv_step_laws.proofs.Shapes.{shaped-over}
use Rattle.tv_step.proofs.Engines.{engine-answers}
use Rattle.tv_work.proofs.Advancing.{target-is, target_at}
use Rattle.tv_join.specs.Rounds.{point}
use Rattle.tv_join.specs.State.{IsIn}
use Rattle.tv_work.specs.Task.{task_of}
use Rattle.tv_join.proofs.Following.{follow-along, follow-gathers, stands-in, stands-source, step-fault}
use Rattle.tv_join.proofs.Meeting.{listed-plain}
use Rattle.tv_join.proofs.follow.follow_edge.Goals as goal

pub stable_step-requires-clause-edge : goal.stable_step-requires-clause-edge
stable_step-requires-clause-edge c =
    rw c.requires.ready.made
    (slice_get_within (program_of c.args.x.now.program.now).edges c.args.edge c.requires.edge.0 c.requires.edge.1)

pub stable_step-requires-clause-over : goal.stable_step-requires-clause-over
stable_step-requires-clause-over c =
    rw c.requires.ready.made
    (shaped-over c.args.x.now.program.now c.at-s.result.now
    (listed-plain (task_of c.args.x.now) c.args.joins.now c.requires.kept (point c.args.w.node c.at-s.result.now)
    (stands-in c.args.joins.now.nodes c.args.w c.at-s.result.now c.at-s.ensures)).shaped)

pub stable_step-requires-clause-stable : goal.stable_step-requires-clause-stable
stable_step-requires-clause-stable c =
    rw c.requires.ready.made (c.requires.kept.stable c.args.w c.at-s.result.now c.at-s.ensures)

pub keep-requires : goal.keep-requires
keep-requires c =
    omega (
      arith,
      c.requires.edges,
      slice_get_within (program_of c.args.x.now.program.now).edges c.args.edge c.requires.edge.0 c.requires.edge.1,
    )

pub returns-in_err-out-clause-cause : goal.returns-in_err-out-clause-cause
returns-in_err-out-clause-cause c =
    let nodes = c.args.joins.now.nodes
    in let p = err_from_is_err_and c.from_residual.result c.from_residual.ensures.1
    in rw (p.1, p.2)
    (step-fault (program_of c.args.x.now.program.now) c.args.edge (IsIn nodes)
    (point c.requires.edge.0.from c.at-s.result.now)
    (stands-source (task_of c.args.x.now) nodes c.args.w c.args.edge c.requires.edge c.at-s.result.now c.at-s.ensures)
    c.in_err-out.field-0.0 (engine-answers _ _ _ _ _ c.requires.ready.made c.in_err-out.ensures.step).cause)

pub returns-clause-gathers : goal.returns-clause-gathers
returns-clause-gathers c =
    follow-gathers (task_of c.args.x.now) c.requires.ready.valid c.args.joins.now.nodes c.args.w c.args.edge
    (target_at c.as_slice.result.now c.args.edge) c.requires.edge c.at-s.result.now c.at-s.ensures
    (target-is c.args.x.now.program.now.edges c.as_slice.result.now c.args.edge c.requires.edge.0 c.as_slice.ensures
    c.requires.edge.1)
    c.in_ok-out.out.results (engine-answers _ _ _ _ _ c.requires.ready.made c.in_ok-out.ensures.step).results
    (engine-answers _ _ _ _ _ c.requires.ready.made c.in_ok-out.ensures.step).settled c.args.found.now.items
    c.push_found.new.found.items c.in_ok-push_found.ensures

pub returns-clause-followed : goal.returns-clause-followed
returns-clause-followed c =
    follow-along (task_of c.args.x.now) c.requires.ready.valid c.args.joins.now.nodes c.args.w c.args.edge
    (target_at c.as_slice.result.now c.args.edge) c.requires.edge c.at-s.result.now c.at-s.ensures
    (target-is c.args.x.now.program.now.edges c.as_slice.result.now c.args.edge c.requires.edge.0 c.as_slice.ensures
    c.requires.edge.1)
    c.in_ok-out.out.results (engine-answers _ _ _ _ _ c.requires.ready.made c.in_ok-out.ensures.step).results
    (engine-answers _ _ _ _ _ c.requires.ready.made c.in_ok-out.ensures.step).settled c.args.found.now.items
    c.push_found.new.found.items c.in_ok-push_found.ensures c.keep.new.self
    (subst (AreMessageValues (program_of c.args.x.now.program.now) c.args.edge c.at-s.result.now)
    (sym c.in_ok-keep.ensures.here)
    (engine-answers _ _ _ _ _ c.requires.ready.made c.in_ok-out.ensures.step).values)
    (engine-answers _ _ _ _ _ c.requires.ready.made c.in_ok-out.ensures.step).budgets
