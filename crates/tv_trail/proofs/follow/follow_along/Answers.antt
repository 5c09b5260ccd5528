use Rattle.std.proofs.Common.{◌≡◌, ◌<◌, ◌⊎◌, length, sym, subst, List, Some, Contains}
use Rattle.std.specs.Prelude.{All, slice_get}
use Rattle.std.proofs.lemmas.Option.{slice_get_within}
use Rattle.std.proofs.lemmas.Result.{err_from_is_err_and}
use Rattle.tv_kleene.specs.declared.K3.{K3}
use Rattle.tv_model.specs.declared.program.Edge.{Edge}
use Rattle.tv_model.specs.Program.{program_of}
use Rattle.tv_step.specs.EngineForm.{EngineForm}
use Rattle.tv_step_laws.specs.Budgets.{IsStepCause, KeepsBudgets}
use Rattle.tv_step_laws.specs.Settled.{IsSettled}
use Rattle.tv_step_laws.specs.Transfer.{AreMessageValues, AreResults}
use Rattle.tv_step_laws.proofs.Shapes.{shaped-over}
use Rattle.tv_work.specs.Analyzed.{IsAtSource}
use Rattle.tv_work.specs.Reach.{Point}
use Rattle.tv_work.specs.Task.{reached_in, task_of}
use Rattle.tv_work.proofs.Advancing.{target_at, target-is}
use Rattle.tv_work.proofs.Causes.{meet-cause, step-cause}
use Rattle.tv_trail_laws.specs.Met.{IsAt, IsMet}
use Rattle.tv_trail.specs.Aims.{Raises}
use Rattle.tv_trail.proofs.Aiming.{goal-along, raised-along, along-raised}
use Rattle.tv_trail.proofs.Kept.{at-on, at-settled, met-reached}
use Rattle.tv_trail.proofs.Stepping.{Arrives, arrived-along, arrived-from, arrived-reached, arrived-state}
use Rattle.tv_trail.proofs.follow.follow_along.Goals as goal

pub stable_step-requires-clause-edge : goal.stable_step-requires-clause-edge
stable_step-requires-clause-edge c =
    let x : Point = record { node = c.at-seen.result.node; structure = c.at-seen.result.structure.now }
    in let leaves = c.requires.edge x (c.at-seen.result.origin, c.at-seen.ensures.found)
    in rw c.requires.ready.made
    (slice_get_within c.args.x.now.task.program.now.edges c.args.edge leaves.0 leaves.1)

pub stable_step-requires-clause-over : goal.stable_step-requires-clause-over
stable_step-requires-clause-over c =
    let x : Point = record { node = c.at-seen.result.node; structure = c.at-seen.result.structure.now }
    in let at : IsAt c.args.search.now.found c.args.place x = (c.at-seen.result.origin, c.at-seen.ensures.found)
    in rw c.requires.ready.made
    (shaped-over c.args.x.now.task.program.now x.structure
    (at-settled (task_of c.args.x.now.task) c.args.search.now c.requires.kept c.args.place x at).shaped)

pub stable_step-requires-clause-stable : goal.stable_step-requires-clause-stable
stable_step-requires-clause-stable c =
    let x : Point = record { node = c.at-seen.result.node; structure = c.at-seen.result.structure.now }
    in let at : IsAt c.args.search.now.found c.args.place x = (c.at-seen.result.origin, c.at-seen.ensures.found)
    in rw c.requires.ready.made
    (at-settled (task_of c.args.x.now.task) c.args.search.now c.requires.kept c.args.place x at).stable

pub returns-in_err-out-clause-cause : goal.returns-in_err-out-clause-cause
returns-in_err-out-clause-cause c =
    let x : Point = record { node = c.at-seen.result.node; structure = c.at-seen.result.structure.now }
    in let at : IsAt c.args.search.now.found c.args.place x = (c.at-seen.result.origin, c.at-seen.ensures.found)
    in let leaves = c.requires.edge x at
    in let t = task_of c.args.x.now.task
    in let source : IsAtSource t.program c.args.edge (reached_in t) x = record {
      taken = leaves.0;
      is_edge = leaves.1;
      leaves = leaves.2;
      has = met-reached t c.args.search.now c.requires.kept x (c.args.place, at);
    }
    in let fault = c.in_err-out.field-0.0
    in let p = err_from_is_err_and c.from_residual.result c.from_residual.ensures.1
    in rw (p.1, p.2)
    (step-cause t.program t.max c.args.edge (reached_in t) x source fault
    (subst (λ (e : EngineForm). IsStepCause (program_of e.program) c.args.edge x.structure fault)
    c.requires.ready.made c.in_err-out.ensures.step.cause))

pub returns-then-raises-clause-answer : goal.returns-then-raises-clause-answer
returns-then-raises-clause-answer c =
    let x : Point = record { node = c.at-seen.result.node; structure = c.at-seen.result.structure.now }
    in let at : IsAt c.args.search.now.found c.args.place x = (c.at-seen.result.origin, c.at-seen.ensures.found)
    in let t = task_of c.args.x.now.task
    in let ks = c.in_ok-out.out.messages
    in let values : AreMessageValues t.program c.args.edge x.structure ks
    = subst (λ (e : EngineForm). AreMessageValues (program_of e.program) c.args.edge x.structure ks)
    c.requires.ready.made c.in_ok-out.ensures.step.values
    in let raises : Raises c.args.x.now.goal c.args.edge ks
    = subst (λ (vs : List K3). Raises c.args.x.now.goal c.args.edge vs) c.as_slice.ensures
    (c.raises.ensures.0 c.if-raises.true)
    in (
      x,
      at,
      goal-along t.program c.args.x.now.goal c.args.edge x
          (raised-along t.program c.args.edge x ks values c.args.x.now.goal (c.requires.edge x at) raises),
    )

pub bounds-as_slice-edge : goal.bounds-as_slice-edge
bounds-as_slice-edge c =
    let x : Point = record { node = c.at-seen.result.node; structure = c.at-seen.result.structure.now }
    in let leaves = c.requires.edge x (c.at-seen.result.origin, c.at-seen.ensures.found)
    in subst (λ (es : List Edge). c.args.edge < length es) (sym c.as_slice-2.ensures)
    (slice_get_within c.args.x.now.task.program.now.edges c.args.edge leaves.0 leaves.1)

pub returns-in_err-meet_all-clause-cause : goal.returns-in_err-meet_all-clause-cause
returns-in_err-meet_all-clause-cause c =
    let x : Point = record { node = c.at-seen.result.node; structure = c.at-seen.result.structure.now }
    in let old = c.args.search.now
    in let at : IsAt old.found c.args.place x = (c.at-seen.result.origin, c.at-seen.ensures.found)
    in let leaves = c.requires.edge x at
    in let t = task_of c.args.x.now.task
    in let is = c.requires.ready.made
    in let rs = c.in_ok-out.out.results
    in let results : AreResults t.program t.mode c.args.edge x.structure rs
    = subst (λ (e : EngineForm). AreResults (program_of e.program) e.mode c.args.edge x.structure rs) is
    c.in_ok-out.ensures.step.results
    in let settled : All (IsSettled t.program) rs
    = subst (λ (e : EngineForm). All (IsSettled (program_of e.program)) rs) is c.in_ok-out.ensures.step.settled
    in let to = target_at c.as_slice-2.result.now c.args.edge
    in let p = err_from_is_err_and c.from_residual-in_err-meet_all.result c.from_residual-in_err-meet_all.ensures.1
    in let P : Point → Type 0 = λ y. IsMet old.found y ⊎ ((y.node ≡ to) × Contains rs y.structure)
    in rw (p.1, p.2)
    (meet-cause t.program t.max P (reached_in t)
    (arrived-reached t c.args.edge to c.args.place leaves.0 x rs leaves.1 leaves.2
    (target-is t.program.edges c.as_slice-2.result.now c.args.edge leaves.0 c.as_slice-2.ensures leaves.1)
    results settled old c.requires.kept at) c.in_err-meet_all.field-0.0 c.in_err-meet_all.ensures.cause)

pub returns-clause-kept : goal.returns-clause-kept
returns-clause-kept c =
    let x : Point = record { node = c.at-seen.result.node; structure = c.at-seen.result.structure.now }
    in let old = c.args.search.now
    in let at : IsAt old.found c.args.place x = (c.at-seen.result.origin, c.at-seen.ensures.found)
    in let leaves = c.requires.edge x at
    in let t = task_of c.args.x.now.task
    in let is = c.requires.ready.made
    in let rs = c.in_ok-out.out.results
    in let results : AreResults t.program t.mode c.args.edge x.structure rs
    = subst (λ (e : EngineForm). AreResults (program_of e.program) e.mode c.args.edge x.structure rs) is
    c.in_ok-out.ensures.step.results
    in let settled : All (IsSettled t.program) rs
    = subst (λ (e : EngineForm). All (IsSettled (program_of e.program)) rs) is c.in_ok-out.ensures.step.settled
    in let to = target_at c.as_slice-2.result.now c.args.edge
    in arrived-state t c.args.edge to c.args.place leaves.0 x rs leaves.1 leaves.2
    (target-is t.program.edges c.as_slice-2.result.now c.args.edge leaves.0 c.as_slice-2.ensures leaves.1)
    results settled old c.requires.kept at c.meet_all.new.self c.in_ok-meet_all.ensures.meets
    c.in_ok-meet_all.ensures.within c.in_ok-meet_all.ensures.listed

pub returns-clause-meets : goal.returns-clause-meets
returns-clause-meets c =
    let x : Point = record { node = c.at-seen.result.node; structure = c.at-seen.result.structure.now }
    in let old = c.args.search.now
    in let at : IsAt old.found c.args.place x = (c.at-seen.result.origin, c.at-seen.ensures.found)
    in let leaves = c.requires.edge x at
    in let t = task_of c.args.x.now.task
    in let is = c.requires.ready.made
    in let rs = c.in_ok-out.out.results
    in let results : AreResults t.program t.mode c.args.edge x.structure rs
    = subst (λ (e : EngineForm). AreResults (program_of e.program) e.mode c.args.edge x.structure rs) is
    c.in_ok-out.ensures.step.results
    in let settled : All (IsSettled t.program) rs
    = subst (λ (e : EngineForm). All (IsSettled (program_of e.program)) rs) is c.in_ok-out.ensures.step.settled
    in let to = target_at c.as_slice-2.result.now c.args.edge
    in arrived-from t c.args.edge to c.args.place leaves.0 x rs leaves.1 leaves.2
    (target-is t.program.edges c.as_slice-2.result.now c.args.edge leaves.0 c.as_slice-2.ensures leaves.1)
    results settled old c.requires.kept at c.meet_all.new.self c.in_ok-meet_all.ensures.meets

pub returns-clause-answer : goal.returns-clause-answer
returns-clause-answer c =
    let x : Point = record { node = c.at-seen.result.node; structure = c.at-seen.result.structure.now }
    in let old = c.args.search.now
    in let new = c.meet_all.new.self
    in let at : IsAt old.found c.args.place x = (c.at-seen.result.origin, c.at-seen.ensures.found)
    in let leaves = c.requires.edge x at
    in let t = task_of c.args.x.now.task
    in let is = c.requires.ready.made
    in let rs = c.in_ok-out.out.results
    in let ks = c.in_ok-out.out.messages
    in let results : AreResults t.program t.mode c.args.edge x.structure rs
    = subst (λ (e : EngineForm). AreResults (program_of e.program) e.mode c.args.edge x.structure rs) is
    c.in_ok-out.ensures.step.results
    in let settled : All (IsSettled t.program) rs
    = subst (λ (e : EngineForm). All (IsSettled (program_of e.program)) rs) is c.in_ok-out.ensures.step.settled
    in let values : AreMessageValues t.program c.args.edge x.structure ks
    = subst (λ (e : EngineForm). AreMessageValues (program_of e.program) c.args.edge x.structure ks) is
    c.in_ok-out.ensures.step.values
    in let to = target_at c.as_slice-2.result.now c.args.edge
    in let enters : (taken : Edge) → slice_get t.program.edges c.args.edge ≡ Some taken → to ≡ taken.to
    = λ taken e. target-is t.program.edges c.as_slice-2.result.now c.args.edge taken c.as_slice-2.ensures e
    in let raises : ¬ Raises c.args.x.now.goal c.args.edge ks
    = subst (λ (vs : List K3). ¬ Raises c.args.x.now.goal c.args.edge vs) c.as_slice.ensures
    (λ is. cc (c.if-raises.ensures.1 is))
    in (
      x,
      at-on (Arrives t c.args.edge to c.args.place leaves.0 x rs leaves.1 leaves.2 (enters leaves.0 leaves.1)
          results settled old c.requires.kept at) old new c.in_ok-meet_all.ensures.meets c.args.place x at,
      λ is_goal. raises (along-raised t.program c.args.edge x ks values c.args.x.now.goal is_goal),
      arrived-along t c.args.edge to c.args.place leaves.0 x rs leaves.1 leaves.2 (enters leaves.0 leaves.1)
          results settled old c.requires.kept at c.requires.ready.valid new.found c.in_ok-meet_all.ensures.has
          enters,
      subst (λ (e : EngineForm). KeepsBudgets (program_of e.program) c.args.edge x.structure) is
          c.in_ok-out.ensures.step.budgets,
    )
