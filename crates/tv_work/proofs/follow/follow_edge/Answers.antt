use Rattle.std.proofs.Common.{◌≡◌, refl, subst, Some, Contains}
use Rattle.std.specs.Prelude.{All, slice_get}
use Rattle.std.proofs.lemmas.Option.{slice_get_within}
use Rattle.std.proofs.lemmas.Result.{err_from_is_err_and, on_ok_weaker}
use Rattle.tv_lemmas.proofs.Options.{IfErr-weaker}
use Rattle.tv_model.specs.declared.program.Edge.{Edge}
use Rattle.tv_model.specs.Program.{program_of}
use Rattle.tv_step.specs.EngineForm.{EngineForm}
use Rattle.tv_step_laws.specs.Budgets.{IsStepCause, KeepsBudgets}
use Rattle.tv_step_laws.specs.Settled.{IsSettled}
use Rattle.tv_step_laws.specs.Transfer.{AreMessageValues, AreResults}
use Rattle.tv_step_laws.proofs.Shapes.{shaped-over}
use Rattle.tv_work.specs.Analyzed.{IsAtSource}
use Rattle.tv_work.specs.Reach.{Point, IsListed}
use Rattle.tv_work.specs.Search.{StandsFor}
use Rattle.tv_work.specs.Stopped.{IsMeetStop, IsTaskStop}
use Rattle.tv_work.specs.Task.{task_of, reached_in}
use Rattle.tv_work.proofs.Advancing.{stands-listed, target_at, target-is, arrived-within, arrived-kept}
use Rattle.tv_work.proofs.Advancing.{does-along}
use Rattle.tv_work.proofs.Causes.{ok-three, meet-stop, step-stop}
use Rattle.tv_work.proofs.Saying.{values-few, noted-rises, noted-tells, said-kept, said-noted}
use Rattle.tv_work.proofs.Within.{within-reached}
use Rattle.tv_work.proofs.follow.follow_edge.Goals as goal

pub stable_step-requires-clause-edge : goal.stable_step-requires-clause-edge
stable_step-requires-clause-edge c =
    rw c.requires.ready.made
    (slice_get_within c.args.x.now.program.now.edges c.args.edge c.requires.edge.0 c.requires.edge.1)

pub stable_step-requires-clause-over : goal.stable_step-requires-clause-over
stable_step-requires-clause-over c =
    let x : Point = record { node = c.args.w.node; structure = c.at.result.now }
    in let has = stands-listed c.args.search.now.listing c.args.w x
    (record { node = refl; structure = c.at.ensures.value })
    in rw c.requires.ready.made
    (shaped-over c.args.x.now.program.now c.at.result.now (c.requires.kept.settled x has).shaped)

pub stable_step-requires-clause-stable : goal.stable_step-requires-clause-stable
stable_step-requires-clause-stable c =
    let x : Point = record { node = c.args.w.node; structure = c.at.result.now }
    in let has = stands-listed c.args.search.now.listing c.args.w x
    (record { node = refl; structure = c.at.ensures.value })
    in rw c.requires.ready.made (c.requires.kept.settled x has).stable

pub returns-in_err-out-clause-cause : goal.returns-in_err-out-clause-cause
returns-in_err-out-clause-cause c =
    let x : Point = record { node = c.args.w.node; structure = c.at.result.now }
    in let has = stands-listed c.args.search.now.listing c.args.w x
    (record { node = refl; structure = c.at.ensures.value })
    in let t = task_of c.args.x.now
    in let source : IsAtSource t.program c.args.edge (reached_in t) x = record {
      taken = c.requires.edge.0;
      is_edge = c.requires.edge.1;
      leaves = c.requires.edge.2;
      has = within-reached t c.args.search.now.listing x (c.requires.kept.reached x has);
    }
    in let fault = c.in_err-out.field-0.0
    in let p = err_from_is_err_and c.from_residual.result c.from_residual.ensures.1
    in rw (p.1, p.2)
    (step-stop t c.args.edge c.args.search.now.listing x source fault
    (subst (λ (e : EngineForm). IsStepCause (program_of e.program) c.args.edge x.structure fault)
    c.requires.ready.made c.in_err-out.ensures.step.cause))

pub note-requires-clause-few : goal.note-requires-clause-few
note-requires-clause-few c =
    let values = c.in_ok-out.out.messages
    in values-few (program_of c.args.x.now.program.now) c.requires.ready.valid c.args.edge c.at.result.now values
    (subst (λ (e : EngineForm). AreMessageValues (program_of e.program) c.args.edge c.at.result.now values)
    c.requires.ready.made c.in_ok-out.ensures.step.values)

pub returns : goal.returns
returns c =
    let t = task_of c.args.x.now
    in let edge = c.args.edge
    in let old = c.args.search.now
    in let new = c.meet_all.new.self
    in let told = c.note.new.self
    in let rs = c.in_ok-out.out.results
    in let ks = c.in_ok-out.out.messages
    in let x : Point = record { node = c.args.w.node; structure = c.at.result.now }
    in let stands : StandsFor old.listing c.args.w x = record { node = refl; structure = c.at.ensures.value }
    in let has = stands-listed old.listing c.args.w x stands
    in let taken = c.requires.edge.0
    in let at = c.requires.edge.1
    in let from = c.requires.edge.2
    in let to = target_at c.as_slice.result.now edge
    in let enters : (taken : Edge) → slice_get t.program.edges edge ≡ Some taken → to ≡ taken.to
    = λ taken at. target-is t.program.edges c.as_slice.result.now edge taken c.as_slice.ensures at
    in let is = c.requires.ready.made
    in let results : AreResults t.program t.mode edge x.structure rs
    = subst (λ (e : EngineForm). AreResults (program_of e.program) e.mode edge x.structure rs) is
    c.in_ok-out.ensures.step.results
    in let settled : All (IsSettled t.program) rs
    = subst (λ (e : EngineForm). All (IsSettled (program_of e.program)) rs) is c.in_ok-out.ensures.step.settled
    in let values : AreMessageValues t.program edge x.structure ks
    = subst (λ (e : EngineForm). AreMessageValues (program_of e.program) edge x.structure ks) is
    c.in_ok-out.ensures.step.values
    in let budgets : KeepsBudgets t.program edge x.structure
    = subst (λ (e : EngineForm). KeepsBudgets (program_of e.program) edge x.structure) is
    c.in_ok-out.ensures.step.budgets
    in let noted = c.in_ok-note.ensures.noted
    in let source : IsAtSource t.program edge (IsListed old.listing) x
    = record { taken = taken; is_edge = at; leaves = from; has = has }
    in let said = said-noted t old.listing x edge source ks values c.args.told.now told noted
    c.in_ok-note.ensures.count c.requires.said
    in let P : Point → Type 0 = λ y. (y.node ≡ to) × Contains rs y.structure
    in record {
      kept = ok-three c.meet_all.result
          (arrived-kept t edge to taken x rs at from (enters taken at) results settled old new c.requires.kept has)
          c.meet_all.ensures.grows c.meet_all.ensures.only c.meet_all.ensures.within;
      said = on_ok_weaker c.meet_all.result (λ grows. said-kept t old.listing new.listing told grows.kept said)
          c.meet_all.ensures.grows;
      advances = on_ok_weaker c.meet_all.result
          (λ grows. record { grows = grows; rises = noted-rises edge ks c.args.told.now told noted })
          c.meet_all.ensures.grows;
      done = on_ok_weaker c.meet_all.result
          (λ met. does-along t c.args.w edge to x old new told rs stands enters results met
          (noted-tells edge ks c.args.told.now told noted t.program x.structure values) budgets)
          c.meet_all.ensures.has;
      cause = IfErr-weaker c.meet_all.result (IsMeetStop t.max P old.listing new.listing)
          (IsTaskStop t new.listing)
          (meet-stop t P old.listing new.listing c.requires.kept.nodes
          (arrived-within t edge to taken x rs at from (enters taken at) results settled old c.requires.kept has))
          c.meet_all.ensures.cause;
      same = cc;
    }
