use Rattle.std.proofs.Common.{◌≡◌, ◌∙◌, ◌⊎◌, sym, subst, IfSome}
use Rattle.std.proofs.lemmas.Option.{none-some, same_Some}
use Rattle.std.proofs.lemmas.Result.{on_ok_weaker}
use Rattle.tv_lemmas.proofs.Options.{IfErr-weaker}
use Rattle.tv_model.specs.Program.{ProgramForm, program_of}
use Rattle.tv_model.proofs.Parts.{start-node}
use Rattle.tv_step.specs.EngineForm.{EngineForm}
use Rattle.tv_step_laws.specs.Settled.{IsSettled}
use Rattle.tv_step_laws.specs.Transfer.{IsOpening}
use Rattle.tv_work.specs.Analyzed.{IsMeetCause, IsWorkCause}
use Rattle.tv_work.specs.Reach.{Point}
use Rattle.tv_work.specs.Task.{reached_in, task_of}
use Rattle.tv_work.proofs.Causes.{ok-three, meet-cause}
use Rattle.tv_trail_laws.specs.Met.{IsMet}
use Rattle.tv_trail.proofs.Stepping.{opened-state, opened-first, opened-reached}
use Rattle.tv_trail.proofs.follow.open.Goals as goal

pub meet-requires-clause-node : goal.meet-requires-clause-node
meet-requires-clause-node c = rw c.requires.kept.nodes
    (start-node (program_of c.args.x.now.program.now) c.requires.ready.valid)

pub returns-in-None-clause-opened : goal.returns-in-None-clause-opened
returns-in-None-clause-opened c = λ u opens.
    absurd (none-some u
    (sym c.in-None.is
    ∙ c.in_ok-opening.ensures.only u
    (subst (λ (e : EngineForm). IsOpening (program_of e.program) c.args.s.now u)
    (sym c.requires.ready.made) opens)))

pub returns-in-Some : goal.returns-in-Some
returns-in-Some c =
    let t = task_of c.args.x.now
    in let s = c.args.s.now
    in let u = c.in-Some.t
    in let old = c.args.search.now
    in let new = c.meet.new.self
    in let kept = c.requires.kept
    in let own : ProgramForm = program_of c.args.stepper.now.program
    in let is = c.requires.ready.made
    in let opening : IsOpening t.program s u
    = subst (λ (e : EngineForm). IsOpening (program_of e.program) s u) is
    (subst (λ o. IfSome o (IsOpening own s)) c.in-Some.is c.in_ok-opening.ensures.some)
    in let settled : IsSettled t.program u
    = subst (λ (e : EngineForm). IsSettled (program_of e.program) u) is
    (subst (λ o. IfSome o (IsSettled own)) c.in-Some.is c.in_ok-opening.ensures.settled)
    in let P : Point → Type 0 = λ x. IsMet old.found x ⊎ (x ≡ record { node = 0; structure = u })
    in record {
      kept = ok-three c.meet.result
          (opened-state t c.args.number s u c.requires.initial opening settled old kept new)
          c.meet.ensures.meets c.meet.ensures.within c.meet.ensures.listed;
      meets = on_ok_weaker c.meet.result
          (opened-first t c.args.number s u c.requires.initial opening settled old kept new)
          c.meet.ensures.meets;
      opened = on_ok_weaker c.meet.result
          (λ has v opens.
          subst (λ r. IsMet new.found (record { node = 0; structure = r }))
          (same_Some u v
          (sym c.in-Some.is
          ∙ c.in_ok-opening.ensures.only v
          (subst (λ (e : EngineForm). IsOpening (program_of e.program) s v) (sym is) opens))) has)
          c.meet.ensures.has;
      cause = IfErr-weaker c.meet.result (IsMeetCause t.max P) (IsWorkCause t.program t.max (reached_in t))
          (meet-cause t.program t.max P (reached_in t)
          (opened-reached t c.args.number s u c.requires.initial opening settled old kept))
          c.meet.ensures.cause;
      same = cc;
    }
