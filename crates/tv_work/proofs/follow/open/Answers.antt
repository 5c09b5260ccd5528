use Rattle.std.proofs.Common.{◌≡◌, ◌∙◌, inl, inr, sym, subst, IfSome, IfNone}
use Rattle.std.proofs.lemmas.List.Elements.{All-contains}
use Rattle.std.proofs.lemmas.Option.{none-some, same_Some}
use Rattle.std.proofs.lemmas.Result.{on_ok_weaker}
use Rattle.tv_lemmas.proofs.Options.{IfErr-weaker}
use Rattle.tv_model.specs.Program.{ProgramForm, program_of}
use Rattle.tv_model.proofs.Parts.{start-node}
use Rattle.tv_step.specs.EngineForm.{EngineForm}
use Rattle.tv_structure_form.specs.StructureForm.{IsOver}
use Rattle.tv_step_laws.specs.Settled.{IsSettled}
use Rattle.tv_step_laws.specs.Transfer.{HasNoOpening, IsOpening}
use Rattle.tv_work.specs.Reach.{Point, IsListed}
use Rattle.tv_work.specs.Stopped.{IsMeetStop, IsTaskStop}
use Rattle.tv_work.specs.Task.{task_of}
use Rattle.tv_work.proofs.Advancing.{open-within, open-kept}
use Rattle.tv_work.proofs.Causes.{ok-three, meet-stop}
use Rattle.tv_work.proofs.follow.open.Goals as goal

pub opening-requires : goal.opening-requires
opening-requires c =
    rw c.requires.ready.made
    (All-contains (IsOver c.args.x.now.program.now.vocab) c.args.x.now.initial.now c.args.s.now
    c.requires.ready.initial c.requires.initial)

pub meet-requires-clause-node : goal.meet-requires-clause-node
meet-requires-clause-node c = rw c.requires.kept.nodes
    (start-node (program_of c.args.x.now.program.now) c.requires.ready.valid)

pub returns-in-None-clause-opened : goal.returns-in-None-clause-opened
returns-in-None-clause-opened c =
    let s = c.args.s.now
    in let own : ProgramForm = program_of c.args.stepper.now.program
    in let is = c.requires.ready.made
    in record {
      listed = λ u opens.
          absurd (none-some u
          (sym c.in-None.is
          ∙ c.in_ok-opening.ensures.only u
          (subst (λ (e : EngineForm). IsOpening (program_of e.program) s u) (sym is) opens)));
      any = inl
          (subst (λ (e : EngineForm). HasNoOpening (program_of e.program) s) is
          (subst (λ o. IfNone o (HasNoOpening own s)) c.in-None.is c.in_ok-opening.ensures.none));
    }

pub returns-in-Some : goal.returns-in-Some
returns-in-Some c =
    let t = task_of c.args.x.now
    in let p = t.program
    in let s = c.args.s.now
    in let u = c.in-Some.t
    in let old = c.args.search.now
    in let new = c.meet.new.self
    in let own : ProgramForm = program_of c.args.stepper.now.program
    in let is = c.requires.ready.made
    in let opening : IsOpening p s u
    = subst (λ (e : EngineForm). IsOpening (program_of e.program) s u) is
    (subst (λ o. IfSome o (IsOpening own s)) c.in-Some.is c.in_ok-opening.ensures.some)
    in let settled : IsSettled p u
    = subst (λ (e : EngineForm). IsSettled (program_of e.program) u) is
    (subst (λ o. IfSome o (IsSettled own)) c.in-Some.is c.in_ok-opening.ensures.settled)
    in let P : Point → Type 0 = λ x. x ≡ record { node = 0; structure = u }
    in record {
      kept = ok-three c.meet.result (open-kept t s u c.requires.initial opening settled old new c.requires.kept)
          c.meet.ensures.grows c.meet.ensures.only c.meet.ensures.within;
      grows = c.meet.ensures.grows;
      opened = on_ok_weaker c.meet.result
          (λ has. record {
            listed = λ v opens.
                subst (λ r. IsListed new.listing (record { node = 0; structure = r }))
                (same_Some u v
                (sym c.in-Some.is
                ∙ c.in_ok-opening.ensures.only v
                (subst (λ (e : EngineForm). IsOpening (program_of e.program) s v) (sym is) opens))) has;
            any = inr (u, opening);
          })
          c.meet.ensures.has;
      cause = IfErr-weaker c.meet.result (IsMeetStop t.max P old.listing new.listing)
          (IsTaskStop t new.listing)
          (meet-stop t P old.listing new.listing c.requires.kept.nodes
          (open-within t s u c.requires.initial opening settled old c.requires.kept))
          c.meet.ensures.cause;
      same = cc;
    }
