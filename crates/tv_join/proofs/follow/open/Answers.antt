use Rattle.std.proofs.Common.{◌∙◌, inl, inr, sym, subst, IfSome, IfNone}
use Rattle.std.proofs.lemmas.List.Elements.{All-contains}
use Rattle.tv_model.specs.Program.{ProgramForm, program_of}
use Rattle.tv_step.specs.EngineForm.{EngineForm}
use Rattle.tv_structure_form.specs.StructureForm.{IsOver}
use Rattle.tv_step_laws.specs.Settled.{IsSettled}
use Rattle.tv_step_laws.specs.Transfer.{IsOpening, HasNoOpening}
use Rattle.tv_work.specs.Task.{task_of}
use Rattle.tv_join.proofs.Following.{open-none, open-some}
use Rattle.tv_join.proofs.follow.open.Goals as goal

pub opening-requires : goal.opening-requires
opening-requires c =
    rw c.requires.ready.made
    (All-contains (IsOver c.args.x.now.program.now.vocab) c.args.x.now.initial.now c.args.s.now
    c.requires.ready.initial c.requires.initial)

pub returns-in-None-clause-openable : goal.returns-in-None-clause-openable
returns-in-None-clause-openable c =
    let s = c.args.s.now
    in let own : ProgramForm = program_of c.args.stepper.now.program
    in inl
    (subst (λ (e : EngineForm). HasNoOpening (program_of e.program) s) c.requires.ready.made
    (subst (λ o. IfNone o (HasNoOpening own s)) c.in-None.is c.in_ok-opening.ensures.none))

pub returns-in-None-clause-found : goal.returns-in-None-clause-found
returns-in-None-clause-found c =
    let s = c.args.s.now
    in open-none (task_of c.args.x.now) s c.args.found.now.items
    (λ u opens. sym c.in-None.is
    ∙ c.in_ok-opening.ensures.only u
    (subst (λ (e : EngineForm). IsOpening (program_of e.program) s u) (sym c.requires.ready.made) opens))

pub returns-in_ok-push-in-Some : goal.returns-in_ok-push-in-Some
returns-in_ok-push-in-Some c =
    let t = task_of c.args.x.now
    in let p = t.program
    in let s = c.args.s.now
    in let u = c.in-Some.structure
    in let own : ProgramForm = program_of c.args.stepper.now.program
    in let is = c.requires.ready.made
    in let opening : IsOpening p s u
    = subst (λ (e : EngineForm). IsOpening (program_of e.program) s u) is
    (subst (λ o. IfSome o (IsOpening own s)) c.in-Some.is c.in_ok-opening.ensures.some)
    in let settled : IsSettled p u
    = subst (λ (e : EngineForm). IsSettled (program_of e.program) u) is
    (subst (λ o. IfSome o (IsSettled own)) c.in-Some.is c.in_ok-opening.ensures.settled)
    in record {
      openable = inr (u, opening);
      found = open-some t s u c.args.found.now.items c.push.new.self.items opening settled
          (λ v opens. sym c.in-Some.is
          ∙ c.in_ok-opening.ensures.only v
          (subst (λ (e : EngineForm). IsOpening (program_of e.program) s v) (sym is) opens))
          c.in_ok-push-in-Some.ensures.items;
      same = cc;
    }
