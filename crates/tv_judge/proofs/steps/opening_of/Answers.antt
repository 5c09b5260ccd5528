use Rattle.std.proofs.Common.{sym, subst}
use Rattle.std.specs.Prelude.{IfOk, IfSome, IfNone}
use Rattle.tv_model.specs.Program.{program_of}
use Rattle.tv_structure_form.specs.StructureForm.{IsOver}
use Rattle.tv_step_laws.specs.Settled.{IsSettled}
use Rattle.tv_step_laws.specs.Transfer.{IsOpening, HasNoOpening}
use Rattle.tv_step.specs.EngineForm.{EngineForm}
use Rattle.tv_judge.proofs.steps.opening_of.Goals as goal

pub opening-requires : goal.opening-requires
opening-requires c =
    subst (λ (e : EngineForm). IsOver e.program.vocab c.args.s.now) (sym c.requires.ready.1) c.requires.over

pub returns-clause-some : goal.returns-clause-some
returns-clause-some c =
    subst (λ (e : EngineForm). IfOk c.opening.result (λ found. IfSome found (IsOpening (program_of e.program) c.args.s.now))) c.requires.ready.1
    c.opening.ensures.some

pub returns-clause-none : goal.returns-clause-none
returns-clause-none c =
    subst (λ (e : EngineForm). IfOk c.opening.result (λ found. IfNone found (HasNoOpening (program_of e.program) c.args.s.now))) c.requires.ready.1
    c.opening.ensures.none

pub returns-clause-settled : goal.returns-clause-settled
returns-clause-settled c =
    subst (λ (e : EngineForm). IfOk c.opening.result (λ found. IfSome found (IsSettled (program_of e.program)))) c.requires.ready.1
    c.opening.ensures.settled
