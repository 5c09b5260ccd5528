use Rattle.std.proofs.Common.{subst, sym}
use Rattle.std.specs.Prelude.{IfNone, IfSome}
use Rattle.tv_model.specs.Program.{program_of}
use Rattle.tv_step.specs.EngineForm.{EngineForm}
use Rattle.tv_structure_form.specs.StructureForm.{IsOver}
use Rattle.tv_step_laws.specs.Transfer.{HasNoOpening, IsOpening}
use Rattle.tv_losses.proofs.Losing.{unopened-is}
use Rattle.tv_losses.proofs.apart.is_unopened.Goals as goal

pub opening-requires : goal.opening-requires
opening-requires c =
    subst (λ (e : EngineForm). IsOver e.program.vocab c.args.s.now) (sym c.requires.ready.made) c.requires.over

pub returns-clause-unopened : goal.returns-clause-unopened
returns-clause-unopened c =
    unopened-is (program_of c.args.x.now.program.now) c.args.s.now c.in_ok-found.found c.is_none.result
    (subst (λ (e : EngineForm). IfSome c.in_ok-found.found (IsOpening (program_of e.program) c.args.s.now))
    c.requires.ready.made c.in_ok-found.ensures.some)
    (subst (λ (e : EngineForm). IfNone c.in_ok-found.found (HasNoOpening (program_of e.program) c.args.s.now))
    c.requires.ready.made c.in_ok-found.ensures.none)
    c.is_none.ensures
