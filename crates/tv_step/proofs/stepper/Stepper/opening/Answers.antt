use Rattle.std.proofs.Common.{◌≡◌, Some, subst, sym}
use Rattle.std.specs.Prelude.{IfNone, IfOk, IfSome}
use Rattle.tv_model.specs.declared.program.Program.{Program}
use Rattle.tv_model.specs.Program.{program_of}
use Rattle.tv_structure_form.specs.StructureForm.{StructureForm, IsOver}
use Rattle.tv_step_laws.specs.Settled.{IsSettled}
use Rattle.tv_step_laws.specs.Transfer.{IsOpening, HasNoOpening}
use Rattle.tv_step.specs.Starts.{HasStarts}
use Rattle.tv_step.proofs.Steppers.{program-in}
use Rattle.tv_step.proofs.stepper.Stepper.opening.Goals as goal

pub opening-requires : goal.opening-requires
opening-requires c =
    let x = c.setting-x.result
    in let is = program-in x c.self.inside.engine c.args.self.now c.setting-x.ensures.program c.self.view_is
    in record {
      valid = c.setting-x.ensures.valid;
      closed = c.setting-x.ensures.rules;
      over = subst (λ (q : Program). IsOver q.vocab c.args.s.now) (sym is) c.requires;
      scratch = rw c.setting-x.ensures.program c.self.invariant.1;
    }

pub returns-clause-some : goal.returns-clause-some
returns-clause-some c =
    let is = program-in c.setting-x.result c.self.inside.engine c.args.self.now c.setting-x.ensures.program
    c.self.view_is
    in subst (λ q. IfOk c.opening.result (λ found. IfSome found (IsOpening (program_of q) c.args.s.now))) is
    c.opening.ensures.some

pub returns-clause-none : goal.returns-clause-none
returns-clause-none c =
    let is = program-in c.setting-x.result c.self.inside.engine c.args.self.now c.setting-x.ensures.program
    c.self.view_is
    in subst (λ q. IfOk c.opening.result (λ found. IfNone found (HasNoOpening (program_of q) c.args.s.now))) is
    c.opening.ensures.none

pub returns-clause-only : goal.returns-clause-only
returns-clause-only c =
    let is = program-in c.setting-x.result c.self.inside.engine c.args.self.now c.setting-x.ensures.program
    c.self.view_is
    in subst (λ q. IfOk c.opening.result (λ found. (t : StructureForm)
    → IsOpening (program_of q) c.args.s.now t → found ≡ Some t)) is c.opening.ensures.only

pub returns-clause-settled : goal.returns-clause-settled
returns-clause-settled c =
    let is = program-in c.setting-x.result c.self.inside.engine c.args.self.now c.setting-x.ensures.program
    c.self.view_is
    in subst (λ q. IfOk c.opening.result (λ found. IfSome found (IsSettled (program_of q)))) is
    c.opening.ensures.settled

pub returns-clause-heaps : goal.returns-clause-heaps
returns-clause-heaps c =
    let is = program-in c.setting-x.result c.self.inside.engine c.args.self.now c.setting-x.ensures.program
    c.self.view_is
    in subst (λ q. IfOk c.opening.result (HasStarts (program_of q) c.args.s.now)) is c.opening.ensures.heaps
