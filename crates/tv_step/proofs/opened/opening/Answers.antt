use Rattle.std.proofs.Common.{◌∙◌, sym, subst}
use Rattle.tv_model.specs.Program.{program_of}
use Rattle.tv_rules.specs.EntryForms.{rules_of}
use Rattle.tv_coerce.specs.Ready.{CanCoerce}
use Rattle.tv_coerce.proofs.Ready.{closed_rules_can_be_tried}
use Rattle.tv_step_laws.proofs.Settled.{opening-settled}
use Rattle.tv_step.proofs.Beginnings.{no-opening, none-only, none-starts, some-only, some-opening}
use Rattle.tv_step.proofs.Beginnings.{some-starts}
use Rattle.tv_step.proofs.Finishing.{coerced-over}
use Rattle.tv_step_laws.proofs.Shapes.{over-shaped}
use Rattle.tv_step.proofs.opened.opening.Goals as goal

pub coerce-requires : goal.coerce-requires
coerce-requires c =
    subst (λ rules. CanCoerce rules c.args.s.now c.args.scratch.now) (sym c.requires.closed)
    (closed_rules_can_be_tried c.args.program.now c.args.s.now c.args.scratch.now c.requires.valid
    c.requires.over
    c.size.ensures.kept c.requires.scratch)

pub returns-in-None-clause-none : goal.returns-in-None-clause-none
returns-in-None-clause-none c =
    no-opening c.args.program.now
    (rules_of c.args.closed.now) c.args.s.now c.in_ok-coerce.field-0 c.requires.closed
    c.in_ok-coerce.ensures.exact c.in-None.is

pub returns-in-None-clause-only : goal.returns-in-None-clause-only
returns-in-None-clause-only c = λ t opening.
    none-only c.args.program.now c.args.s.now t
    (no-opening c.args.program.now
    (rules_of c.args.closed.now) c.args.s.now c.in_ok-coerce.field-0 c.requires.closed
    c.in_ok-coerce.ensures.exact c.in-None.is) opening

pub returns-in-None-clause-heaps : goal.returns-in-None-clause-heaps
returns-in-None-clause-heaps c =
    none-starts c.args.program.now c.requires.valid c.args.s.now
    (no-opening c.args.program.now
    (rules_of c.args.closed.now) c.args.s.now c.in_ok-coerce.field-0 c.requires.closed
    c.in_ok-coerce.ensures.exact c.in-None.is)

pub into_blurred-requires : goal.into_blurred-requires
into_blurred-requires c =
    coerced-over (rules_of c.args.closed.now) c.args.s.now c.in_ok-coerce.field-0 c.in-Some.t
    c.in_ok-coerce.ensures.exact c.in-Some.is ∙ c.requires.over

pub returns-in_ok-into_blurred-in-Some-clause-some : goal.returns-in_ok-into_blurred-in-Some-clause-some
returns-in_ok-into_blurred-in-Some-clause-some c =
    some-opening c.args.program.now
    (rules_of c.args.closed.now) c.args.s.now c.in_ok-coerce.field-0 c.in-Some.t
    c.in_ok-into_blurred-in-Some.field-0 c.requires.closed
    (over-shaped c.args.program.now c.args.s.now c.requires.over c.size.ensures.kept)
    c.in_ok-coerce.ensures.exact
    c.in-Some.is c.in_ok-into_blurred-in-Some.ensures.exact c.in_ok-into_blurred-in-Some.ensures.kept

pub returns-in_ok-into_blurred-in-Some-clause-only : goal.returns-in_ok-into_blurred-in-Some-clause-only
returns-in_ok-into_blurred-in-Some-clause-only c = λ t opening.
    some-only c.args.program.now c.args.s.now c.in_ok-into_blurred-in-Some.field-0 t
    (some-opening c.args.program.now
    (rules_of c.args.closed.now) c.args.s.now c.in_ok-coerce.field-0 c.in-Some.t
    c.in_ok-into_blurred-in-Some.field-0 c.requires.closed
    (over-shaped c.args.program.now c.args.s.now c.requires.over c.size.ensures.kept)
    c.in_ok-coerce.ensures.exact
    c.in-Some.is c.in_ok-into_blurred-in-Some.ensures.exact c.in_ok-into_blurred-in-Some.ensures.kept) opening

pub returns-in_ok-into_blurred-in-Some-clause-settled : goal.returns-in_ok-into_blurred-in-Some-clause-settled
returns-in_ok-into_blurred-in-Some-clause-settled c =
    opening-settled (program_of c.args.program.now) c.requires.valid c.args.s.now c.in_ok-into_blurred-in-Some.field-0
    (some-opening c.args.program.now
    (rules_of c.args.closed.now) c.args.s.now c.in_ok-coerce.field-0 c.in-Some.t
    c.in_ok-into_blurred-in-Some.field-0 c.requires.closed
    (over-shaped c.args.program.now c.args.s.now c.requires.over c.size.ensures.kept)
    c.in_ok-coerce.ensures.exact
    c.in-Some.is c.in_ok-into_blurred-in-Some.ensures.exact c.in_ok-into_blurred-in-Some.ensures.kept)
    c.in_ok-into_blurred-in-Some.ensures.kept

pub returns-in_ok-into_blurred-in-Some-clause-heaps : goal.returns-in_ok-into_blurred-in-Some-clause-heaps
returns-in_ok-into_blurred-in-Some-clause-heaps c =
    some-starts c.args.program.now c.requires.valid c.args.s.now c.in_ok-into_blurred-in-Some.field-0
    (some-opening c.args.program.now
    (rules_of c.args.closed.now) c.args.s.now c.in_ok-coerce.field-0 c.in-Some.t
    c.in_ok-into_blurred-in-Some.field-0 c.requires.closed
    (over-shaped c.args.program.now c.args.s.now c.requires.over c.size.ensures.kept)
    c.in_ok-coerce.ensures.exact
    c.in-Some.is c.in_ok-into_blurred-in-Some.ensures.exact c.in_ok-into_blurred-in-Some.ensures.kept)
