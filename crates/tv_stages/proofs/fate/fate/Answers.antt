use Rattle.std.proofs.Common.{subst, sym}
use Rattle.tv_coerce.specs.Ready.{CanCoerce}
use Rattle.tv_coerce.proofs.Ready.{closed_rules_can_be_tried}
use Rattle.tv_losses_unmet.specs.Unmet.{IsFound}
use Rattle.tv_model.specs.declared.program.Program.{Program}
use Rattle.tv_model.specs.Program.{program_of}
use Rattle.tv_rules.specs.EntryForms.{rules_of}
use Rattle.tv_structure_form.specs.StructureForm.{IsOver}
use Rattle.tv_step_laws.proofs.Shapes.{over-shaped}
use Rattle.tv_stages.specs.Tasks.{task_program}
use Rattle.tv_stages.proofs.Coercing.{coerced-fate, dropped-fate}
use Rattle.tv_stages.proofs.fate.fate.Goals as goal

pub coerce-requires : goal.coerce-requires
coerce-requires c =
    subst (λ rules. CanCoerce rules c.args.s.now c.args.tools.now.scratch) (sym c.requires.ready.rules)
    (closed_rules_can_be_tried c.args.x.now.program.now c.args.s.now c.args.tools.now.scratch c.requires.ready.valid
    c.requires.over c.size.ensures.kept c.requires.ready.room)

pub first_unmet-requires : goal.first_unmet-requires
first_unmet-requires c =
    subst (λ (q : Program). IsOver q.vocab c.args.s.now) (sym c.requires.ready.declared) c.requires.over

pub returns-in_ok-first_unmet-in-None-clause-fate : goal.returns-in_ok-first_unmet-in-None-clause-fate
returns-in_ok-first_unmet-in-None-clause-fate c =
    let x = c.args.x.now
    in (
      dropped-fate (task_program x) (rules_of x.closed.now) c.args.s.now c.in_ok-coerce.field-0
          c.requires.ready.rules c.in_ok-coerce.ensures.exact c.in-None.is,
      subst (λ (q : Program). IsFound (program_of q) c.args.s.now c.in_ok-first_unmet-in-None.field-0)
          c.requires.ready.declared c.in_ok-first_unmet-in-None.ensures.found,
    )

pub returns-in-Some-clause-fate : goal.returns-in-Some-clause-fate
returns-in-Some-clause-fate c =
    let x = c.args.x.now
    in coerced-fate (task_program x) (rules_of x.closed.now) c.args.s.now c.in_ok-coerce.field-0 c.in-Some.t
    c.requires.ready.rules (over-shaped x.program.now c.args.s.now c.requires.over c.size.ensures.kept)
    c.in_ok-coerce.ensures.exact c.in-Some.is
