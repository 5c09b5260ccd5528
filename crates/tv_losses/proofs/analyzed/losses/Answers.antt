use Rattle.std.proofs.Common.{sym, subst, All}
use Rattle.tv_model.specs.Program.{program_of}
use Rattle.tv_structure_form.specs.StructureForm.{IsOver, StructureForm}
use Rattle.std.specs.Prelude.{List}
use Rattle.tv_work.specs.Reach.{IsReached}
use Rattle.tv_losses.proofs.Answering.{are-losses, work-cause}
use Rattle.tv_losses.proofs.analyzed.losses.Goals as goal

pub losses_in-requires : goal.losses_in-requires
losses_in-requires c =
    let exact = c.in_ok-analysis.ensures.exact
    in record {
      valid = c.requires.valid;
      made = c.in_ok-stepper.ensures;
      initial = subst (All (IsOver c.args.program.now.vocab)) (sym c.as_slice.ensures) c.requires.initial;
      nodes = exact.nodes;
      over = c.in_ok-analysis.ensures.over;
      reached = λ at has.
          subst (λ (ss : List StructureForm). IsReached (program_of c.args.program.now) c.args.mode ss at)
          (sym c.as_slice.ensures) ((exact.exact at.node at.structure).0 has);
    }

pub returns-clause-losses : goal.returns-clause-losses
returns-clause-losses c =
    are-losses (program_of c.args.program.now) c.args.mode c.args.initial.now c.as_slice.result.now
    c.as_slice.ensures c.args.max c.losses_in.result c.in_ok-analysis.analysis.listing
    c.in_ok-analysis.analysis.messages c.in_ok-analysis.ensures.exact c.losses_in.ensures.losses

pub returns-clause-cause : goal.returns-clause-cause
returns-clause-cause c =
    work-cause (program_of c.args.program.now) c.args.mode c.args.initial.now c.as_slice.result.now
    c.as_slice.ensures c.args.max c.losses_in.result c.losses_in.ensures.cause
