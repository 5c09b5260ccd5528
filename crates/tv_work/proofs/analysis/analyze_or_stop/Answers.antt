use Rattle.std.proofs.Common.{refl, subst, List}
use Rattle.tv_model.specs.Program.{program_of}
use Rattle.tv_structure_form.specs.StructureForm.{StructureForm}
use Rattle.tv_work.specs.Explored.{IsExplored}
use Rattle.tv_work.specs.Stopped.{IfWhole}
use Rattle.tv_work.specs.Task.{TaskForm}
use Rattle.tv_work.proofs.Exploring.{explored-analysis, explored-closed, explored-over, explored-runs}
use Rattle.tv_work.proofs.Sorting.{sorted-explored, sorted-strict}
use Rattle.tv_work.proofs.analysis.analyze_or_stop.Goals as goal

pub returns-in-Whole : goal.returns-in-Whole
returns-in-Whole c =
    let valid = c.requires.valid
    in let task : List StructureForm → TaskForm = λ initial. record {
      program = program_of c.args.program.now;
      mode = c.args.mode;
      initial = initial;
      max = c.args.max;
    }
    in let t : TaskForm = task c.args.initial.now
    in let found = c.in-Whole.found
    in let answer = c.in_ok-answer-in-Whole.field-0
    in let lines = c.in_ok-answer-in-Whole.ensures.messages
    in let sorted = c.in_ok-answer-in-Whole.ensures.listing
    in let whole : IsExplored (task c.as_slice.result.now) found.listing found.told
    = subst (IfWhole (λ f. IsExplored (task c.as_slice.result.now) f.listing f.told)) c.in-Whole.is
    c.in_ok-found.ensures.whole
    in let met : IsExplored t found.listing found.told
    = subst (λ (ss : List StructureForm). IsExplored (task ss) found.listing found.told) c.as_slice.ensures whole
    in let explored = sorted-explored found.listing answer.listing sorted t found.told met
    in record {
      exact = explored-analysis t valid answer.listing found.told explored answer.messages lines
          (sorted-strict found.listing answer.listing sorted met.once);
      over = explored-over c.args.program.now t answer.listing found.told refl explored;
      maps = c.in_ok-answer-in-Whole.ensures.maps;
      closed = explored-closed t valid answer.listing found.told explored answer.messages lines;
      runs = explored-runs t valid answer.listing found.told explored answer.messages lines;
      stopped = tt;
      cause = tt;
    }
