use Rattle.tv_model.specs.Form.{form_of}
use Rattle.tv_structure_form.specs.StructureForm.{structure_of}
use Rattle.tv_eval.specs.AssignmentForm.{assignment_of}
use Rattle.tv_eval.proofs.Covers.{covers}
use Rattle.tv_eval.proofs.Rooms.{rooms_for}
use Rattle.tv_eval.proofs.evaluator.Evaluator.value.Goals as goal

pub value_of-requires : goal.value_of-requires
value_of-requires c = record {
  parts = record {
    formula = c.requires.formula;
    assigned = c.requires.assigned;
    rooms = rooms_for c.args.self.now (form_of c.args.f.now) c.args.self.now.structure.size c.requires.fits;
  };
}

pub returns-clause-covers : goal.returns-clause-covers
returns-clause-covers c =
    covers (form_of c.args.f.now) (structure_of c.args.self.now.structure) (assignment_of c.args.a.now)
    c.value_of.result
    c.value_of.ensures.exact
