use Rattle.tv_model.specs.Form.{form_of}
use Rattle.tv_eval.proofs.Rooms.{rooms_for}
use Rattle.tv_eval.proofs.evaluator.Evaluator.row.Goals as goal

pub row_of-requires : goal.row_of-requires
row_of-requires c = record {
  parts = record {
    formula = c.requires.formula;
    assigned = c.requires.assigned;
    rooms = rooms_for c.args.self.now (form_of c.args.f.now) c.args.self.now.structure.size c.requires.fits;
  };
}
