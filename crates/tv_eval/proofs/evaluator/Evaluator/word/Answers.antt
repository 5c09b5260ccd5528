use Rattle.tv_model.specs.Form.{form_of}
use Rattle.tv_eval.proofs.Rooms.{rooms_for}
use Rattle.tv_eval.proofs.evaluator.Evaluator.word.Goals as goal

pub word_of-requires-clause-parts : goal.word_of-requires-clause-parts
word_of-requires-clause-parts c = record {
  formula = c.requires.formula;
  assigned = c.requires.assigned;
  rooms = rooms_for c.args.self.now (form_of c.args.f.now) c.args.self.now.structure.size c.requires.fits;
}
