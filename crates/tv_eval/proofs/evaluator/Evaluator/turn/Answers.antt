use Rattle.tv_eval.proofs.evaluator.Evaluator.turn.Goals as goal

pub invariant_of-self : goal.invariant_of-self
invariant_of-self c = (
  c.turn.ensures c.self.inside.structure.now c.self.inside.shared.items c.self.invariant.0,
  c.self.invariant.1,
)
