use Rattle.tv_test_engine.proofs.Arities.{small_four}
use Rattle.tv_test_engine.proofs.parts.limits.structure.Goals as goal

pub new-requires-clause-arities : goal.new-requires-clause-arities
new-requires-clause-arities c = small_four c.in_ok-four.field-0.preds c.in_ok-four.ensures
