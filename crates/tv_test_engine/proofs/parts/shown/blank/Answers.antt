use Rattle.tv_test_engine.proofs.Arities.{small_five}
use Rattle.tv_test_engine.proofs.parts.shown.blank.Goals as goal

pub new-requires-clause-arities : goal.new-requires-clause-arities
new-requires-clause-arities c = small_five c.in_ok-vocab.vocab.preds c.in_ok-vocab.ensures
