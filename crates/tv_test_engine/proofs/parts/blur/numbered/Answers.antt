use Rattle.tv_test_engine.proofs.Arities.{small_six}
use Rattle.tv_test_engine.proofs.parts.blur.numbered.Goals as goal

pub new-requires-clause-arities : goal.new-requires-clause-arities
new-requires-clause-arities c = small_six c.args.vocab.now.preds c.requires
