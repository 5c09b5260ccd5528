use Rattle.tv_eval.proofs.evaluator.Evaluator.new.Goals as goal

pub invariant_of-result : goal.invariant_of-result
invariant_of-result c = (c.new.ensures.kept c.args.s.now c.take-rooms.result.1.items, c.take-rooms.ensures.sizes)
