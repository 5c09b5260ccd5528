use Rattle.tv_model.specs.Program.{action_of}
use Rattle.tv_replay_judge.specs.Same.{IsSameAt}
use Rattle.tv_replay_judge.proofs.Preds.{HoldsBelow}
use Rattle.tv_replay_judge.proofs.differing.first_differing.Given as goal

-- the first predicates are the same
abbrev pub invariant-loop-number : goal.invariant-loop-number
invariant-loop-number l = HoldsBelow l.program.vocab.preds (IsSameAt (action_of l.action) l.given l.new) l.number
