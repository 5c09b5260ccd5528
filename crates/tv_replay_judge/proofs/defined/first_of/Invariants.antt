use Rattle.std.proofs.Common.{◌≡◌}
use Rattle.tv_replay_laws.specs.Judged.{IsAsDefined}
use Rattle.tv_two_valued.specs.TwoValued.{heap_of}
use Rattle.tv_replay_judge.proofs.Preds.{HoldsBelow}
use Rattle.tv_replay_judge.proofs.defined.first_of.Given as goal

-- the first predicates are as defined
abbrev pub invariant-loop-number : goal.invariant-loop-number
invariant-loop-number l =
    (l.evaluator ≡ l.initial.evaluator) × HoldsBelow l.program.vocab.preds (IsAsDefined (heap_of l.s)) l.number
