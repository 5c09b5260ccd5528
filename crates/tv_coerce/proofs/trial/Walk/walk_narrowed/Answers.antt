-- The members are over the structure's predicates.
use Rattle.tv_eval.specs.Bound.{bound_room}
use Rattle.tv_coerce.proofs.Placing.{member-over, own-kin}
use Rattle.tv_coerce.proofs.Walking.{can-try-kin}
use Rattle.tv_coerce.proofs.trial.Walk.walk_narrowed.Goals as goal

pub narrow-words-requires-clause-over : goal.narrow-words-requires-clause-over
narrow-words-requires-clause-over c = λ k m there.
    let trial = c.args.trial.now
    in let is = c.requires.ready.trial
    in member-over trial is k m there (bound_room c.args.self.now.evaluator) (can-try-kin trial _ trial.number
    (own-kin trial is) c.requires.ready.rules)

pub walk_chunks-requires-clause-ready : goal.walk_chunks-requires-clause-ready
walk_chunks-requires-clause-ready c =
    let is = c.requires.ready.trial
    in record {
      trial = record { number = is.number; laid = is.laid; kin = is.kin };
      structure = c.requires.ready.structure;
      rules = c.requires.ready.rules;
    }

pub walk_chunks-requires-clause-begun : goal.walk_chunks-requires-clause-begun
walk_chunks-requires-clause-begun c = record {
  variables = c.requires.begun.variables;
  own = c.requires.begun.own;
  some = c.requires.begun.some;
}
