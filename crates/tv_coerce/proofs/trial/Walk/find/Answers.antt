use Rattle.std.proofs.Common.{[], arith}
use Rattle.std.proofs.lemmas.Option.{slice_get_within}
use Rattle.tv_coerce.specs.Trying.{rule_at}
use Rattle.tv_coerce.proofs.Walking.{found-told, rule-found}
use Rattle.tv_coerce.proofs.trial.Walk.find.Goals as goal

pub walk_none-requires-clause-ready : goal.walk_none-requires-clause-ready
walk_none-requires-clause-ready c = record {
  trial = record {
    number = c.requires.number;
    laid = c.shape-shape.ensures.laid;
    kin = λ n kin. c.shape-shape.ensures.kin n (rule_at c.args.closed.now n) kin (rule-found c.args.closed.now n kin.within);
  };
  structure = c.requires.structure;
  rules = c.requires.rules;
}

pub returns-in_ok-outcome-in-empty-clause-found : goal.returns-in_ok-outcome-in-empty-clause-found
returns-in_ok-outcome-in-empty-clause-found c =
    found-told _ c.args.self.now.noted c.walk_none.new.self.noted _ c.requires.none
    c.in_ok-outcome-in-empty.ensures.told

pub walk_some-requires-clause-ready : goal.walk_some-requires-clause-ready
walk_some-requires-clause-ready c = record {
  trial = record {
    number = c.requires.number;
    laid = c.shape-shape.ensures.laid;
    kin = λ n kin. c.shape-shape.ensures.kin n (rule_at c.args.closed.now n) kin (rule-found c.args.closed.now n kin.within);
  };
  structure = c.requires.structure;
  rules = c.requires.rules;
}

-- nothing was narrowed
pub walk_some-requires-clause-narrowed : goal.walk_some-requires-clause-narrowed
walk_some-requires-clause-narrowed c = λ left word found. absurd (omega (arith, slice_get_within [] left word found))

pub returns-in_ok-outcome-in-len1-up-clause-found : goal.returns-in_ok-outcome-in-len1-up-clause-found
returns-in_ok-outcome-in-len1-up-clause-found c =
    found-told _ c.args.self.now.noted c.walk_some.new.self.noted _ c.requires.none
    c.in_ok-outcome-in-len1-up.ensures.told
