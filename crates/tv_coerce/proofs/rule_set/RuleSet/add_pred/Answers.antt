-- The numbers that the closed rules tell.
use Rattle.tv_rules.specs.EntryForms.{rules_of}
use Rattle.tv_rules.specs.Standing.{StandsIn}
use Rattle.tv_coerce.proofs.SetLaws.{numbers_within, more_rules}
use Rattle.tv_coerce.proofs.rule_set.RuleSet.add_pred.Goals as goal

pub insert_all-requires : goal.insert_all-requires
insert_all-requires c =
    numbers_within (StandsIn c.args.p.0) (rules_of c.args.closed.now) c.by_pred.result.now c.args.self.now c.by_pred.ensures c.requires

pub returns : goal.returns
returns c =
    more_rules (StandsIn c.args.p.0) (rules_of c.args.closed.now) c.by_pred.result.now c.args.self.now c.insert_all.new.self
    c.by_pred.ensures c.insert_all.ensures
