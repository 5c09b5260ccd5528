-- The numbers that the closed rules tell.
use Rattle.tv_rules.specs.EntryForms.{rules_of}
use Rattle.tv_rules.specs.Standing.{SeesSummaries}
use Rattle.tv_coerce.proofs.SetLaws.{numbers_within, more_rules}
use Rattle.tv_coerce.proofs.rule_set.RuleSet.add_seeing.Goals as goal

pub insert_all-requires : goal.insert_all-requires
insert_all-requires c =
    numbers_within SeesSummaries (rules_of c.args.closed.now) c.by_sm.result.now c.args.self.now c.by_sm.ensures c.requires

pub returns : goal.returns
returns c =
    more_rules SeesSummaries (rules_of c.args.closed.now) c.by_sm.result.now c.args.self.now c.insert_all.new.self
    c.by_sm.ensures c.insert_all.ensures
