-- The occurrences that the closed rules tell.
use Rattle.tv_model.specs.Program.{head_of}
use Rattle.tv_rules.specs.EntryForms.{rules_of}
use Rattle.tv_rules.specs.Moved.{IsMovedBySome}
use Rattle.tv_rules.specs.Seen.{Sees}
use Rattle.tv_coerce.specs.RuleSets.{IsRuleThat}
use Rattle.tv_coerce.proofs.Waking.{least-fewer}
use Rattle.tv_coerce.proofs.rule_set.RuleSet.add_watching.Goals as goal

pub returns : goal.returns
returns c =
    least-fewer (IsMovedBySome c.args.closed.now c.occurrences.result.now)
    (IsRuleThat (Sees (head_of c.args.head)) (rules_of c.args.closed.now)) c.args.self.now c.insert_families.new.self
    (λ n at. c.occurrences.ensures n at.0 at.1 at.2) c.insert_families.ensures
