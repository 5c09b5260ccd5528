-- The rules that were taken out so far are met; and what is left are rules that wait.
use Rattle.std.proofs.Common.{◌≡◌, []}
use Rattle.tv_rules.specs.EntryForms.{rules_of}
use Rattle.tv_coerce.specs.RuleSets.{member_count}
use Rattle.tv_coerce.proofs.Attempting.{AttemptedUpTo}
use Rattle.tv_coerce.proofs.trial.Walk.attempt.Given as goal

abbrev pub invariant-loop-number : goal.invariant-loop-number
invariant-loop-number l =
    AttemptedUpTo (rules_of l.closed) l.s l.waiting l.fn.self.evaluator l.self.evaluator × (l.self.noted.list.items
    ≡ [])

abbrev pub decreases-loop-number : goal.decreases-loop-number
decreases-loop-number l = member_count l.waiting
