-- How far coerce has come; and what is left are unknown values.
use Rattle.std.proofs.Common.{◌≡◌, []}
use Rattle.tv_rules.specs.EntryForms.{rules_of}
use Rattle.tv_structure_form.specs.Halves.{half_count}
use Rattle.tv_coerce.specs.Attempts.{IsOnTheWay}
use Rattle.tv_coerce.proofs.greatest.settle.Given as goal

abbrev pub invariant-loop-noted : goal.invariant-loop-noted
invariant-loop-noted l =
    IsOnTheWay (rules_of l.closed) l.waiting l.fn.t l.t × (l.scratch ≡ l.fn.scratch) × (l.noted.list.items ≡ [])

abbrev pub decreases-loop-noted : goal.decreases-loop-noted
decreases-loop-noted l = half_count l.t
