use Rattle.std.proofs.Common.{◌≡◌, ◌-◌}
use Rattle.tv_lex.specs.Token.{spec_tokens}
use Rattle.tv_report.specs.Reading.{structures_end}
use Rattle.tv_report.proofs.syntax.behind_structures.Given as goal

-- the structures that are left end where all of them do
abbrev pub invariant-loop : goal.invariant-loop
invariant-loop l = structures_end l.count (spec_tokens l.bytes l.tokens) ≡ structures_end (l.count - l.counter) (spec_tokens l.bytes l.rest)
