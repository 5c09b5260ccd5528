use Rattle.std.proofs.Common.{◌≡◌}
use Rattle.tv_model.specs.Form.{form_of}
use Rattle.tv_replay_judge.proofs.Compared.{ValueRows}
use Rattle.tv_replay_judge.proofs.defined.has_values_at_pairs.Given as goal

-- the first rows are those of the formula
abbrev pub invariant-loop-u : goal.invariant-loop-u
invariant-loop-u l = (l.evaluator ≡ l.initial.evaluator) × ValueRows l.s l.p.0 (form_of l.f) l.v.0 l.w.0 l.u
