use Rattle.std.proofs.Common.{ℕ, Contains, take}
use Rattle.tv_model.specs.Form.{form_of, IsFree}
use Rattle.tv_coerce_members.specs.Members.{numbers_of}
use Rattle.tv_replay_judge.proofs.trial.is_settled.Given as goal

abbrev pub invariant-loop-v : goal.invariant-loop-v
invariant-loop-v l = (w : ℕ) → Contains (numbers_of (take l.v-index l.rest)) w → ¬ IsFree w (form_of l.f)
