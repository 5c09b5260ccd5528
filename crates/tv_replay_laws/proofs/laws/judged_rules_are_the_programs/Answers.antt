use Rattle.tv_replay_laws.proofs.JudgedRules.{judged_are_all}
use Rattle.tv_replay_laws.proofs.laws.judged_rules_are_the_programs.Goals as goal

pub returns : goal.returns
returns c = judged_are_all
