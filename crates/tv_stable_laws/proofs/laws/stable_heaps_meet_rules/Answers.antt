use Rattle.tv_stable_laws.proofs.InHeaps.{stable_heaps_meet_rules}
use Rattle.tv_stable_laws.proofs.laws.stable_heaps_meet_rules.Goals as goal

pub returns : goal.returns
returns c = stable_heaps_meet_rules
