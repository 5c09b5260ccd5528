use Rattle.std.proofs.Common.{◌≡◌, take}
use Rattle.tv_model.specs.Program.{picks_of}
use Rattle.tv_names.specs.Picks.{flagged}
use Rattle.tv_names.proofs.place.Known.with_all.Given as goal

abbrev pub invariant-loop-v : goal.invariant-loop-v
invariant-loop-v l = l.known.flags ≡ flagged l.fn.self.flags (picks_of (take l.v-index l.vars))
