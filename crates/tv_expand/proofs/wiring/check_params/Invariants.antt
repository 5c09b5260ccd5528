use Rattle.std.proofs.Common.{◌≡◌, drop, []}
use Rattle.tv_expand.specs.Outcome.{each}
use Rattle.tv_expand.specs.Sets.{once}
use Rattle.tv_expand.specs.Views.{names_of}
use Rattle.tv_expand.proofs.wiring.check_params.Given as goal

-- the parameters so far and those that are left give what all give
abbrev pub invariant-loop-param : goal.invariant-loop-param
invariant-loop-param l = each once (drop l.param-index l.params) (names_of l.seen.keys) ≡ each once l.params []
