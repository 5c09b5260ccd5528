use Rattle.tv_coerce_sets.proofs.Turning.{tells-same}
use Rattle.tv_coerce_sets.proofs.turned.Turned.nothing.Goals as goal

pub returns : goal.returns
returns c x = tells-same _ x
