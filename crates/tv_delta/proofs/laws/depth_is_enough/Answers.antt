use Rattle.tv_delta.proofs.Depth.{depth_is_enough}
use Rattle.tv_delta.proofs.laws.depth_is_enough.Goals as goal

pub returns : goal.returns
returns c = depth_is_enough
