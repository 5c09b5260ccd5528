use Rattle.std.proofs.Common.{length}
use Rattle.tv_update.proofs.define.+define_all.Given as goal

abbrev pub decreases-define_all : goal.decreases-define_all
decreases-define_all l = length l.order.now
