use Rattle.tv_focus_walk.proofs.split.+push_ones.Given as goal

abbrev pub decreases-push_ones : goal.decreases-push_ones
decreases-push_ones l = l.count
