use Rattle.tv_focus.proofs.sets.+push_picks_to.Given as goal

abbrev pub decreases-push_picks_to : goal.decreases-push_picks_to
decreases-push_picks_to l = l.count
