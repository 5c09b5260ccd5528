use Rattle.tv_names.proofs.picks.+pick.Goals as goal

pub pick_under-returns : goal.pick_under-returns
pick_under-returns t c = rw (← c.below.ensures.occurrences) c.pick_all.ensures

pub pick_under_two-returns : goal.pick_under_two-returns
pick_under_two-returns t c = rw (← c.with.ensures _) c.pick_under.ensures
