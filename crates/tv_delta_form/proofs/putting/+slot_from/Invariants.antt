use Rattle.tv_delta_form.proofs.putting.+slot_from.Given as goal

abbrev pub decreases-slot_from : goal.decreases-slot_from
decreases-slot_from l = l.left
