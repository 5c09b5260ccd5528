use Rattle.tv_structure_form.proofs.OriginLaws.{are_kept, are_copies}
use Rattle.tv_structure_form.proofs.laws.origins_are_told.Goals as goal

pub returns-clause-kept : goal.returns-clause-kept
returns-clause-kept c = are_kept

pub returns-clause-copies : goal.returns-clause-copies
returns-clause-copies c = are_copies
