use Rattle.tv_update_laws.proofs.Made.{each_choice_has_new_structure}
use Rattle.tv_update_laws.proofs.laws.each_choice_has_new_structure.Goals as goal

pub returns : goal.returns
returns c = λ p valid mode action picks middle keep. each_choice_has_new_structure p valid mode action picks
    middle keep
