use Rattle.tv_structure_form.proofs.ListLaws.{in_one, in_two}
use Rattle.tv_structure_form.proofs.laws.lists_embed.Goals as goal

pub returns : goal.returns
returns c = record { in_one = in_one; in_two = in_two }
