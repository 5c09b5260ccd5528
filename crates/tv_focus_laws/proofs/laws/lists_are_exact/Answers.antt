use Rattle.tv_focus_laws.proofs.ExactLists.{lists_are_exact}
use Rattle.tv_focus_laws.proofs.laws.lists_are_exact.Goals as goal

pub returns : goal.returns
returns c = lists_are_exact
