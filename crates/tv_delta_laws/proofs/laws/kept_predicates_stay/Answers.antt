use Rattle.tv_delta_laws.proofs.AtomTruths.{kept_predicates_stay}
use Rattle.tv_delta_laws.proofs.laws.kept_predicates_stay.Goals as goal

pub returns : goal.returns
returns c = kept_predicates_stay c.truth_is_decided.ensures
