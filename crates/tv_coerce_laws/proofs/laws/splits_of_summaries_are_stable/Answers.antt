use Rattle.tv_coerce_laws.proofs.Splits.{splits_of_summaries_are_stable}
use Rattle.tv_coerce_laws.proofs.laws.splits_of_summaries_are_stable.Goals as goal

pub returns : goal.returns
returns c = splits_of_summaries_are_stable
