use Rattle.tv_start_laws.proofs.Fibring.{ordinaries_fit}
use Rattle.tv_start_laws.proofs.ordinaries_fit.Goals as goal

pub returns : goal.returns
returns c = ordinaries_fit
