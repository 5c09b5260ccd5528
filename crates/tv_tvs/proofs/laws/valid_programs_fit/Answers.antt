use Rattle.tv_tvs.proofs.Valid as valid
use Rattle.tv_tvs.proofs.laws.valid_programs_fit.Goals as goal

pub returns : goal.returns
returns c = valid.valid_fits
