use Rattle.tv_tvs.proofs.RoundTrip as round_trip
use Rattle.tv_tvs.proofs.laws.structures_are_read_again.Goals as goal

pub returns : goal.returns
returns c = round_trip.read_again
