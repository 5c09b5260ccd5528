use Rattle.tv_tvs.proofs.RoundTrip as round_trip
use Rattle.tv_tvs.proofs.laws.one_reading.Goals as goal

pub returns : goal.returns
returns c = round_trip.one_reading
