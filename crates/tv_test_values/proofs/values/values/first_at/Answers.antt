use Rattle.tv_test_values.proofs.Settings.{put_here}
use Rattle.tv_test_values.proofs.values.values.first_at.Goals as goal

pub returns : goal.returns
returns c = λ size u_lt.
    put_here size c.new.result c.with.result c.args.found.now.v.0 c.args.u c.with.ensures.places u_lt
