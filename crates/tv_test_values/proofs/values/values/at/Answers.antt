use Rattle.tv_test_values.proofs.Settings.{put_here, put_there}
use Rattle.tv_test_values.proofs.values.values.at.Goals as goal

pub returns-clause-v : goal.returns-clause-v
returns-clause-v c = λ size u_lt x_lt.
    put_there size c.with.result c.with-2.result c.args.found.now.v.0 c.args.found.now.w.0 c.args.x c.with-2.ensures.places x_lt
    (put_here size c.new.result c.with.result c.args.found.now.v.0 c.args.u c.with.ensures.places u_lt)

pub returns-clause-w : goal.returns-clause-w
returns-clause-w c = λ size x_lt.
    put_here size c.with.result c.with-2.result c.args.found.now.w.0 c.args.x c.with-2.ensures.places x_lt
