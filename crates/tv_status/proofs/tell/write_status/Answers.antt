use Rattle.tv_status.specs.Status.{usage_text}
use Rattle.tv_status.proofs.tell.write_status.Goals as goal

pub returns-clause-all : goal.returns-clause-all
unfolding usage_text
returns-clause-all g c = c.write_told.ensures.all

pub returns-clause-front : goal.returns-clause-front
unfolding usage_text
returns-clause-front g c = c.write_told.ensures.front
