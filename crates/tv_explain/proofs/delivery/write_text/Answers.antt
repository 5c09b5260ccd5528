use Rattle.tv_explain.specs.Faults.{usage_text}
use Rattle.tv_explain.proofs.delivery.write_text.Goals as goal

pub returns-in-As-clause-all : goal.returns-in-As-clause-all
unfolding usage_text
returns-in-As-clause-all g c = rw c.in-As.is c.write_told.ensures.all

pub returns-in-As-clause-front : goal.returns-in-As-clause-front
unfolding usage_text
returns-in-As-clause-front g c = rw c.in-As.is c.write_told.ensures.front
