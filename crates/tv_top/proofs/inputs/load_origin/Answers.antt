use Rattle.tv_lex.proofs.Begins.{once_begun}
use Rattle.tv_texts.proofs.Begins.{begins_anyway}
use Rattle.tv_top.proofs.inputs.load_origin.Goals as goal

pub returns-in-Program-clause-begins : goal.returns-in-Program-clause-begins
returns-in-Program-clause-begins g c = rw c.in-Program.is c.load_taken.ensures.begins

pub returns-in-Source-clause-begins : goal.returns-in-Source-clause-begins
returns-in-Source-clause-begins g c =
    rw c.in-Source.is (begins_anyway c.load_source.result _ (λ held. 1) _ _ (once_begun _ _ _ c.load_source.ensures.begins))
