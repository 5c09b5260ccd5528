-- A run goes on by fair steps from its start heap, so the lemma on stages applies.
use Rattle.tv_model.proofs.Runs.{brought-covered}
use Rattle.tv_model.proofs.laws.runs_stay_covered.Goals as goal

pub returns : goal.returns
returns g c = λ p mode start stages run covered closed node h brought.
    brought-covered p mode g.C.Cover.covers closed 0 start stages run.goes_on covered node h brought
