use Rattle.tv_model.specs.Form.{form_of, height}
use Rattle.tv_quantifiers.proofs.chains.+are_linked.Given as goal

abbrev pub decreases-are_linked : goal.decreases-are_linked
decreases-are_linked l = height (form_of l.f.now)
