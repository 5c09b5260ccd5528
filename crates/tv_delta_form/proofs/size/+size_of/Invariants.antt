use Rattle.tv_model.specs.Form.{form_of, height}
use Rattle.tv_delta_form.proofs.size.+size_of.Given as goal

abbrev pub decreases-size_of : goal.decreases-size_of
decreases-size_of l = height (form_of l.f.now)
