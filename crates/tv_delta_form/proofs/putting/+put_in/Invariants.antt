use Rattle.std.proofs.Common.{◌+◌, ◌*◌}
use Rattle.tv_model.specs.Form.{form_of, height}
use Rattle.tv_delta_form.proofs.putting.+put_in.Given as goal

abbrev pub decreases-put_in : goal.decreases-put_in
decreases-put_in l = 2 * height (form_of l.f.now)

abbrev pub decreases-put_under : goal.decreases-put_under
decreases-put_under l = 2 * height (form_of l.f.now) + 1

abbrev pub decreases-put_boxed : goal.decreases-put_boxed
decreases-put_boxed l = 2 * height (form_of l.f.now) + 1
