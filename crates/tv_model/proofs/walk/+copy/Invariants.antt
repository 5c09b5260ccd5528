use Rattle.std.proofs.Common.{◌+◌, ◌*◌}
use Rattle.tv_model.specs.Form.{form_of, height}
use Rattle.tv_model.proofs.walk.+copy.Given as goal

abbrev pub decreases-copy : goal.decreases-copy
decreases-copy l = 2 * height (form_of l.f.now)

abbrev pub decreases-boxed : goal.decreases-boxed
decreases-boxed l = 2 * height (form_of l.f.now) + 1

abbrev pub decreases-copy_under : goal.decreases-copy_under
decreases-copy_under l = 2 * height (form_of l.f.now) + 1
