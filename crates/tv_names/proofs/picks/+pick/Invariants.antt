use Rattle.std.proofs.Common.{◌+◌, ◌*◌}
use Rattle.tv_model.specs.Form.{form_of, height}
use Rattle.tv_names.proofs.picks.+pick.Given as goal

abbrev pub decreases-pick_all : goal.decreases-pick_all
decreases-pick_all l = 4 * height (form_of l.f.now)

abbrev pub decreases-pick_under : goal.decreases-pick_under
decreases-pick_under l = 4 * height (form_of l.f.now) + 1

abbrev pub decreases-pick_under_two : goal.decreases-pick_under_two
decreases-pick_under_two l = 4 * height (form_of l.f.now) + 2

abbrev pub decreases-pick_closure : goal.decreases-pick_closure
decreases-pick_closure l = 4 * height (form_of l.body.now) + 3
