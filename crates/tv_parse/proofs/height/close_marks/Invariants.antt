use Rattle.std.proofs.Common.{◌≡◌, reverse, vec_len}
use Rattle.tv_parse.specs.Height.{without_marks}
use Rattle.tv_parse.proofs.height.close_marks.Given as goal

-- only marks have gone
abbrev pub invariant-marks : goal.invariant-marks
invariant-marks l = without_marks (reverse l.stack.items) ≡ without_marks (reverse l.fn.stack.items)

abbrev pub decreases-marks : goal.decreases-marks
decreases-marks l = vec_len l.stack
