-- A definition that is opened has at most 65,536 nodes once arguments are put in.
use Rattle.std.proofs.Common.{◌+◌, ◌*◌}
use Rattle.tv_model.specs.Form.{form_of}
use Rattle.tv_delta_laws.specs.Simple.{nodes}
use Rattle.tv_delta.proofs.opening.+delta_of.Given as goal

abbrev pub decreases-delta_of : goal.decreases-delta_of
decreases-delta_of l = l.depth * 65537 + nodes (form_of l.f.now)
