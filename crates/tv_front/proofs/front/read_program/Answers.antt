use Rattle.tv_flat.specs.FlatForm.{flat_of}
use Rattle.tv_front.proofs.front.read_program.Goals as goal

pub returns-clause-valid : goal.returns-clause-valid
returns-clause-valid c = c.in_ok-resolve.ensures.valid (c.flat_forms_are_resolvable.ensures (flat_of c.in_ok-flat.flat) c.in_ok-flat.ensures.flat)
