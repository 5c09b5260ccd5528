use Rattle.std.proofs.Common.{map, take}
use Rattle.tv_focus.specs.Seen.{atom_of}
use Rattle.tv_focus.proofs.Given.{given_within}
use Rattle.tv_focus.proofs.anchors.anchors_in.Goals as goal

pub by_binary-requires-clause-within : goal.by_binary-requires-clause-within
by_binary-requires-clause-within c =
    rw (c.loop-atom.invariant)
    (given_within c.args.s.now (map atom_of c.args.atoms.now) (map atom_of (take c.loop-atom.atom-index c.args.atoms.now)))
