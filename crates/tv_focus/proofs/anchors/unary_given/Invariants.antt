use Rattle.std.proofs.Common.{◌≡◌, map, take}
use Rattle.tv_structure_form.specs.StructureForm.{structure_of}
use Rattle.tv_focus.specs.Anchored.{given_by_unary}
use Rattle.tv_focus.specs.Seen.{atom_of, anchors_form}
use Rattle.tv_focus.proofs.anchors.unary_given.Given as goal

abbrev pub invariant-loop-atom : goal.invariant-loop-atom
invariant-loop-atom l =
    map anchors_form l.given.items ≡ given_by_unary (structure_of l.s) (map atom_of (take l.atom-index l.atoms))
