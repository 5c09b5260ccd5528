use Rattle.std.proofs.Common.{◌≡◌, map, take}
use Rattle.std.specs.Prelude.{fold}
use Rattle.tv_structure_form.specs.StructureForm.{structure_of}
use Rattle.tv_focus_laws.specs.FocusAtoms.{by_binary}
use Rattle.tv_focus.specs.Anchored.{given_by_unary}
use Rattle.tv_focus.specs.Seen.{atom_of, anchors_form}
use Rattle.tv_focus.proofs.anchors.anchors_in.Given as goal

abbrev pub invariant-loop-atom : goal.invariant-loop-atom
invariant-loop-atom l =
    map anchors_form l.given.items
    ≡ fold (λ given atom. by_binary (structure_of l.s) given atom.pred atom.vars)
    (given_by_unary (structure_of l.s) (map atom_of l.atoms)) (map atom_of (take l.atom-index l.atoms))
