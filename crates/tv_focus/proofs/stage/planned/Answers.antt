use Rattle.std.proofs.Common.{ℕ, List, sym, subst, arith, All, map}
use Rattle.std.proofs.lemmas.List.{length-map, get_or-map}
use Rattle.tv_structure_form.specs.StructureForm.{arities_of}
use Rattle.tv_focus.specs.Seen.{atom_of}
use Rattle.tv_focus.specs.Anchored.{IsAtomOver}
use Rattle.tv_focus.specs.declared.atoms.FocusAtom.{FocusAtom}
use Rattle.tv_focus.proofs.stage.planned.Goals as goal

each-over : (atoms : List FocusAtom) (arities : List ℕ) → All (IsAtomOver arities) (map atom_of atoms)
    → All (λ atom. IsAtomOver arities (atom_of atom)) atoms
each-over atoms arities all k d lt =
    subst (IsAtomOver arities) (get_or-map atom_of atoms k d (atom_of d) lt)
    (all k (atom_of d) (omega (arith, length-map atoms atom_of, lt)))

pub split_of-requires : goal.split_of-requires
split_of-requires c =
    each-over c.as_slice-atoms.result.now (arities_of c.args.s.now)
    (subst (λ xs. All (IsAtomOver (arities_of c.args.s.now)) xs) (sym c.as_slice-atoms.ensures) c.requires.formula)
