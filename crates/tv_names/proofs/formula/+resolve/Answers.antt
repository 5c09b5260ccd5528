use Rattle.tv_tree.specs.Copies.{form_of as tree_of}
use Rattle.tv_model.specs.Form.{FExists, FForall}
use Rattle.tv_names.specs.Copies.{naming_of, place_form}
use Rattle.tv_names.specs.Resolving.{resolved}
use Rattle.tv_names.proofs.BindingLaws.{bound_in_turn}
use Rattle.tv_names.proofs.formula.+resolve.Goals as goal

pub resolve_formula-returns-in-Atom : goal.resolve_formula-returns-in-Atom
resolve_formula-returns-in-Atom t c = rw (c.in-Atom.is, ← c.as_slice.ensures) c.named_atom.ensures

pub resolve_formula-returns-in-Star : goal.resolve_formula-returns-in-Star
resolve_formula-returns-in-Star t c = rw c.in-Star.is c.star.ensures

pub resolve_formula-returns-in-Plus : goal.resolve_formula-returns-in-Plus
resolve_formula-returns-in-Plus t c = rw c.in-Plus.is c.plus.ensures

pub resolve_formula-returns-in-Exists : goal.resolve_formula-returns-in-Exists
unfolding resolved
resolve_formula-returns-in-Exists t c =
    rw (
      c.in-Exists.is,
      ← c.as_slice-in-Exists.ensures,
      ← c.deref-in-Exists.ensures,
      bound_in_turn FExists (λ inner s. resolved inner (tree_of c.deref-in-Exists.result.now) s)
          (place_form c.args.place.now) c.as_slice-in-Exists.result.now (naming_of c.args.naming.now),
    )
    c.quantified.ensures

pub resolve_formula-returns-in-Forall : goal.resolve_formula-returns-in-Forall
unfolding resolved
resolve_formula-returns-in-Forall t c =
    rw (
      c.in-Forall.is,
      ← c.as_slice-in-Forall.ensures,
      ← c.deref-in-Forall.ensures,
      bound_in_turn FForall (λ inner s. resolved inner (tree_of c.deref-in-Forall.result.now) s)
          (place_form c.args.place.now) c.as_slice-in-Forall.result.now (naming_of c.args.naming.now),
    )
    c.quantified-in-Forall.ensures
