-- Deltas under quantifiers one in the other.
use Rattle.std.proofs.Common.{ℕ, ◌≡◌, ◌∙◌, refl, sym, ap, subst, length, List, [], ◌∷◌, ◌++◌, Option, Bool}
use Rattle.tv_model.specs.Form.{Form}
use Rattle.tv_delta_laws.specs.Deltas.{Delta, delta_of, some, every}
use Rattle.tv_model.specs.declared.quantifiers.Binding.{Binding}
use Rattle.tv_model.specs.declared.quantifiers.Binding.TheVariants.{Exists, Forall}
use Rattle.tv_model.specs.Quantifiers.{bound_by}
use Rattle.tv_model.specs.Program.{ProgramForm}
use Rattle.tv_delta.specs.declared.opening.Opening.{Opening}
use Rattle.tv_delta.specs.Opening.{AreWithin, EndsWithin, atom_at, delta_at}
use Rattle.tv_delta.specs.Quantified.{quantified, quantified_by}

-- the innermost one is the last
pub quantified_last : (bindings : List Binding) (last : Binding) (o : Option Delta)
    → quantified_by (bindings ++ last ∷ []) o ≡ quantified_by bindings (quantified last o)
quantified_last [] last o = refl
quantified_last (binding ∷ bindings) last o = ap (quantified binding) (quantified_last bindings last o)

-- the delta of a formula under quantifiers
pub delta_under : (atoms : ℕ → List ℕ → Option Delta) (affected : List Bool) (bindings : List Binding) (f : Form)
    → delta_of atoms affected (bound_by bindings f) ≡ quantified_by bindings (delta_of atoms affected f)
delta_under atoms affected [] f = refl
delta_under atoms affected (Exists v ∷ bindings) f = ap (some v.0) (delta_under atoms affected bindings f)
delta_under atoms affected (Forall v ∷ bindings) f = ap (every v.0) (delta_under atoms affected bindings f)

-- chains of definitions are as long under quantifiers
pub within_under : (rank : ℕ → ℕ) (n depth : ℕ) (bindings : List Binding) (f : Form)
    → AreWithin rank n depth (bound_by bindings f) → AreWithin rank n depth f
within_under rank n depth [] f within = within
within_under rank n depth (Exists v ∷ bindings) f within = within_under rank n depth bindings f within
within_under rank n depth (Forall v ∷ bindings) f within = within_under rank n depth bindings f within

pub ends_under : (p : ProgramForm) (depth : ℕ) (bindings : List Binding) (f g : Form) → bound_by bindings f ≡ g
    → EndsWithin p depth g → EndsWithin p depth f
ends_under p depth bindings f g parts ends = (
  ends.0,
  within_under (ends.0).rank (length p.preds) depth bindings f
      (subst (λ x. AreWithin (ends.0).rank (length p.preds) depth x) (sym parts) ends.1),
)

pub under_is : (o : Opening) (bindings : List Binding) (f g : Form) → bound_by bindings f ≡ g
    → quantified_by bindings (delta_at o f) ≡ delta_at o g
under_is o bindings f g parts =
    sym (delta_under (atom_at o) o.affected.now bindings f) ∙ ap (delta_at o) parts
