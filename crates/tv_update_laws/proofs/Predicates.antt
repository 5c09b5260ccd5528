-- What is known of a predicate by its number.
use Rattle.std.proofs.Common.{ℕ, ◌≡◌, List, Some, slice_get, ⊎_elim, sym, ap, subst, ◌∙◌}
use Rattle.std.proofs.lemmas.Option.{slice_get_within, get_or_from_slice_get}
use Rattle.tv_model.specs.Form.{Form}
use Rattle.tv_model.specs.Program.{ProgramForm, PredForm, KCore, KDefined}
use Rattle.tv_model.specs.Valid.{IsValid, IsPred}
use Rattle.tv_model.proofs.Programs.{pred-cases}
use Rattle.tv_update_laws.specs.Applied.{kind_or_core, kind_at}

pub kind-found : (p : ProgramForm) (q : ℕ) (d : PredForm) → slice_get p.preds q ≡ Some d
    → kind_at p q ≡ d.kind
kind-found p q d found = ap kind_or_core found

pub valid-pred : (p : ProgramForm) → IsValid p → (q : ℕ) (d : PredForm) → slice_get p.preds q ≡ Some d
    → IsPred p d
valid-pred p valid q d found =
    subst (IsPred p) (get_or_from_slice_get p.preds q d d found)
    (valid.preds q d (slice_get_within p.preds q d found))

-- a predicate with a definition is one of the program
pub defined-found : (p : ProgramForm) (q : ℕ) (vars : List ℕ) (body : Form) → kind_at p q ≡ KDefined vars body
    → (d : PredForm) × (slice_get p.preds q ≡ Some d) × (d.kind ≡ KDefined vars body)
defined-found p q vars body kind =
    ⊎_elim
    (λ found. (found.0, found.1, sym (kind-found p q found.0 found.1) ∙ kind))
    (λ none. let clash : KCore ≡ KDefined vars body = sym (ap kind_or_core none) ∙ kind in absurd (cc))
    (pred-cases p q)
