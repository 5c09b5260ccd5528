-- What is known of atoms.
use Rattle.std.proofs.Common.{ℕ, ◌≡◌, ◌∙◌, List, [], ◌∷◌, ◌++◌, Some, Contains, sym, ap}
use Rattle.std.specs.Prelude.{slice_get, option_map}
use Rattle.std.proofs.lemmas.List.Elements.{All-same, All-push}
use Rattle.tv_model.specs.Form.{vars_of}
use Rattle.tv_model.proofs.Lists.{slice_get-contains}
use Rattle.tv_delta_form.specs.Views.{delta_form}
use Rattle.tv_delta.specs.declared.memo.Entry.{Entry}
use Rattle.tv_delta.specs.declared.opening.Opening.{Opening}
use Rattle.tv_delta.specs.Opening.{atom_at, atom_for, AreKnownAt, IsKnown, IsOf}

pub in_list : (entries : List Entry) (i : ℕ) (e : Entry) → slice_get entries i ≡ Some e → Contains entries e
in_list entries i e at = slice_get-contains entries i e at

pub known_is : (o : Opening) (e : Entry) (q : ℕ) (args : List ℕ)
    → IsKnown o.program.now o.action.now o.affected.now e → IsOf e (vars_of o.own) q args
    → atom_at o q args ≡ option_map delta_form e.delta
known_is o e q args known of =
    ap (λ x. atom_for o.program.now o.action.now o.affected.now x q args) (sym of.same_own)
    ∙ ap (λ x. atom_for o.program.now o.action.now o.affected.now (vars_of e.own) x args) (sym of.same_pred)
    ∙ ap (λ x. atom_for o.program.now o.action.now o.affected.now (vars_of e.own) e.pred.0 x) (sym of.same_args)
    ∙ known

-- one entry more
pub known_more : (o : Opening) (old new : List Entry) (e : Entry) → new ≡ old ++ e ∷ [] → vars_of o.own ≡ vars_of e.own
    → AreKnownAt o old → atom_at o e.pred.0 (vars_of e.args) ≡ option_map delta_form e.delta → AreKnownAt o new
known_more o old new e pushed own known is =
    All-same (IsKnown o.program.now o.action.now o.affected.now) new (old ++ e ∷ []) pushed
    (All-push (IsKnown o.program.now o.action.now o.affected.now) old e known
    (ap (λ x. atom_for o.program.now o.action.now o.affected.now x e.pred.0 (vars_of e.args)) (sym own) ∙ is))
