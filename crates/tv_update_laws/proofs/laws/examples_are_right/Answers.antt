use Rattle.std.proofs.Common.{ℕ, ◌≡◌, ◌↔◌, true, [], ◌∷◌, Option, Some, None, inl, refl, sym, ap, subst, ◌∙◌}
use Rattle.std.proofs.Common.{Contains, IsTrue}
use Rattle.std.proofs.lemmas.List.Elements.{All-nil, All-cons}
use Rattle.tv_kleene.specs.declared.K3.{K3}
use Rattle.tv_kleene.specs.declared.K3.TheVariants.{Yes}
use Rattle.tv_kleene.proofs.Thresholds.{Must, Must-is, must_threshold}
use Rattle.tv_model.specs.declared.program.Mode.{Mode}
use Rattle.tv_model.specs.declared.program.Mode.TheVariants.{Given, Recompute}
use Rattle.tv_model.specs.Form.{FAtom, FExists, FIsNew}
use Rattle.tv_model.specs.Program.{KCore, UpdateForm, CTo}
use Rattle.tv_model.specs.Rules.{blank}
use Rattle.tv_model.proofs.Lists.{Contains-here}
use Rattle.tv_embedding_laws.specs.LogicalStructure.{LogicalStructure}
use Rattle.tv_eval_laws.specs.Value.{value, mark_value}
use Rattle.tv_eval_laws.proofs.Folds.{greatest-threshold}
use Rattle.tv_eval_laws.proofs.Entries.{mark-Must}
use Rattle.tv_update_laws.specs.Applied.{IsGrown, IsNew, IsChanged, new_value, update_at, kind_at}
use Rattle.tv_update_laws.specs.Examples.{some_program, adding, nothing}
use Rattle.tv_update_laws.proofs.Filters.{kept-new}
use Rattle.tv_update_laws.proofs.laws.examples_are_right.Goals as goal

either_mode : (mode : Mode) (middle t : LogicalStructure) → IsGrown nothing middle
    → (is : IsNew some_program mode adding blank middle (λ u. true) t)
    → (update_at some_program mode adding 1 ≡ None)
    → (update_at some_program mode adding 0 ≡ Some
    (record { pred = 0; vars = 0 ∷ []; change = CTo (FIsNew 0) }))
    → t.value 1 [] ≡ Yes
either_mode mode middle t grown is none some =
    let With : Option UpdateForm → Type 0 =
    λ o. IsTrue (is.changed 1) ↔ IsChanged adding is.changed o (kind_at some_program 1)
    in let changed : is.changed 1 ≡ true = (subst With none (is.are_changed 1)).1 (inl (inl refl))
    in let first : t.value 1 [] ≡ value t blank (FExists 0 (FAtom 0 (0 ∷ [])))
    = is.values 1 [] (All-nil (Contains t.individuals))
    ∙ ap (λ (o : Option UpdateForm). new_value middle t blank (is.changed 1) o
    (kind_at some_program 1) 1 [] []) none
    ∙ ap (λ ch. new_value middle t blank ch None (kind_at some_program 1) 1 [] []) changed
    in let last : Contains middle.individuals grown.further
    = subst (λ us. Contains us grown.further) (sym grown.individuals) (Contains-here grown.further [])
    in let d : (u : ℕ) × Contains t.individuals u × (is.origin u ≡ grown.further) =
    kept-new is.origin t.individuals middle.individuals (λ u. true) is.origins grown.further last refl
    in let atom : t.value 0 (d.0 ∷ []) ≡ Yes
    = is.values 0 (d.0 ∷ []) (All-cons (Contains t.individuals) d.0 [] d.1 (All-nil (Contains t.individuals)))
    ∙ ap (λ (o : Option UpdateForm). new_value middle t blank (is.changed 0) o KCore 0 (is.origin d.0 ∷ [])
    (d.0 ∷ [])) some
    ∙ (Must-is (mark_value middle.fresh (is.origin d.0))).0
    (mark-Must middle.fresh (is.origin d.0) (grown.mark ∙ ap (λ (u : ℕ). Some u) (sym d.2)))
    in let At : K3 → Type 0 = λ k. Must k
    in first ∙ (Must-is (value t blank (FExists 0 (FAtom 0 (0 ∷ []))))).0
    ((greatest-threshold Must must_threshold (λ u. t.value 0 (u ∷ [])) t.individuals).1
    (d.0, d.1, subst At (sym atom) tt))

added : (mode : Mode) (middle t : LogicalStructure) → IsGrown nothing middle
    → IsNew some_program mode adding blank middle (λ u. true) t → t.value 1 [] ≡ Yes
added Given middle t grown is = either_mode Given middle t grown is refl refl
added Recompute middle t grown is = either_mode Recompute middle t grown is refl refl

pub returns : goal.returns
returns c = record { choices = refl; picked = refl; added = added }
