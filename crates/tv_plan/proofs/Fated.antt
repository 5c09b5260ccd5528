-- Values are as they are fated.
use Rattle.std.proofs.Common.{ℕ, ◌≡◌, ◌∙◌, Bool, true, false, List, map, Option, None, Some, inl, sym, ap}
use Rattle.std.proofs.Common.{All}
use Rattle.std.proofs.Common.{Contains, arith, refl, subst, suc}
use Rattle.std.proofs.lemmas.Bool.{false≢true}
use Rattle.tv_lemmas.proofs.Bools.{same_tests}
use Rattle.tv_model.specs.declared.program.Mode.{Mode}
use Rattle.tv_model.specs.Form.{Form}
use Rattle.tv_model.specs.Program.{ActionForm, KindForm, KDefined, ProgramForm, UpdateForm}
use Rattle.tv_model.specs.Truth.{Assignment}
use Rattle.tv_model.specs.Valid.{IsValid}
use Rattle.tv_embedding_laws.specs.LogicalStructure.{LogicalStructure}
use Rattle.tv_update_laws.specs.Applied.{AreChanged, IsChanged, IsNew, MovesIndividuals, kind_at, new_value}
use Rattle.tv_update_laws.specs.Applied.{update_at}
use Rattle.tv_update_laws.proofs.Determined.{changed-too}
use Rattle.tv_plan.specs.Fates.{fate_of}
use Rattle.tv_plan.specs.Laws.{FatesAreTrue, IsAsFated}

-- an action changes the same predicates, whoever tells it
changed-same : (p : ProgramForm) → IsValid p → (mode : Mode) (action : ActionForm) (one other : ℕ → Bool)
    → AreChanged p mode action one → AreChanged p mode action other → (q : ℕ) → one q ≡ other q
changed-same p valid mode action one other a b q =
    same_tests (one q) (other q)
    (changed-too p mode action valid.rank valid.no_cycle one other a b (suc (valid.rank q)) q (omega arith))
    (changed-too p mode action valid.rank valid.no_cycle other one b a (suc (valid.rank q)) q (omega arith))

module _ (p : ProgramForm) (valid : IsValid p) (mode : Mode) (action : ActionForm) (q : ℕ) (vars : List ℕ)
    (body : Form) (kind : kind_at p q ≡ KDefined vars body) (picks : Assignment) (middle : LogicalStructure)
    (keep : ℕ → Bool) (new : LogicalStructure) (is : IsNew p mode action picks middle keep new)
    (changed : ℕ → Bool) (are : AreChanged p mode action changed) (tuple : List ℕ)
    (all : All (Contains new.individuals) tuple) where
  -- no individual comes or goes where a defined predicate isn't changed
  still : (used : Option UpdateForm) → update_at p mode action q ≡ used → used ≡ None → changed q ≡ false
      → ¬ MovesIndividuals action
  still used u none quiet moves = false≢true (sym quiet ∙ (are q).1
      (subst (λ (o : Option UpdateForm). IsChanged action changed o (kind_at p q)) (sym (u ∙ none))
      (subst (λ (k : KindForm). IsChanged action changed None k) (sym kind) (inl moves))))

  has : (used : Option UpdateForm) → update_at p mode action q ≡ used → (c : Bool) → changed q ≡ c
      → new.value q tuple
      ≡ new_value middle new picks c used (KDefined vars body) q (map is.origin tuple) tuple
  has used u c e =
      let N : Bool → Option UpdateForm → KindForm → _
      = λ ch o k. new_value middle new picks ch o k q (map is.origin tuple) tuple
      in is.values q tuple all
      ∙ ap (λ ch. N ch (update_at p mode action q) (kind_at p q))
      (changed-same p valid mode action is.changed changed is.are_changed are q ∙ e)
      ∙ ap (λ o. N c o (kind_at p q)) u ∙ ap (λ k. N c used k) kind

  pub as-fated : (used : Option UpdateForm) → update_at p mode action q ≡ used → (c : Bool) → changed q ≡ c
      → IsAsFated action picks middle new vars body (fate_of used c) q (map is.origin tuple) tuple
  as-fated (Some w) u c e = has (Some w) u c e
  as-fated None u true e = has None u true e
  as-fated None u false e = (has None u false e, still None u refl e)

pub fated : FatesAreTrue
fated p valid mode action q fate (changed, are, same) vars body kind picks middle keep new is tuple all =
    subst (λ f. IsAsFated action picks middle new vars body f q (map is.origin tuple) tuple) (sym same)
    (as-fated p valid mode action q vars body kind picks middle keep new is changed are tuple all
    (update_at p mode action q) refl (changed q) refl)
