-- The new structure of a step: its predicates one by one.
use Rattle.std.proofs.Common.{ℕ, ◌≡◌, ◌<◌, false, List, length, get_or, Option, Some, None, refl, sym, ap}
use Rattle.std.proofs.Common.{subst, ◌∙◌, Contains}
use Rattle.std.specs.Prelude.{slice_get}
use Rattle.std.specs.List.{range_with_len}
use Rattle.std.specs.Option.{option_map}
use Rattle.std.proofs.lemmas.Option.{slice_get-map}
use Rattle.std.proofs.lemmas.List.Elements.{All-contains, All-from_recursion}
use Rattle.tv_update_laws.specs.Applied.{defined_value, kind_at}
use Rattle.tv_update_laws.proofs.Predicates.{kind-found}
use Rattle.tv_update_laws.proofs.Updates.{UpdateOf, update-of}
use Rattle.tv_model.specs.Form.{Form, FZero}
use Rattle.tv_model.specs.Program.{ProgramForm, PredForm, KCore, KDefined, ActionForm, UpdateForm, ChangeForm}
use Rattle.tv_model.specs.Program.{CFree, CTo}
use Rattle.tv_model.specs.Rules.{IsConcrete, IsHeap}
use Rattle.tv_model.specs.Step.{update_for}
use Rattle.tv_model.specs.Truth.{Assignment}
use Rattle.tv_model.specs.Valid.{IsAction, IsChange, IsValid}
use Rattle.tv_structure_form.specs.StructureForm.{StructureForm, IsStructure, arities_of, structure_of}
use Rattle.tv_structure_form.specs.StructureForm.{summary_at}
use Rattle.tv_structure_form.specs.StructureForm.{value_at}
use Rattle.tv_structure_form.specs.TableForm.{AreIndividuals}
use Rattle.tv_structure_form.proofs.Library.{All-individuals, Contains-range}
use Rattle.tv_two_valued.specs.Laws.{IsOfProgram}
use Rattle.tv_two_valued.specs.TwoValued.{IsTwoValued, heap_of}
use Rattle.tv_two_valued.proofs.Heaps.{heap-of_program}
use Rattle.tv_replay_step.specs.Free.{GivesAll, GivesValues, HasFreeIn, IsDefinite, IsFinished, IsShaped}
use Rattle.tv_replay_step.specs.Free.{IsntFree}
use Rattle.tv_replay_step.specs.Free as free
use Rattle.tv_replay_step.specs.Updated.{IsUpdatedTo, kept_of}
use Rattle.tv_replay_step.proofs.Definite.{concrete, definite-where, two-valued}
use Rattle.tv_replay_step.proofs.Made.{definite-kept, origin-inside, value-updated}
use Rattle.tv_replay_step.proofs.Middle.{middle-alike}
use Rattle.tv_replay_step.proofs.Updates.{update-found}

module _ (p : ProgramForm) (valid : IsValid p) (action : ActionForm) (is_action : IsAction p action) (s : StructureForm)
    (is : IsStructure s) (two : IsTwoValued s) (of : IsOfProgram p s) (picked : Assignment)
    (inside : (v : ℕ) → Contains action.picks v → Contains (heap_of s).individuals (picked v))
    (t : StructureForm) (to : IsUpdatedTo p action picked s t) (values : Option StructureForm) (all_given : GivesAll t.size values action.updates)
    (x : StructureForm) (done : IsFinished p action.updates values t x) where
  -- ---- its shape

  shaped_by : (o : Option StructureForm) → (b : StructureForm) → HasFreeIn o action.updates t b → IsShaped t b
  shaped_by None b same = record {
    size = ap (λ (y : StructureForm). y.size) same;
    summaries = ap (λ (y : StructureForm). y.summaries) same;
    over = ap arities_of same;
    fresh = ap (λ (y : StructureForm). y.fresh) same;
  }
  shaped_by (Some vs) b has = has.shaped

  between : IsShaped t done.between
  between = shaped_by values done.between done.has_free

  pub size : x.size ≡ t.size
  size = done.redefined.like.size ∙ between.size

  pub over : arities_of x ≡ arities_of s
  over = done.redefined.like.over ∙ between.over ∙ to.over.over

  pub unmarked : x.fresh ≡ None
  unmarked = done.redefined.like.fresh ∙ between.fresh ∙ to.over.unmarked

  pub of-program : IsOfProgram p x
  of-program = (over ∙ of.0, unmarked)

  names : (k : ℕ) → k < length (kept_of action picked s) → get_or (kept_of action picked s) k 0 ≡ get_or (kept_of action picked s) k 0
  names k lt = refl

  abbrev name : ℕ → ℕ
  name k = get_or (kept_of action picked s) k 0

  plain : (u : ℕ) → u < x.size → summary_at x u ≡ false
  plain u lt =
      let at : Contains (range_with_len 0 t.size) u = Contains-range t.size u (subst (λ n. u < n) size lt)
      in ap (λ fs. get_or fs u false) (done.redefined.like.summaries ∙ between.summaries)
      ∙ to.made.summaries u at
      ∙ sym ((middle-alike s is two FZero action.fresh).summaries (to.made.origin u) (origin-inside p action is_action s is two picked inside t to u at))

  -- ---- core predicates

  not-free : (q : ℕ) → ((w : UpdateForm) → update_for q action.updates ≡ Some w → w.change ≡ CFree → ⊥) → IsntFree action.updates q
  not-free q none w at is_free same =
      none w (subst (λ r. update_for r action.updates ≡ Some w) same (update-found action.updates is_action.updated_once w at)) is_free

  between-same : (o : Option StructureForm) (b : StructureForm) → HasFreeIn o action.updates t b → (q : ℕ) → IsntFree action.updates q
      → (tuple : List ℕ) → value_at b q tuple ≡ value_at t q tuple
  between-same None b same q isnt tuple = ap (λ y. value_at y q tuple) same
  between-same (Some vs) b has q isnt tuple = has.others q tuple isnt

  -- what isn't left free has what its update gave
  pub core-same : (q : ℕ) → kind_at p q ≡ KCore → ((w : UpdateForm) → update_for q action.updates ≡ Some w → w.change ≡ CFree → ⊥)
      → (tuple : List ℕ) → value_at x q tuple ≡ value_at t q tuple
  core-same q core none tuple =
      done.redefined.core q tuple core ∙ between-same values done.between done.has_free q (not-free q none) tuple

  listed : (q : ℕ) (w : UpdateForm) → update_for q action.updates ≡ Some w → UpdateOf p action q w
  listed q w found = update-of p action is_action q w found

  -- what is left free has what was given
  pub core-free : (q : ℕ) (w : UpdateForm) → update_for q action.updates ≡ Some w → w.change ≡ CFree
      → (vs : StructureForm) × (values ≡ Some vs) × (vs.size ≡ t.size) × IsDefinite vs q
      × ((tuple : List ℕ) → AreIndividuals x.size tuple → value_at x q tuple ≡ value_at vs q tuple)
  core-free q w found is_free = by_values values refl
    where
      here : UpdateOf p action q w
      here = listed q w found

      core : kind_at p q ≡ KCore
      core =
          kind-found p q here.pred here.found
          ∙ (let Of : ChangeForm → Type 0 = λ c. IsChange p action here.pred w.vars c in subst Of is_free here.change)

      given : GivesValues t.size values w.pred
      given = All-contains (λ (y : UpdateForm). free.IsFree y → GivesValues t.size values y.pred) action.updates w
          (All-from_recursion (λ (y : UpdateForm). free.IsFree y → GivesValues t.size values y.pred) action.updates all_given) here.listed is_free

      by_values : (o : Option StructureForm) → values ≡ o
          → (vs : StructureForm) × (values ≡ Some vs) × (vs.size ≡ t.size) × IsDefinite vs q
          × ((tuple : List ℕ) → AreIndividuals x.size tuple → value_at x q tuple ≡ value_at vs q tuple)
      by_values None e = absurd (subst (λ o. GivesValues t.size o w.pred) e given)
      by_values (Some vs) e =
          let gives : GivesValues t.size (Some vs) w.pred = subst (λ o. GivesValues t.size o w.pred) e given
          in let has : HasFreeIn (Some vs) action.updates t done.between = subst (λ o. HasFreeIn o action.updates t done.between) e done.has_free
          in (
            vs,
            e,
            gives.0,
            subst (IsDefinite vs) here.its_pred gives.1,
            λ tuple within.
                done.redefined.core q tuple core
                ∙ subst (λ r. value_at done.between r tuple ≡ value_at vs r tuple) here.its_pred
                (has.free w here.listed is_free tuple (subst (λ n. AreIndividuals n tuple) size within)),
          )

  -- ---- it stands for a concrete heap

  arity-is : (q : ℕ) (d : PredForm) → slice_get p.preds q ≡ Some d → (tuple : List ℕ) → slice_get (arities_of x) q ≡ Some (length tuple) → length tuple ≡ d.arity
  arity-is q d found tuple fits =
      some-same (length tuple) d.arity (sym fits ∙ ap (λ ns. slice_get ns q) (over ∙ of.0) ∙ slice_get-map (λ (e : PredForm). e.arity) p.preds q
      ∙ ap (option_map (λ (e : PredForm). e.arity)) found)
    where
      some-same : (a b : ℕ) → Some a ≡ Some b → a ≡ b
      some-same a b e = cc

  definite-core : (q : ℕ) → kind_at p q ≡ KCore → IsDefinite x q
  definite-core q core = by_update (update_for q action.updates) refl
    where
      no-some : (w : UpdateForm) → None ≡ Some w → ⊥
      no-some w e = cc

      some-one : (v w : UpdateForm) → Some v ≡ Some w → v ≡ w
      some-one v w e = cc

      to-free : (f : Form) → CTo f ≡ CFree → ⊥
      to-free f e = cc

      by_update : (o : Option UpdateForm) → update_for q action.updates ≡ o → IsDefinite x q
      by_update None none = definite-where x done.is q (λ tuple fits within half.
          definite-kept p action is_action s is two picked inside t to name names q tuple
          (All-individuals t.size tuple (subst (λ n. AreIndividuals n tuple) size within)) core none
          (sym (core-same q core (λ w found is_free. no-some w (sym none ∙ found)) tuple) ∙ half))
      by_update (Some w) found = by_change w.change refl
        where
          here : UpdateOf p action q w
          here = listed q w found

          by_change : (c : ChangeForm) → w.change ≡ c → IsDefinite x q
          by_change CFree is_free =
              let free_one = core-free q w found is_free
              in definite-where x done.is q (λ tuple fits within half. free_one.3 tuple (sym (free_one.4 tuple within) ∙ half))
          by_change (CTo f) to_f = definite-where x done.is q (λ tuple fits within half.
              let Of : ChangeForm → Type 0 = λ c. IsChange p action here.pred w.vars c
              in (value-updated p action is_action s is two picked inside t to name names q tuple
              (All-individuals t.size tuple (subst (λ n. AreIndividuals n tuple) size within)) w f found to_f
              (arity-is q here.pred here.found tuple fits ∙ sym here.vars.0) (λ v free. (subst Of to_f here.change).1 v free)).definite
              (sym (core-same q core
              (λ v other is_free. to-free f (sym to_f ∙ ap (λ (y : UpdateForm). y.change) (some-one w v (sym found ∙ other)) ∙ is_free)) tuple) ∙ half))

  defined-values : (q : ℕ) (vars : List ℕ) (body : Form) → kind_at p q ≡ KDefined vars body → (tuple : List ℕ) → AreIndividuals x.size tuple
      → value_at x q tuple ≡ defined_value (structure_of x) vars body tuple
  defined-values q vars body kind tuple within =
      done.redefined.defined q vars body kind tuple (subst (λ n. AreIndividuals n tuple) done.redefined.like.size within)

  pub new-two_valued : IsTwoValued x
  new-two_valued = two-valued p valid x done.is plain definite-core defined-values

  pub new-concrete : IsConcrete p (heap_of x)
  new-concrete = concrete p valid x done.is plain definite-core defined-values

  pub new-heap : IsHeap p (heap_of x)
  new-heap = heap-of_program p x done.is of-program
