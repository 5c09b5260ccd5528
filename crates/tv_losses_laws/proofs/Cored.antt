-- The program in which a predicate is core is valid, and steps in it.
use Rattle.std.proofs.Common.{ℕ, zero, ◌+◌, ◌≡◌, ◌≢◌, ◌≤◌, ◌∙◌, Bool, true, false, List, [], ◌∷◌, map, length}
use Rattle.std.proofs.Common.{Some, refl, sym, ap, subst, arith, All, AllPairs, slice_get, eqb-true}
use Rattle.std.specs.Prelude.{suc, ◌==◌}
use Rattle.std.proofs.lemmas.List.Elements.{All-cons, All-head, All-nil, All-tail, All-weaker}
use Rattle.std.proofs.lemmas.Option.{none-some, same_Some}
use Rattle.tv_model.specs.Heap.{Heap, IsTuple, extent}
use Rattle.tv_model.specs.Program.{ProgramForm, PredForm, EachPred, KindForm, KCore, KDefined, ActionForm}
use Rattle.tv_model.specs.Program.{ChangeForm, CFree, CTo, UpdateForm}
use Rattle.tv_model.specs.Rules.{IsHeap, IsConcrete, MeetsDefinition, MeetsProgram, MeetsRule, property_rules}
use Rattle.tv_model.specs.Step.{FollowsUpdate, StepsThrough, update_for}
use Rattle.tv_model.specs.Truth.{Assignment}
use Rattle.tv_model.specs.Valid.{IsAction, IsChange, IsKind, IsMessage, IsPlainFormula, IsPred, IsRank}
use Rattle.tv_model.specs.Valid.{IsRule, IsUpdate, IsValid, program_arities}
use Rattle.tv_losses_laws.specs.Updated.{AgreesWithUpdate, cored_pred, cored_preds, with_core}
use Rattle.tv_losses_laws.proofs.Over.{message-over, new-over, plain-over, precondition-over, retain-over}
use Rattle.tv_losses_laws.proofs.Over.{rule-over}

-- ---- predicates by their numbers

-- a predicate, and the one that it was: another one only at the number q
record WasCored (q k : ℕ) (preds : List PredForm) (number : ℕ) (d : PredForm) : Type 0 where
  pub on : Bool
  pub before : PredForm
  pub at : slice_get preds number ≡ Some before
  pub is : cored_pred on before ≡ d
  pub tells : on ≡ true → k + number ≡ q

was-cored : (q k : ℕ) (preds : List PredForm) (number : ℕ) (d : PredForm)
    → slice_get (cored_preds q k preds) number ≡ Some d → WasCored q k preds number d
was-cored q k [] number d found = absurd (none-some d found)
was-cored q k (x ∷ preds) zero d found = record {
  on = k == q;
  before = x;
  at = refl;
  is = same_Some (cored_pred (k == q) x) d found;
  tells = λ e. omega (arith, eqb-true k q e);
}
was-cored q k (x ∷ preds) (suc number) d found =
    let rest = was-cored q (suc k) preds number d found in
    record {
      on = rest.on;
      before = rest.before;
      at = rest.at;
      is = rest.is;
      tells = λ e. omega (arith, rest.tells e);
    }

cored-there : (q k : ℕ) (preds : List PredForm) (number : ℕ) (d : PredForm) → slice_get preds number ≡ Some d
    → (on : Bool) × (slice_get (cored_preds q k preds) number ≡ Some (cored_pred on d))
cored-there q k [] number d found = absurd (none-some d found)
cored-there q k (x ∷ preds) zero d found =
    (k == q, ap (λ y. Some (cored_pred (k == q) y)) (same_Some x d found))
cored-there q k (x ∷ preds) (suc number) d found = cored-there q (suc k) preds number d found

each-cored : (q : ℕ) (P Q : ℕ → PredForm → Type 0) (preds : List PredForm)
    → ((number : ℕ) (on : Bool) (d : PredForm) → slice_get preds number ≡ Some d → (on ≡ true → number ≡ q)
    → P number d → Q number (cored_pred on d))
    → EachPred preds P → EachPred (cored_preds q 0 preds) Q
each-cored q P Q preds f all number d found =
    let was : WasCored q 0 preds number d = was-cored q 0 preds number d found
    in subst (Q number) was.is
    (f number was.on was.before was.at (λ e. omega (arith, was.tells e)) (all number was.before was.at))

pub arities-cored : (q k : ℕ) (preds : List PredForm)
    → map (λ d. d.arity) (cored_preds q k preds) ≡ map (λ d. d.arity) preds
arities-cored q k [] = refl
arities-cored q k (d ∷ preds) = ap (λ ns. d.arity ∷ ns) (arities-cored q (suc k) preds)

names-cored : (q k : ℕ) (preds : List PredForm)
    → map (λ d. d.name) (cored_preds q k preds) ≡ map (λ d. d.name) preds
names-cored q k [] = refl
names-cored q k (d ∷ preds) = ap (λ ns. d.name ∷ ns) (names-cored q (suc k) preds)

length-cored : (q k : ℕ) (preds : List PredForm) → length (cored_preds q k preds) ≡ length preds
length-cored q k [] = refl
length-cored q k (d ∷ preds) = ap suc (length-cored q (suc k) preds)

-- ---- what is valid stays so

defined-before : (on : Bool) (d : PredForm) (vars : List ℕ) (body : _)
    → (cored_pred on d).kind ≡ KDefined vars body → d.kind ≡ KDefined vars body
defined-before true d vars body is = absurd (cc (is))
defined-before false d vars body is = is

module _ (q : ℕ) (p : ProgramForm) where
  same : program_arities (with_core q p) ≡ program_arities p
  same = arities-cored q 0 p.preds

  kind-cored : (arity : ℕ) (kind : KindForm) → IsKind p arity kind → IsKind (with_core q p) arity kind
  kind-cored arity KCore is = tt
  kind-cored arity (KDefined vars body) is = (is.0, plain-over p (with_core q p) same body is.1, is.2)

  pred-cored : (on : Bool) (d : PredForm) → IsPred p d → IsPred (with_core q p) (cored_pred on d)
  pred-cored true d is = record { name = is.name; arity = is.arity; kind = tt; props = is.props }
  pred-cored false d is = record {
    name = is.name;
    arity = is.arity;
    kind = kind-cored d.arity d.kind is.kind;
    props = is.props;
  }

  preds-cored : (k : ℕ) (preds : List PredForm) → All (IsPred p) preds
      → All (IsPred (with_core q p)) (cored_preds q k preds)
  preds-cored k [] all = All-nil (IsPred (with_core q p))
  preds-cored k (d ∷ preds) all =
      All-cons (IsPred (with_core q p)) (cored_pred (k == q) d) (cored_preds q (suc k) preds)
      (pred-cored (k == q) d (All-head (IsPred p) d preds all))
      (preds-cored (suc k) preds (All-tail (IsPred p) d preds all))

  free-cored : (on : Bool) (d : PredForm) → d.kind ≡ KCore → (cored_pred on d).kind ≡ KCore
  free-cored true d is = refl
  free-cored false d is = is

  change-cored : (action : ActionForm) (on : Bool) (d : PredForm) (vars : List ℕ) (change : ChangeForm)
      → IsChange p action d vars change → IsChange (with_core q p) action (cored_pred on d) vars change
  change-cored action on d vars CFree is = free-cored on d is
  change-cored action on d vars (CTo f) is = (new-over p (with_core q p) same action.fresh f is.0, is.1)

  update-cored : (action : ActionForm) (w : UpdateForm) → IsUpdate p action w
      → IsUpdate (with_core q p) action w
  update-cored action w (d, found, vars, change) =
      let there : (on : Bool) × (slice_get (cored_preds q 0 p.preds) w.pred ≡ Some (cored_pred on d))
      = cored-there q 0 p.preds w.pred d found
      in (cored_pred there.0 d, there.1, vars, change-cored action there.0 d w.vars w.change change)

  action-cored : (action : ActionForm) → IsAction p action → IsAction (with_core q p) action
  action-cored action is = record {
    precondition = precondition-over p (with_core q p) same action.pre action.picks is.precondition;
    focus = All-weaker (IsPlainFormula p) (IsPlainFormula (with_core q p)) (plain-over p (with_core q p) same)
        action.focus is.focus;
    messages = All-weaker (IsMessage p) (IsMessage (with_core q p)) (message-over p (with_core q p) same)
        action.messages is.messages;
    message_count = is.message_count;
    retain = retain-over p (with_core q p) same action action.retain is.retain;
    updates = All-weaker (IsUpdate p action) (IsUpdate (with_core q p) action) (update-cored action)
        action.updates is.updates;
    updated_once = is.updated_once;
  }

  rank-cored : (rank : ℕ → ℕ) → IsRank p rank → IsRank (with_core q p) rank
  rank-cored rank is = record {
    falls = λ number d found vars body defined r mentions.
        let was : WasCored q 0 p.preds number d = was-cored q 0 p.preds number d found
        in is.falls number was.before was.at vars body
        (defined-before was.on was.before vars body
        (subst (λ (x : PredForm). x.kind ≡ KDefined vars body) (sym was.is) defined)) r mentions;
  }

  pub cored-valid : IsValid p → IsValid (with_core q p)
  cored-valid valid = record {
    preds = preds-cored 0 p.preds valid.preds;
    pred_names_differ = subst (AllPairs ◌≢◌) (sym (names-cored q 0 p.preds)) valid.pred_names_differ;
    pred_count = subst (λ n. n ≤ 512) (sym (length-cored q 0 p.preds)) valid.pred_count;
    rank = valid.rank;
    no_cycle = rank-cored valid.rank valid.no_cycle;
    rules = All-weaker (IsRule p) (IsRule (with_core q p)) (rule-over p (with_core q p) same) p.rules
        valid.rules;
    rule_count = valid.rule_count;
    actions = All-weaker (IsAction p) (IsAction (with_core q p)) action-cored p.actions valid.actions;
    edges = valid.edges;
    some_edge = valid.some_edge;
    edge_count = valid.edge_count;
    nodes = valid.nodes;
    node_names_differ = valid.node_names_differ;
    node_count = valid.node_count;
  }

  -- ---- heaps and steps

  pub heap-cored : (h : Heap) → IsHeap p h → IsHeap (with_core q p) h
  heap-cored h is = record {
    individuals_differ = is.individuals_differ;
    one_extent_each = is.one_extent_each ∙ sym (length-cored q 0 p.preds);
    tuples_fit = each-cored q (λ r d. All (IsTuple h d.arity) (extent h r))
        (λ r d. All (IsTuple h d.arity) (extent h r)) p.preds (λ r on d found tells all. all) is.tuples_fit;
    no_mark = is.no_mark;
  }

  definition-cored : (h : Heap) (r : ℕ) (on : Bool) (d : PredForm) (tuple : List ℕ)
      → MeetsDefinition h r d.kind tuple → MeetsDefinition h r (cored_pred on d).kind tuple
  definition-cored h r true d tuple meets = tt
  definition-cored h r false d tuple meets = meets

  pub concrete-cored : (h : Heap) → IsConcrete p h → IsConcrete (with_core q p) h
  concrete-cored h is =
      each-cored q (λ r d. (tuple : List ℕ) → IsTuple h d.arity tuple → MeetsDefinition h r d.kind tuple)
      (λ r d. (tuple : List ℕ) → IsTuple h d.arity tuple → MeetsDefinition h r d.kind tuple) p.preds
      (λ r on d found tells meets tuple fits. definition-cored h r on d tuple (meets tuple fits)) is

  pub meets-cored : (h : Heap) → MeetsProgram p h → MeetsProgram (with_core q p) h
  meets-cored h meets = record {
    rules = meets.rules;
    properties = each-cored q (λ r d. All (MeetsRule h) (property_rules r d.props))
        (λ r d. All (MeetsRule h) (property_rules r d.props)) p.preds (λ r on d found tells all. all)
        meets.properties;
  }

  -- what the update of q says is what the step follows there
  pub step-cored : (action : ActionForm) (picked : Assignment) (old middle new : Heap)
      → StepsThrough p action picked old middle new
      → (d : PredForm) → slice_get p.preds q ≡ Some d → (w : UpdateForm) → update_for q action.updates ≡ Some w
      → AgreesWithUpdate q d.arity w picked middle new
      → StepsThrough (with_core q p) action picked old middle new
  step-cored action picked old middle new step d there w its agrees = record {
    old_heap = heap-cored old step.old_heap;
    picks_individuals = step.picks_individuals;
    precondition = step.precondition;
    is_middle = step.is_middle;
    keeps = step.keeps;
    core = each-cored q
        (λ r e. e.kind ≡ KCore → (tuple : List ℕ) → IsTuple new e.arity tuple
        → FollowsUpdate r middle picked (update_for r action.updates) tuple new)
        (λ r e. e.kind ≡ KCore → (tuple : List ℕ) → IsTuple new e.arity tuple
        → FollowsUpdate r middle picked (update_for r action.updates) tuple new) p.preds
        follows step.core;
    new_heap = heap-cored new step.new_heap;
    concrete = concrete-cored new step.concrete;
  }
    where
      at-q : (e : PredForm) → slice_get p.preds q ≡ Some e → (tuple : List ℕ) → IsTuple new e.arity tuple
          → FollowsUpdate q middle picked (update_for q action.updates) tuple new
      at-q e found tuple fits =
          let arity : e.arity ≡ d.arity
          = ap (λ (x : PredForm). x.arity) (same_Some e d (sym found ∙ there))
          in subst (λ o. FollowsUpdate q middle picked o tuple new) (sym its)
          (agrees tuple (subst (λ n. IsTuple new n tuple) arity fits))

      follows : (r : ℕ) (on : Bool) (e : PredForm) → slice_get p.preds r ≡ Some e → (on ≡ true → r ≡ q)
          → (e.kind ≡ KCore → (tuple : List ℕ) → IsTuple new e.arity tuple
          → FollowsUpdate r middle picked (update_for r action.updates) tuple new)
          → (cored_pred on e).kind ≡ KCore → (tuple : List ℕ) → IsTuple new e.arity tuple
          → FollowsUpdate r middle picked (update_for r action.updates) tuple new
      follows r false e found tells before core tuple fits = before core tuple fits
      follows r true e found tells before core tuple fits =
          let is : r ≡ q = tells refl
          in subst (λ n. FollowsUpdate n middle picked (update_for n action.updates) tuple new) (sym is)
          (at-q e (subst (λ n. slice_get p.preds n ≡ Some e) is found) tuple fits)
