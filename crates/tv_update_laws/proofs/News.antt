-- The new heap embeds in the new structure of the choice.
use Rattle.std.specs.Prelude.{IsSome, unwrap_or}
use Rattle.std.proofs.Common.{ℕ, ◌≡◌, ◌≢◌, ◌<◌, ◌↔◌, Bool, true, false, List, [], ◌∷◌, length, map, Option}
use Rattle.std.proofs.Common.{None, Some, slice_get, inl, inr, ⊎_elim, refl, sym, ap, subst, ◌∙◌, All}
use Rattle.std.proofs.Common.{Contains, IsTrue, eqb, eq-eqb, ne_eqb, arith, zero, suc}
use Rattle.std.proofs.lemmas.Bool.{cases_eq, cond-true, cond-false, false≢true}
use Rattle.std.proofs.lemmas.List.Elements.{All-map, All-contains, Contains-append_left}
use Rattle.std.proofs.lemmas.List.{length-map}
use Rattle.tv_model.proofs.Lists.{map-compose}
use Rattle.tv_kleene.specs.declared.K3.{K3}
use Rattle.tv_kleene.specs.declared.K3.TheVariants.{No}
use Rattle.tv_kleene.specs.Kleene.{LiesUnder}
use Rattle.tv_model.specs.declared.program.Mode.{Mode}
use Rattle.tv_model.specs.Form.{Form, Mentions}
use Rattle.tv_model.specs.Heap.{Heap, Holds}
use Rattle.tv_model.specs.Program.{ProgramForm, PredForm, KindForm, KCore, KDefined, ActionForm, RetainForm}
use Rattle.tv_model.specs.Program.{UpdateForm}
use Rattle.tv_model.specs.Rules.{MeetsDefinition, blank}
use Rattle.tv_model.specs.Step.{Keeps, update_for, with_new, IsMiddle, StepsThrough, AgreesWithGiven}
use Rattle.tv_model.specs.Step.{FairlySteps}
use Rattle.tv_model.specs.Truth.{Assignment, Truth, put, put_all}
use Rattle.tv_model.specs.Valid.{IsValid, IsKind, IsAction}
use Rattle.tv_model.proofs.Programs.{pred-cases, holds-nothing, holds-fits}
use Rattle.tv_model.proofs.Decided.{Contains-decided}
use Rattle.tv_model.proofs.Assignments.{put-other}
use Rattle.tv_embedding_laws.specs.LogicalStructure.{LogicalStructure, heap_structure}
use Rattle.tv_embedding_laws.specs.Embedding.{EmbedsOn, Embeds, KeepsMark, EmbedsWithMarks, IsHeapOf}
use Rattle.tv_eval_laws.specs.Value.{value}
use Rattle.tv_eval_laws.specs.Laws.{TakesAlong}
use Rattle.tv_eval_laws.proofs.Embedded.{GoesTo, embedded-value}
use Rattle.tv_eval_laws.proofs.InHeaps.{tells-truth, tells-atom}
use Rattle.tv_update_laws.specs.Applied.{IsGrown, IsMiddleOf, defined_value, used_update, kind_or_core}
use Rattle.tv_update_laws.specs.Applied.{kind_at, update_at, MovesIndividuals, IsChanged, AreChanged}
use Rattle.tv_update_laws.specs.Applied.{new_value, IsNew}
use Rattle.tv_update_laws.specs.Laws.{HasChoice, SomeChoiceHasHeap}
use Rattle.tv_update_laws.proofs.Filters.{kept-origin, kept-new}
use Rattle.tv_update_laws.proofs.Facts.{told-same, tuple-agreed}
use Rattle.tv_update_laws.proofs.Middle.{Growing, fresh-embeds}
use Rattle.tv_update_laws.proofs.Puts.{put_all-goes}
use Rattle.tv_update_laws.proofs.Passing.{IsStill, Passing, after, kept_above, kept-image, kept-preimage}
use Rattle.tv_update_laws.proofs.Passing.{choice, kept-lies, misfit-no, updated-lies}
use Rattle.tv_update_laws.proofs.Updates.{used-core, UpdateOf, update-of}
use Rattle.tv_update_laws.proofs.Predicates.{kind-found, valid-pred}
use Rattle.tv_update_laws.proofs.Ranks.{core-kept, Resting, rests}

-- the new structure of the choice
abbrev pub Made : Passing → LogicalStructure → Type 0
Made c t = IsNew c.p c.mode c.action c.picks c.above (kept_above c) t

-- h takes each individual of the new heap to one that comes from its image in the middle structure
abbrev pub Follows : (c : Passing) (t : LogicalStructure) → Made c t → (ℕ → ℕ) → Type 0
Follows c t is h = (u : ℕ) → Contains c.new.individuals u
    → Contains t.individuals (h u) × (is.origin (h u) ≡ c.g u)

pub follower : (c : Passing) (t : LogicalStructure) (is : Made c t) → (h : ℕ → ℕ) × Follows c t is h
follower c t is = (λ u. (chosen u).0, λ u at. (chosen u).1 at)
  where
    found : (u w : ℕ) → (x : ℕ) × Contains t.individuals x × (is.origin x ≡ w)
        → (x : ℕ) × (Contains c.new.individuals u → Contains t.individuals x × (is.origin x ≡ w))
    found u w (x, at, e) = (x, λ anywhere. (at, e))

    chosen : (u : ℕ) → (x : ℕ)
        × (Contains c.new.individuals u → Contains t.individuals x × (is.origin x ≡ c.g u))
    chosen u = ⊎_elim
        (λ at. found u (c.g u)
        (kept-new is.origin t.individuals c.above.individuals (kept_above c) is.origins (c.g u)
        (c.embeds.into u ((c.keeps u).0 at).0) (kept-image c u at)))
        (λ none. (0, λ at. absurd (none at)))
        (Contains-decided c.new.individuals u)

-- all that an embedding asks for, other than values
frame : (c : Passing) (t : LogicalStructure) (is : Made c t) (h : ℕ → ℕ) → Follows c t is h → (P : ℕ → Type 0)
    → ((q : ℕ) → P q → (tuple : List ℕ) → All (Contains c.new.individuals) tuple
    → LiesUnder ((after c).value q tuple) (t.value q (map h tuple)))
    → EmbedsOn P h (after c) t
frame c t is h follows P values = record {
  into = λ u at. (follows u at).0;
  onto = λ w at.
      let kept : Contains c.above.individuals (is.origin w) × IsTrue (kept_above c (is.origin w)) =
      kept-origin is.origin t.individuals c.above.individuals (kept_above c) is.origins w at
      in let d : (u : ℕ) × Contains c.new.individuals u × (c.g u ≡ is.origin w) =
      kept-preimage c (is.origin w) kept.1
      in (d.0, d.1, is.differ (h d.0) w (follows d.0 d.1).0 at ((follows d.0 d.1).1 ∙ d.2));
  values = values;
  summaries = λ u at sm. absurd (false≢true sm);
  several = λ u w hu hw differ same.
      let one : c.g u ≡ c.g w = sym (follows u hu).1 ∙ ap is.origin same ∙ (follows w hw).1
      in let above : IsTrue (c.above.is_summary (c.g u)) =
      c.embeds.several u w ((c.keeps u).0 hu).0 ((c.keeps w).0 hw).0 differ one
      in is.summaries (h u) (follows u hu).0 ∙ ap c.above.is_summary (follows u hu).1 ∙ above;
}

-- what a changed definition says of the new heap lies under what it says of the new structure
defined-lies : (c : Passing) (t : LogicalStructure) (h : ℕ → ℕ) → IsValid c.p → (P : ℕ → Type 0)
    → EmbedsOn P h (after c) t
    → (q : ℕ) (d : PredForm) → slice_get c.p.preds q ≡ Some d → (vars : List ℕ) (body : Form)
    → d.kind ≡ KDefined vars body → ((r : ℕ) → Mentions r body → P r)
    → (tuple : List ℕ) → All (Contains c.new.individuals) tuple
    → LiesUnder ((after c).value q tuple) (defined_value t vars body (map h tuple))
defined-lies c t h valid P embeds q d found vars body kind among tuple all =
    ⊎_elim fitting misfitting (cases_eq (length (map h tuple)) (length vars))
  where
    is : IsKind c.p d.arity (KDefined vars body)
    is = subst (IsKind c.p d.arity) kind (valid-pred c.p valid q d found).kind

    Above : K3 → Type 0
    Above y = LiesUnder ((after c).value q tuple) y

    takes : length (map h tuple) ≡ length vars
        → TakesAlong h (after c) body (put_all blank vars tuple) (put_all blank vars (map h tuple))
    takes fits v free = put_all-goes (GoesTo h (after c)) h vars tuple (sym (length-map tuple h) ∙ fits)
        (λ k x lt. (all k x lt, refl)) (λ x. ⊥) blank blank (λ x never. absurd never) v (inl (is.2 v free))

    fitting : length (map h tuple) ≡ length vars
        → LiesUnder ((after c).value q tuple) (defined_value t vars body (map h tuple))
    fitting fits =
        let At : KindForm → Type 0 = λ k. MeetsDefinition c.new q k tuple
        in let meets : Holds c.new q tuple ↔ Truth c.new (put_all blank vars tuple) body
        = subst At kind (c.concrete q d found tuple (sym (length-map tuple h) ∙ fits ∙ is.0.0, all))
        in let same : (after c).value q tuple ≡ value (after c) (put_all blank vars tuple) body
        = told-same ((after c).value q tuple) (value (after c) (put_all blank vars tuple) body)
        (Holds c.new q tuple)
        (Truth c.new (put_all blank vars tuple) body)
        (tells-atom c.new q tuple)
        (tells-truth c.new (put_all blank vars tuple) body (λ v free. (takes fits v free).0)) meets
        in let Under : K3 → Type 0 = λ x. LiesUnder x (value t (put_all blank vars (map h tuple)) body)
        in subst Above (sym (cond-true (eqb (length (map h tuple)) (length vars))
        (value t (put_all blank vars (map h tuple)) body) No (eq-eqb _ _ fits)))
        (subst Under (sym same)
        (embedded-value P h (after c) t embeds body among (λ n. absurd (is.1.1 n))
        (put_all blank vars tuple) (put_all blank vars (map h tuple)) (takes fits)))

    misfitting : length (map h tuple) ≢ length vars
        → LiesUnder ((after c).value q tuple) (defined_value t vars body (map h tuple))
    misfitting misfit =
        inl (misfit-no c q d found tuple (λ f. misfit (length-map tuple h ∙ f ∙ sym is.0.0))
        ∙ sym (cond-false (eqb (length (map h tuple)) (length vars))
        (value t (put_all blank vars (map h tuple)) body) No (ne_eqb _ _ misfit)))

no-retain : (o : Option RetainForm) → (IsSome o → ⊥) → o ≡ None
no-retain None n = refl
no-retain (Some r) n = absurd (n refl)

resting : (c : Passing) (changed : ℕ → Bool) → AreChanged c.p c.mode c.action changed
    → (¬ MovesIndividuals c.action) → Resting c changed
resting c changed are rest =
    let still : IsStill c.p c.middle = c.still rest
    in let none : c.action.retain ≡ None = no-retain c.action.retain (λ s. rest (inr s))
    in record {
      are = are;
      still = still;
      same = λ u. (
        λ at. ((c.keeps u).0 at).0,
        λ at. (c.keeps u).1
            (at, subst (λ o. Keeps c.middle c.picked o u) (sym none) tt),
      );
    }

-- the value of the predicate q lies under its new value, where those of lower rank do
module _ (c : Passing) (valid : IsValid c.p) (t : LogicalStructure) (is : Made c t) (h : ℕ
    → ℕ) (follows : Follows c t is h)
    (n q : ℕ) (below : valid.rank q < suc n) (lower : EmbedsOn (λ r. valid.rank r < n) h (after c) t)
    (tuple : List ℕ) (all : All (Contains c.new.individuals) tuple) where
  abbrev New : Bool → Option UpdateForm → KindForm → Type 0
  New b used kind = LiesUnder ((after c).value q tuple)
      (new_value c.above t c.picks b used kind q (map c.g tuple) (map h tuple))

  -- a defined predicate without an update that counts
  without_update : (d : PredForm) → slice_get c.p.preds q ≡ Some d → (vars : List ℕ) (body : Form)
      → d.kind ≡ KDefined vars body
      → used_update c.mode (KDefined vars body) (update_for q c.action.updates) ≡ None
      → (b : Bool) → is.changed q ≡ b → New b None (KDefined vars body)
  without_update d found vars body kind none true e =
      defined-lies c t h valid (λ r. valid.rank r < n) lower q d found vars body kind
      (λ r m. omega (arith, below, valid.no_cycle.falls q d found vars body kind r m)) tuple all
  without_update d found vars body kind none false e =
      kept-lies c q tuple all (rests c is.changed rest valid (suc n) q below e tuple)
    where
      still : MovesIndividuals c.action → ⊥
      still moves =
          let At : KindForm → Type 0 =
          λ x. IsTrue (is.changed q)
          ↔ IsChanged c.action is.changed (used_update c.mode x (update_for q c.action.updates)) x
          in let With : Option UpdateForm → Type 0 =
          λ o. IsTrue (is.changed q) ↔ IsChanged c.action is.changed o (KDefined vars body)
          in false≢true (sym e ∙
          (subst With none (subst At (kind-found c.p q d found ∙ kind) (is.are_changed q))).1 (inl moves))

      rest : Resting c is.changed
      rest = resting c is.changed is.are_changed still

  by_update : (d : PredForm) → slice_get c.p.preds q ≡ Some d
      → (kind : KindForm) → d.kind ≡ kind → (used : Option UpdateForm)
      → used_update c.mode kind (update_for q c.action.updates) ≡ used
      → New (is.changed q) used kind
  by_update d found kind k (Some w) u = updated-lies c q d found kind k w u tuple all
  by_update d found KCore k None u =
      kept-lies c q tuple all
      (core-kept c q d found k (sym (used-core c.mode (update_for q c.action.updates)) ∙ u) tuple all)
  by_update d found (KDefined vars body) k None u = without_update d found vars body k u (is.changed q) refl

  outside : slice_get c.p.preds q ≡ None → (used : Option UpdateForm)
      → used_update c.mode KCore (update_for q c.action.updates) ≡ used
      → New (is.changed q) used KCore
  outside none None u = kept-lies c q tuple all (
    λ held. absurd (holds-nothing c.p c.new c.new_heap q tuple none held),
    λ held. absurd (c.nothing q none tuple held),
  )
  outside none (Some w) u =
      let facts : UpdateOf c.p c.action q w =
      update-of c.p c.action c.valid q w (sym (used-core c.mode (update_for q c.action.updates)) ∙ u)
      in let clash : None ≡ Some facts.pred = sym none ∙ facts.found
      in absurd (cc)

  by_kind : (kind : KindForm) → kind_at c.p q ≡ kind
      → New (is.changed q) (used_update c.mode kind (update_for q c.action.updates)) kind
      → New (is.changed q) (update_at c.p c.mode c.action q) (kind_at c.p q)
  by_kind kind k lies =
      let At : KindForm → Type 0 =
      λ x. New (is.changed q) (used_update c.mode x (update_for q c.action.updates)) x
      in subst At (sym k) lies

  step-lies : LiesUnder ((after c).value q tuple) (t.value q (map h tuple))
  step-lies =
      let inside : All (Contains t.individuals) (map h tuple) =
      All-map (Contains t.individuals) h tuple (λ k d lt. (follows _ (all k d lt)).0)
      in let origins : map is.origin (map h tuple) ≡ map c.g tuple
      = map-compose h is.origin tuple
      ∙ tuple-agreed (λ u. is.origin (h u)) c.g c.new.individuals tuple all (λ u at. (follows u at).1)
      in let Above : K3 → Type 0 = λ y. LiesUnder ((after c).value q tuple) y
      in let From : List ℕ → Type 0 = λ us. LiesUnder ((after c).value q tuple)
      (new_value c.above t c.picks (is.changed q) (update_at c.p c.mode c.action q) (kind_at c.p q) q us
      (map h tuple))
      in subst Above (sym (is.values q (map h tuple) inside)) (subst From (sym origins) (
      ⊎_elim
      (λ found. by_kind found.0.kind (kind-found c.p q found.0 found.1)
      (by_update found.0 found.1 found.0.kind refl
      (used_update c.mode found.0.kind (update_for q c.action.updates)) refl))
      (λ none. by_kind KCore (ap kind_or_core none)
      (outside none (used_update c.mode KCore (update_for q c.action.updates)) refl))
      (pred-cases c.p q)))

-- the new heap embeds as far as predicates of rank below n go
embeds-below : (c : Passing) (valid : IsValid c.p) (t : LogicalStructure) (is : Made c t) (h : ℕ → ℕ)
    → Follows c t is h → (n : ℕ) → EmbedsOn (λ r. valid.rank r < n) h (after c) t
embeds-below c valid t is h follows zero =
    frame c t is h follows (λ r. valid.rank r < zero) (λ q below tuple all. absurd (omega (arith, below)))
embeds-below c valid t is h follows (suc n) =
    let lower : EmbedsOn (λ r. valid.rank r < n) h (after c) t = embeds-below c valid t is h follows n
    in frame c t is h follows (λ r. valid.rank r < suc n)
    (λ q below tuple all. step-lies c valid t is h follows n q below lower tuple all)

pub new-embeds : (c : Passing) → IsValid c.p → (t : LogicalStructure) → Made c t → IsHeapOf c.new t
new-embeds c valid t is =
    let f : (h : ℕ → ℕ) × Follows c t is h = follower c t is
    in (
      f.0,
      frame c t is f.0 f.1 (λ r. Unit {0})
          (λ q any tuple all. (embeds-below c valid t is f.0 f.1 (suc (valid.rank q))).values q
          (omega arith) tuple all),
    )

pub passing-choice : (c : Passing) → IsValid c.p → HasChoice c.p c.mode c.action c.picks c.above c.new
passing-choice c valid = record {
  keep = kept_above c;
  is_choice = choice c;
  embeds = new-embeds c valid;
}

-- ---- the step, with and without a further individual

abbrev passing : (p : ProgramForm) (mode : Mode) (action : ActionForm) (old middle new : Heap)
    (picked picks : Assignment) (g : ℕ → ℕ) (above : LogicalStructure)
    → IsAction p action → StepsThrough p action picked old middle new
    → AgreesWithGiven p mode action picked middle new → Embeds g (heap_structure middle) above
    → (IsTrue action.fresh → KeepsMark g (heap_structure middle) above)
    → ((v : ℕ) → Contains action.picks v → GoesTo g (heap_structure middle) (picked v) (picks v))
    → middle.extents ≡ old.extents → ((¬ MovesIndividuals action) → IsStill p middle)
    → Passing
passing p mode action old middle new picked picks g above valid step given embeds marks takes extents still =
    record {
      p = p;
      mode = mode;
      action = action;
      picked = picked;
      picks = picks;
      g = g;
      middle = middle;
      new = new;
      above = above;
      valid = valid;
      embeds = embeds;
      marks = marks;
      takes = takes;
      keeps = step.keeps;
      core = step.core;
      given = given;
      new_heap = step.new_heap;
      concrete = step.concrete;
      fits = λ q d found tuple held. (holds-fits p old step.old_heap q d found tuple (as_old q tuple held)).0;
      nothing = λ q none tuple held. holds-nothing p old step.old_heap q tuple none (as_old q tuple held);
      still = still;
    }
  where
    as_old : (q : ℕ) (tuple : List ℕ) → Holds middle q tuple → Holds old q tuple
    as_old q tuple held =
        let In : List (List (List ℕ)) → Type 0 = λ es. Contains (unwrap_or (slice_get es q) []) tuple
        in subst In extents held

pub some_choice_has_heap : SomeChoiceHasHeap
some_choice_has_heap p valid mode action at s picks new from above is_above =
    by_fresh action.fresh refl fair.1.step.is_middle is_above
  where
    open from use {m, old, picked, embeds, concrete, takes}

    fair : FairlySteps p mode action picked old new
    fair = from.steps

    step : StepsThrough p action picked old fair.0 new
    step = fair.1.step

    is_action : IsAction p action
    is_action = All-contains (IsAction p) p.actions action valid.actions at

    inside : (v : ℕ) → Contains action.picks v → Contains old.individuals (picked v)
    inside v free = All-contains
        (λ (x : ℕ). Contains old.individuals (picked x)) action.picks v step.picks_individuals free

    by_fresh : (b : Bool) → action.fresh ≡ b → IsMiddle action.fresh old fair.0
        → IsMiddleOf action.fresh s above → HasChoice p mode action picks above new
    by_fresh false fresh is is_above =
        let same : fair.0 ≡ old = subst (λ b. IsMiddle b old fair.0) fresh is
        in let itself : above ≡ s = subst (λ b. IsMiddleOf b s above) fresh is_above
        in let c : Passing
        = passing p mode action old old new picked picks m above is_action
        (subst (λ k. StepsThrough p action picked old k new) same step)
        (subst (λ k. AgreesWithGiven p mode action picked k new) same fair.1.given)
        (subst (λ t. Embeds m (heap_structure old) t) (sym itself) embeds)
        (λ t. absurd (false≢true (sym fresh ∙ t)))
        (λ v free. (inside v free, takes v free))
        refl
        (λ rest. record { is_heap = step.old_heap; concrete = concrete })
        in passing-choice c valid
    by_fresh true fresh is is_above =
        let grown : (x : ℕ) × (¬ Contains old.individuals x) × (fair.0 ≡ with_new old x) =
        subst (λ b. IsMiddle b old fair.0) fresh is
        in let x : ℕ = grown.0
        in let up : IsGrown s above = subst (λ b. IsMiddleOf b s above) fresh is_above
        in let growing : Growing p m old x s above =
        record { is_heap = step.old_heap; embeds = embeds; new_below = grown.1; grown = up }
        in let both : EmbedsWithMarks (put m x up.further) (heap_structure (with_new old x)) above =
        fresh-embeds p m old x s above growing
        in let c : Passing
        = passing p mode action old (with_new old x) new picked picks (put m x up.further) above is_action
        (subst (λ k. StepsThrough p action picked old k new) grown.2 step)
        (subst (λ k. AgreesWithGiven p mode action picked k new) grown.2 fair.1.given)
        both.0
        (λ t. both.1)
        (λ v free. (
          Contains-append_left old.individuals (x ∷ []) (picked v) (inside v free),
          put-other m x up.further (picked v)
              (λ e. grown.1 (subst (λ y. Contains old.individuals y) e (inside v free))) ∙ takes v free,
        ))
        refl
        (λ rest. absurd (rest (inl fresh)))
        in passing-choice c valid
