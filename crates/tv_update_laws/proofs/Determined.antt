-- The new structure of a choice is determined but for the names of its individuals.
use Rattle.std.proofs.Common.{ℕ, ◌≡◌, ◌<◌, Bool, true, false, List, length, map, Option, None, Some}
use Rattle.std.proofs.Common.{slice_get, inl, inr, ⊎_elim, refl, sym, ap, subst, ◌∙◌, All, Contains, IsTrue}
use Rattle.std.proofs.Common.{eqb, eq-eqb, ne_eqb, arith, zero, suc}
use Rattle.std.proofs.lemmas.Bool.{cases_eq, cond-true, cond-false}
use Rattle.std.proofs.lemmas.List.Elements.{All-map}
use Rattle.std.proofs.lemmas.List.{length-map}
use Rattle.tv_lemmas.proofs.Bools.{same_tests}
use Rattle.tv_model.proofs.Lists.{map-compose}
use Rattle.tv_kleene.specs.declared.K3.TheVariants.{No}
use Rattle.tv_model.specs.declared.program.Mode.{Mode}
use Rattle.tv_model.specs.Form.{Form, Mentions}
use Rattle.tv_model.specs.Program.{ProgramForm, PredForm, KindForm, KCore, KDefined, ActionForm, UpdateForm}
use Rattle.tv_model.specs.Rules.{blank}
use Rattle.tv_model.specs.Truth.{Assignment, put_all}
use Rattle.tv_model.specs.Valid.{IsValid, IsKind, IsRank}
use Rattle.tv_model.proofs.Decided.{Contains-decided}
use Rattle.tv_embedding_laws.specs.LogicalStructure.{LogicalStructure}
use Rattle.tv_eval_laws.specs.Value.{value}
use Rattle.tv_eval_laws.specs.Laws.{Renames, TakesAlong}
use Rattle.tv_eval_laws.proofs.Embedded.{GoesTo, values_are_kept}
use Rattle.tv_update_laws.specs.Applied.{defined_value, kind_at, update_at, IsChanged, AreChanged, new_value}
use Rattle.tv_update_laws.specs.Applied.{IsNew}
use Rattle.tv_update_laws.specs.Laws.{NewStructuresAreDetermined}
use Rattle.tv_update_laws.proofs.Filters.{kept-origin, kept-new}
use Rattle.tv_update_laws.proofs.Facts.{tuple-agreed}
use Rattle.tv_update_laws.proofs.Puts.{put_all-goes}
use Rattle.tv_update_laws.proofs.Predicates.{valid-pred, defined-found}

-- ---- the changed predicates are determined

pub changed-too : (p : ProgramForm) (mode : Mode) (action : ActionForm) (rank : ℕ → ℕ) → IsRank p rank
    → (one other : ℕ → Bool) → AreChanged p mode action one → AreChanged p mode action other
    → (n q : ℕ) → rank q < n → IsTrue (one q) → IsTrue (other q)
changed-too p mode action rank ranks one other a b zero q below is = absurd (omega (arith, below))
changed-too p mode action rank ranks one other a b (suc n) q below is =
    (b q).1 (by_kind (changed-too p mode action rank ranks one other a b n) (update_at p mode action q)
    (kind_at p q) refl ((a q).0 is))
  where
    by_kind : ((r : ℕ) → rank r < n → IsTrue (one r) → IsTrue (other r))
        → (used : Option UpdateForm) (kind : KindForm) → kind_at p q ≡ kind → IsChanged action one used kind
        → IsChanged action other used kind
    by_kind lower (Some w) kind k is = tt
    by_kind lower None KCore k is = is
    by_kind lower None (KDefined vars body) k (inl moves) = inl moves
    by_kind lower None (KDefined vars body) k (inr mention) =
        let f : (d : PredForm) × (slice_get p.preds q ≡ Some d) × (d.kind ≡ KDefined vars body) =
        defined-found p q vars body k
        in let falls : rank mention.0 < rank q = ranks.falls q f.0 f.1 vars body f.2 mention.0 mention.1
        in inr (mention.0, mention.1, lower mention.0 (omega (arith, below, falls)) mention.2)

-- ---- two new structures of one choice

module _ (p : ProgramForm) (valid : IsValid p) (mode : Mode) (action : ActionForm) (picks : Assignment)
    (middle : LogicalStructure)
    (keep : ℕ → Bool) (s t : LogicalStructure) (a : IsNew p mode action picks middle keep s)
    (b : IsNew p mode action picks middle keep t) where
  -- r takes each individual to one that comes from the same
  abbrev pub Meets : (ℕ → ℕ) → Type 0
  Meets r = (u : ℕ) → Contains s.individuals u → Contains t.individuals (r u) × (b.origin (r u) ≡ a.origin u)

  meeting : (r : ℕ → ℕ) × Meets r
  meeting = (λ u. (chosen u).0, λ u at. (chosen u).1 at)
    where
      found : (u w : ℕ) → (x : ℕ) × Contains t.individuals x × (b.origin x ≡ w)
          → (x : ℕ) × (Contains s.individuals u → Contains t.individuals x × (b.origin x ≡ w))
      found u w (x, at, e) = (x, λ anywhere. (at, e))

      chosen : (u : ℕ) → (x : ℕ)
          × (Contains s.individuals u → Contains t.individuals x × (b.origin x ≡ a.origin u))
      chosen u = ⊎_elim
          (λ at. found u (a.origin u)
          (kept-new b.origin t.individuals middle.individuals keep b.origins (a.origin u)
          (kept-origin a.origin s.individuals middle.individuals keep a.origins u at).0
          (kept-origin a.origin s.individuals middle.individuals keep a.origins u at).1))
          (λ none. (0, λ at. absurd (none at)))
          (Contains-decided s.individuals u)

  frame : (r : ℕ → ℕ) → Meets r → (f : Form)
      → ((q : ℕ) → Mentions q f → (tuple : List ℕ) → All (Contains s.individuals) tuple
      → s.value q tuple ≡ t.value q (map r tuple)) → Renames f r s t
  frame r meets f values = record {
    into = λ u at. (meets u at).0;
    onto = λ w at.
        let d : (u : ℕ) × Contains s.individuals u × (a.origin u ≡ b.origin w) =
        kept-new a.origin s.individuals middle.individuals keep a.origins (b.origin w)
        (kept-origin b.origin t.individuals middle.individuals keep b.origins w at).0
        (kept-origin b.origin t.individuals middle.individuals keep b.origins w at).1
        in (d.0, d.1, b.differ (r d.0) w (meets d.0 d.1).0 at ((meets d.0 d.1).1 ∙ d.2));
    injective = λ u w hu hw e. a.differ u w hu hw (sym (meets u hu).1 ∙ ap b.origin e ∙ (meets w hw).1);
    values = values;
    summaries = λ u at. a.summaries u at ∙ ap middle.is_summary (sym (meets u at).1)
        ∙ sym (b.summaries (r u) (meets u at).0);
    marks = λ named u at. (
      λ e. let clash : None ≡ Some u = sym a.no_mark ∙ e in absurd (cc),
      λ e. let clash : None ≡ Some (r u) = sym b.no_mark ∙ e in absurd (cc),
    );
  }

  changed-same : (q : ℕ) → a.changed q ≡ b.changed q
  changed-same q =
      same_tests (a.changed q) (b.changed q)
      (changed-too p mode action valid.rank valid.no_cycle a.changed b.changed a.are_changed b.are_changed
      (suc (valid.rank q)) q (omega arith))
      (changed-too p mode action valid.rank valid.no_cycle b.changed a.changed b.are_changed a.are_changed
      (suc (valid.rank q)) q (omega arith))

  defined-same : (r : ℕ → ℕ) → (q : ℕ) (vars : List ℕ) (body : Form) → kind_at p q ≡ KDefined vars body
      → Renames body r s t → (tuple : List ℕ) → All (Contains s.individuals) tuple
      → defined_value s vars body tuple ≡ defined_value t vars body (map r tuple)
  defined-same r q vars body k renames tuple all =
      ⊎_elim
      (λ fits. cond-true (eqb (length tuple) (length vars)) (value s (put_all blank vars tuple) body) No
      (eq-eqb _ _ fits)
      ∙ values_are_kept body r s t (put_all blank vars tuple) (put_all blank vars (map r tuple)) renames
      (takes fits)
      ∙ sym (cond-true (eqb (length (map r tuple)) (length vars))
      (value t (put_all blank vars (map r tuple)) body) No (eq-eqb _ _ (length-map tuple r ∙ fits))))
      (λ misfit. cond-false (eqb (length tuple) (length vars)) (value s (put_all blank vars tuple) body) No
      (ne_eqb _ _ misfit)
      ∙ sym (cond-false (eqb (length (map r tuple)) (length vars))
      (value t (put_all blank vars (map r tuple)) body) No
      (ne_eqb _ _ (λ e. misfit (sym (length-map tuple r) ∙ e)))))
      (cases_eq (length tuple) (length vars))
    where
      found : (d : PredForm) × (slice_get p.preds q ≡ Some d) × (d.kind ≡ KDefined vars body)
      found = defined-found p q vars body k

      is : IsKind p found.0.arity (KDefined vars body)
      is = subst (IsKind p found.0.arity) found.2 (valid-pred p valid q found.0 found.1).kind

      takes : length tuple ≡ length vars
          → TakesAlong r s body (put_all blank vars tuple) (put_all blank vars (map r tuple))
      takes fits v free = put_all-goes (GoesTo r s) r vars tuple fits (λ k x lt. (all k x lt, refl))
          (λ x. ⊥) blank blank (λ x never. absurd never) v (inl (is.2 v free))

  new-same : (r : ℕ → ℕ) (q : ℕ) (origin tuple : List ℕ) → All (Contains s.individuals) tuple
      → ((vars : List ℕ) (body : Form) → kind_at p q ≡ KDefined vars body → Renames body r s t)
      → (changed : Bool) (used : Option UpdateForm) (kind : KindForm) → kind_at p q ≡ kind
      → new_value middle s picks changed used kind q origin tuple
      ≡ new_value middle t picks changed used kind q origin (map r tuple)
  new-same r q origin tuple all renames changed (Some w) kind k = refl
  new-same r q origin tuple all renames changed None KCore k = refl
  new-same r q origin tuple all renames true None (KDefined vars body) k =
      defined-same r q vars body k (renames vars body k) tuple all
  new-same r q origin tuple all renames false None (KDefined vars body) k = refl

  values-same : (r : ℕ → ℕ) → Meets r → (n q : ℕ) → valid.rank q < n → (tuple : List ℕ)
      → All (Contains s.individuals) tuple → s.value q tuple ≡ t.value q (map r tuple)
  values-same r meets zero q below tuple all = absurd (omega (arith, below))
  values-same r meets (suc n) q below tuple all =
      let lower : (x : ℕ) → valid.rank x < n → (us : List ℕ) → All (Contains s.individuals) us
      → s.value x us ≡ t.value x (map r us) = values-same r meets n
      in let renames : (vars : List ℕ) (body : Form) → kind_at p q ≡ KDefined vars body → Renames body r s t
      = λ vars body k. frame r meets body (λ x m us every.
      let f : (d : PredForm) × (slice_get p.preds q ≡ Some d) × (d.kind ≡ KDefined vars body) =
      defined-found p q vars body k
      in let falls : valid.rank x < valid.rank q = valid.no_cycle.falls q f.0 f.1 vars body f.2 x m
      in lower x (omega (arith, below, falls)) us every)
      in let inside : All (Contains t.individuals) (map r tuple) =
      All-map (Contains t.individuals) r tuple (λ k d lt. (meets _ (all k d lt)).0)
      in let origins : map b.origin (map r tuple) ≡ map a.origin tuple
      = map-compose r b.origin tuple
      ∙ tuple-agreed (λ u. b.origin (r u)) a.origin s.individuals tuple all (λ u at. (meets u at).1)
      in let New : Bool → List ℕ → _ = λ (ch : Bool) (us : List ℕ).
      new_value middle t picks ch (update_at p mode action q) (kind_at p q) q us (map r tuple)
      in a.values q tuple all
      ∙ new-same r q (map a.origin tuple) tuple all renames (a.changed q) (update_at p mode action q)
      (kind_at p q) refl
      ∙ ap (λ ch. New ch (map a.origin tuple)) (changed-same q)
      ∙ ap (λ us. New (b.changed q) us) (sym origins)
      ∙ sym (b.values q (map r tuple) inside)

  pub values-along : (r : ℕ → ℕ) → Meets r → (q : ℕ) (tuple : List ℕ) → All (Contains s.individuals) tuple
      → s.value q tuple ≡ t.value q (map r tuple)
  values-along r meets q tuple all = values-same r meets (suc (valid.rank q)) q (omega arith) tuple all

  pub determined-along : (r : ℕ → ℕ) → Meets r → (f : Form) → Renames f r s t
  determined-along r meets f = frame r meets f (λ q m tuple all. values-along r meets q tuple all)

pub new_structures_are_determined : NewStructuresAreDetermined
new_structures_are_determined p valid mode action picks middle keep s t a b =
    let found : (r : ℕ → ℕ) × Meets p valid mode action picks middle keep s t a b r =
    meeting p valid mode action picks middle keep s t a b
    in (found.0, determined-along p valid mode action picks middle keep s t a b found.0 found.1)
