-- How the plan of an action is made.
use Rattle.std.proofs.Common.{ℕ, ◌≡◌, ◌≢◌, ◌<◌, ◌≤◌, ◌+◌, ◌⊎◌, ◌↔◌, ◌&&◌, ◌||◌, ◌++◌, Bool, true, false, List}
use Rattle.std.proofs.Common.{[], ◌∷◌, length, get_or, set, take, map, replicate, Option, None, Some}
use Rattle.std.proofs.Common.{slice_get, inl, inr, ⊎_elim, refl, sym, ap, subst, ◌∙◌, cond, eqb, eq-eqb}
use Rattle.std.proofs.Common.{ne_eqb, append-nil, arith, zero, suc, Contains, IsTrue}
use Rattle.std.specs.Prelude.{is_some}
use Rattle.std.proofs.lemmas.Bool.{cases_eq, cases_lt, false≢true, false_from_ne_true}
use Rattle.std.proofs.lemmas.List.{get_or-set_same, get_or-set_other, get_or_past, get_or-replicate}
use Rattle.std.proofs.lemmas.List.{length-map, length-replicate, length-set, map-append, take_more}
use Rattle.std.proofs.lemmas.Option.{slice_get_within}
use Rattle.std.proofs.lemmas.List.Elements.{All-contains, Contains-append_left, Contains-append_cases}
use Rattle.std.proofs.Math.Bool.{or-false}
use Rattle.tv_model.specs.declared.program.Action.{Action}
use Rattle.tv_model.specs.declared.program.Mode.{Mode}
use Rattle.tv_model.specs.declared.program.Mode.TheVariants.{Given, Recompute}
use Rattle.tv_model.specs.declared.program.Program.{Program}
use Rattle.tv_model.specs.declared.program.Update.{Update}
use Rattle.tv_model.specs.declared.formula.PredId.{PredId}
use Rattle.tv_model.specs.Form.{Form, Mentions}
use Rattle.tv_model.specs.Program.{ProgramForm, PredForm, KindForm, KCore, KDefined, ActionForm, UpdateForm}
use Rattle.tv_model.specs.Program.{action_of, pred_of, program_of, update_of}
use Rattle.tv_model.specs.Step.{update_for}
use Rattle.tv_model.specs.Valid.{IsValid, IsAction, IsUpdate}
use Rattle.tv_model.proofs.Lists.{Contains-none, Contains-here, Contains-cases, Contains-there, Contains-map}
use Rattle.tv_model.proofs.Lists.{pushed-cases, pushed-old, pushed-last, slice_get-past}
use Rattle.tv_update_laws.specs.Applied.{used_update, kind_or_core, kind_at, update_at, moves_individuals}
use Rattle.tv_update_laws.specs.Applied.{IsChanged}
use Rattle.tv_update_laws.proofs.Predicates.{defined-found}
use Rattle.tv_update_laws.proofs.Updates.{UpdateOf, moves-same, none-used, used-update-of}
use Rattle.tv_update.specs.Plan.{IsFreeOf, IsOrdered, IsPlan, is_set, RestsOn, IsDefined}
use Rattle.tv_update.specs.Plan.{AreUpdated, AreWaiting, IsPlanSoFar, CanSettle}
use Rattle.tv_update.specs.Updated.{used_in}

-- ---- updates that count

-- whether updates of a predicate count
abbrev counts-at : Mode → KindForm → Bool
counts-at Given kind = true
counts-at Recompute KCore = true
counts-at Recompute (KDefined vars body) = false

used-counts : (mode : Mode) (kind : KindForm) (o : Option UpdateForm)
    → is_some (used_update mode kind o) ≡ (counts-at mode kind && is_some o)
used-counts Given kind o = refl
used-counts Recompute KCore o = refl
used-counts Recompute (KDefined vars body) o = refl

and-one : (b x : Bool) → (b && (x || true)) ≡ b
and-one true true = refl
and-one true false = refl
and-one false x = refl

-- where it is told by one update
told-counts : (mode : Mode) (kind : KindForm) (w : UpdateForm) (on : Bool)
    → used_update mode kind (Some w) ≡ cond on (Some w) None → on ≡ counts-at mode kind
told-counts mode kind w on told =
    sym (by_on on) ∙ ap is_some (sym told) ∙ used-counts mode kind (Some w) ∙ and-one (counts-at mode kind) true
  where
    by_on : (b : Bool) → is_some (cond b (Some w) None) ≡ b
    by_on true = refl
    by_on false = refl

-- before the first
pub no_flag : (p : ProgramForm) (mode : Mode) (n q : ℕ)
    → is_set (replicate n false) q ≡ is_some (used_in p mode [] q)
no_flag p mode n q =
    ⊎_elim (λ lt. get_or-replicate n q false false lt)
    (λ past. get_or_past (replicate n false) q false (omega (arith, past, length-replicate n false)))
    (cases_lt q n)
    ∙ sym (ap is_some (none-used mode (kind_at p q)))

-- one more update behind the others
found-last : (q : ℕ) (ws : List UpdateForm) (w : UpdateForm)
    → is_some (update_for q (ws ++ w ∷ [])) ≡ (is_some (update_for q ws) || eqb w.pred q)
found-last q [] w = by_own (eqb w.pred q)
  where
    by_own : (b : Bool) → is_some (cond b (Some w) None) ≡ b
    by_own true = refl
    by_own false = refl
found-last q (x ∷ ws) w = by_first (eqb x.pred q) (found-last q ws w)
  where
    by_first : (b : Bool) → is_some (update_for q (ws ++ w ∷ [])) ≡ (is_some (update_for q ws) || eqb w.pred q)
        → is_some (cond b (Some x) (update_for q (ws ++ w ∷ [])))
        ≡ (is_some (cond b (Some x) (update_for q ws)) || eqb w.pred q)
    by_first true later = refl
    by_first false later = later

flag-more : (p : ProgramForm) (mode : Mode) (ws : List UpdateForm) (w : UpdateForm) (on : Bool) (flags : List Bool)
    → used_update mode (kind_at p w.pred) (Some w) ≡ cond on (Some w) None → w.pred < length flags
    → ((q : ℕ) → is_set flags q ≡ is_some (used_in p mode ws q)) → (q : ℕ)
    → is_set (set flags w.pred on) q ≡ is_some (used_in p mode (ws ++ w ∷ []) q)
flag-more p mode ws w on flags told below so_far q =
    ⊎_elim own other (cases_eq w.pred q)
    ∙ ap (λ x. counts-at mode (kind_at p q) && x) (sym (found-last q ws w))
    ∙ sym (used-counts mode (kind_at p q) (update_for q (ws ++ w ∷ [])))
  where
    own : w.pred ≡ q → is_set (set flags w.pred on) q
        ≡ (counts-at mode (kind_at p q) && (is_some (update_for q ws) || eqb w.pred q))
    own e =
        ap (is_set (set flags w.pred on)) (sym e) ∙ get_or-set_same flags w.pred on false below
        ∙ told-counts mode (kind_at p w.pred) w on told ∙ ap (λ n. counts-at mode (kind_at p n)) e
        ∙ sym (and-one (counts-at mode (kind_at p q)) (is_some (update_for q ws)))
        ∙ ap (λ b. counts-at mode (kind_at p q) && (is_some (update_for q ws) || b)) (sym (eq-eqb w.pred q e))

    other : w.pred ≢ q → is_set (set flags w.pred on) q
        ≡ (counts-at mode (kind_at p q) && (is_some (update_for q ws) || eqb w.pred q))
    other ne =
        get_or-set_other flags w.pred q on false (λ e. ne (sym e)) ∙ so_far q
        ∙ used-counts mode (kind_at p q) (update_for q ws)
        ∙ ap (λ x. counts-at mode (kind_at p q) && x) (sym (or-false (is_some (update_for q ws))))
        ∙ ap (λ b. counts-at mode (kind_at p q) && (is_some (update_for q ws) || b)) (sym (ne_eqb w.pred q ne))

-- the same as the code has it
pub one_more_flag : (p : ProgramForm) (mode : Mode) (ws : List Update) (i : ℕ) (w : Update) (on : Bool)
    (flags : List Bool) → i < length ws → w ≡ get_or ws i w
    → used_update mode (kind_at p w.pred.0) (Some (update_of w)) ≡ cond on (Some (update_of w)) None
    → w.pred.0 < length flags
    → ((q : ℕ) → is_set flags q ≡ is_some (used_in p mode (map update_of (take i ws)) q)) → (q : ℕ)
    → is_set (set flags w.pred.0 on) q ≡ is_some (used_in p mode (map update_of (take (i + 1) ws)) q)
one_more_flag p mode ws i w on flags lt at told below so_far q =
    flag-more p mode (map update_of (take i ws)) (update_of w) on flags told below so_far q
    ∙ ap (λ us. is_some (used_in p mode us q)) (sym listed)
  where
    listed : map update_of (take (i + 1) ws) ≡ map update_of (take i ws) ++ update_of w ∷ []
    listed =
        ap (map update_of) (take_more ws i w lt)
        ∙ ap (λ x. map update_of (take i ws ++ x ∷ [])) (sym at)
        ∙ map-append update_of (take i ws) (w ∷ [])

-- the predicate of an update is one of the program's
update-below : (p : ProgramForm) (action : ActionForm) → IsAction p action → (w : UpdateForm)
    → Contains action.updates w → w.pred < length p.preds
update-below p action valid w at =
    let is : IsUpdate p action w = All-contains (IsUpdate p action) action.updates w valid.updates at
    in slice_get_within p.preds w.pred is.0 is.1

pub item_below : (program : Program) (action : Action) (ws : List Update) (i : ℕ) (w : Update)
    → IsAction (program_of program) (action_of action) → ws ≡ action.updates → i < length ws → w ≡ get_or ws i w
    → w.pred.0 < length program.vocab.preds
item_below program action ws i w valid same lt at =
    let within : Contains action.updates w = subst (λ us. Contains us w) same (i, lt, sym at)
    in omega (
      arith,
      update-below (program_of program) (action_of action) valid (update_of w)
          (Contains-map update_of w action.updates within),
      length-map program.vocab.preds pred_of,
    )

-- ---- flags

pub set_below : (flags : List Bool) (q : ℕ) → IsTrue (is_set flags q) → q < length flags
set_below flags q on =
    ⊎_elim (λ lt. lt) (λ past. absurd (false≢true (sym (get_or_past flags q false past) ∙ on)))
    (cases_lt q (length flags))

-- ---- the start

past-kind : (p : ProgramForm) (q : ℕ) → length p.preds ≤ q → kind_at p q ≡ KCore
past-kind p q past = ap kind_or_core (slice_get-past p.preds q past)

past-update : (p : ProgramForm) (mode : Mode) (action : ActionForm) → IsAction p action → (q : ℕ)
    → length p.preds ≤ q → update_at p mode action q ≡ None
past-update p mode action valid q past = go (update_at p mode action q) refl
  where
    go : (o : Option UpdateForm) → update_at p mode action q ≡ o → o ≡ None
    go None e = refl
    go (Some w) e =
        let of : UpdateOf p action q w = used-update-of p mode action valid q w e
        in let below : q < length p.preds = slice_get_within p.preds q of.pred of.found
        in absurd (omega (arith, below, past))

not-some : {X : Type 0} (o : Option X) → is_some o ≡ false → o ≡ None
not-some None e = refl
not-some (Some x) e = absurd (false≢true (sym e))

pub plan_start : (p : ProgramForm) (mode : Mode) (action : ActionForm) (waiting changed : List Bool)
    → IsAction p action → AreUpdated p mode action changed → AreWaiting p changed waiting
    → IsPlanSoFar p mode action waiting changed []
plan_start p mode action waiting changed valid updated opens = record {
  waiting_count = opens.count;
  changed_count = updated.count;
  opened = λ q on.
      let below : q < length p.preds = omega (arith, set_below waiting q on, opens.count)
      in let both : IsDefined (kind_at p q) × (is_set changed q ≡ false) = (opens.each q below).0 on
      in (not-some (update_at p mode action q) (sym (updated.each q below) ∙ both.1), both.0, both.1);
  settled = λ q off. known q off (cases_lt q (length p.preds));
  closed = λ q off none rests.
      ⊎_elim (λ below. cores q below off none rests)
      (λ past. subst (RestsOn waiting) (past-kind p q past) rests)
      (cases_lt q (length p.preds));
  members = λ q. (
    λ none. absurd (Contains-none q none),
    λ both. absurd
        (unlisted q both (cases_lt q (length p.preds))),
  );
  ordered = tt;
  apart = λ q none. absurd (Contains-none q none);
}
  where
    unset : (q : ℕ) → length p.preds ≤ q → is_set changed q ≡ false
    unset q past = get_or_past changed q false (omega (arith, past, updated.count))

    -- what is neither updated nor open has no definition
    core-at : (q : ℕ) → q < length p.preds → is_set waiting q ≡ false → update_at p mode action q ≡ None
        → (kind : KindForm) → kind_at p q ≡ kind → IsDefined kind → ⊥
    core-at q below off none kind k defined =
        false≢true (sym off ∙ (opens.each q below).1
        (subst IsDefined (sym k) defined, updated.each q below ∙ ap is_some none))

    cores : (q : ℕ) → q < length p.preds → is_set waiting q ≡ false → update_at p mode action q ≡ None
        → RestsOn waiting (kind_at p q) → ⊥
    cores q below off none rests = by_kind (kind_at p q) refl rests
      where
        by_kind : (kind : KindForm) → kind_at p q ≡ kind → RestsOn waiting kind → ⊥
        by_kind KCore k r = r
        by_kind (KDefined vars body) k r = core-at q below off none (KDefined vars body) k tt

    by_update : (q : ℕ) → (o : Option UpdateForm) → (kind : KindForm) → (o ≡ None → IsDefined kind → ⊥)
        → is_set changed q ≡ is_some o → IsTrue (is_set changed q) ↔ IsChanged action (is_set changed) o kind
    by_update q (Some w) kind never same = (λ on. tt, λ any. same)
    by_update q None KCore never same = (λ on. false≢true (sym same ∙ on), λ is. absurd is)
    by_update q None (KDefined vars body) never same = absurd (never refl tt)

    known : (q : ℕ) → is_set waiting q ≡ false → (q < length p.preds) ⊎ (length p.preds ≤ q)
        → IsTrue (is_set changed q)
        ↔ IsChanged action (is_set changed) (update_at p mode action q) (kind_at p q)
    known q off (inl below) =
        by_update q (update_at p mode action q) (kind_at p q)
        (λ none defined. core-at q below off none (kind_at p q) refl defined) (updated.each q below)
    known q off (inr past) =
        by_update q (update_at p mode action q) (kind_at p q)
        (λ none defined. subst IsDefined (past-kind p q past) defined)
        (unset q past ∙ ap is_some (sym (past-update p mode action valid q past)))

    unlisted : (q : ℕ) → IsTrue (is_set changed q) × (update_at p mode action q ≡ None)
        → (q < length p.preds) ⊎ (length p.preds ≤ q) → ⊥
    unlisted q both (inl below) = false≢true (sym (updated.each q below ∙ ap is_some both.1) ∙ both.0)
    unlisted q both (inr past) = false≢true (sym (unset q past) ∙ both.0)

-- ---- where no update counts and no individual comes or goes, nothing is changed

pub plan_none : (p : ProgramForm) (mode : Mode) (action : ActionForm) (flags : List Bool)
    → IsAction p action → AreUpdated p mode action flags → moves_individuals action ≡ false
    → ((q : ℕ) → is_set flags q ≡ false) → IsPlan p mode action []
plan_none p mode action flags valid updated stays clear = record {
  changed = λ q. false;
  are_changed = λ q. (
    λ on. absurd (false≢true on),
    λ is. absurd (unchanged (update_at p mode action q) (kind_at p q) (none q) is),
  );
  members = λ q. (λ at. absurd (Contains-none q at), λ both. absurd (false≢true both.0));
  ordered = tt;
}
  where
    none : (q : ℕ) → update_at p mode action q ≡ None
    none q =
        ⊎_elim
        (λ below. not-some (update_at p mode action q) (sym (updated.each q below) ∙ clear q))
        (λ past. past-update p mode action valid q past)
        (cases_lt q (length p.preds))

    unchanged : (o : Option UpdateForm) (kind : KindForm) → o ≡ None → ¬ IsChanged action (λ q. false) o kind
    unchanged (Some w) kind e is = absurd (cc e)
    unchanged None KCore e is = is
    unchanged None (KDefined vars body) e is =
        ⊎_elim
        (λ moves. false≢true (sym stays ∙ (moves-same action).1 moves))
        (λ m. false≢true m.2) is

-- ---- one more predicate is settled

push-ordered : (p : ProgramForm) (order : List ℕ) (q : ℕ) → IsOrdered p order
    → ((r : ℕ) → Contains order r → IsFreeOf p r q) → IsFreeOf p q q → IsOrdered p (order ++ q ∷ [])
push-ordered p [] q old free own = (
  λ r at. ⊎_elim (λ e. subst (IsFreeOf p q) e own) (λ none. absurd (Contains-none r none))
      (Contains-cases q r [] at),
  tt,
)
push-ordered p (x ∷ order) q old free own = (
  λ r at. ⊎_elim (old.0 r) (λ e. subst (IsFreeOf p x) (sym e) (free x (Contains-here x order)))
      (pushed-cases (x ∷ order) q r at),
  push-ordered p order q old.1 (λ r at. free r (Contains-there x r order at)) own,
)

-- the order with one more predicate, if it is changed
abbrev pub with_changed : List ℕ → Bool → ℕ → List ℕ
with_changed order on q = order ++ cond on (q ∷ []) []

module _ (p : ProgramForm) (mode : Mode) (action : ActionForm) (waiting changed : List Bool) (order : List ℕ)
    (so_far : IsPlanSoFar p mode action waiting changed order) (q : ℕ)
    (is_waiting : IsTrue (is_set waiting q)) (no_rests : ¬ RestsOn waiting (kind_at p q)) (on : Bool)
    (counts : IsTrue on ↔ (IsTrue (moves_individuals action) ⊎ RestsOn changed (kind_at p q))) where
  abbrev waiting_after : List Bool
  waiting_after = set waiting q false

  abbrev changed_after : List Bool
  changed_after = set changed q on

  below : q < length waiting
  below = set_below waiting q is_waiting

  waits-here : is_set waiting_after q ≡ false
  waits-here = get_or-set_same waiting q false false below

  changed-here : is_set changed_after q ≡ on
  changed-here = get_or-set_same changed q on false
      (omega (arith, below, so_far.waiting_count, so_far.changed_count))

  waits-other : (r : ℕ) → r ≢ q → is_set waiting_after r ≡ is_set waiting r
  waits-other r ne = get_or-set_other waiting q r false false ne

  changed-other : (r : ℕ) → r ≢ q → is_set changed_after r ≡ is_set changed r
  changed-other r ne = get_or-set_other changed q r on false ne

  -- what is waiting later waits now, and another
  still-waiting : (r : ℕ) → IsTrue (is_set waiting_after r) → IsTrue (is_set waiting r) × (r ≢ q)
  still-waiting r after =
      let ne : r ≢ q = λ e. false≢true (sym waits-here ∙ ap (is_set waiting_after) (sym e) ∙ after)
      in (sym (waits-other r ne) ∙ after, ne)

  -- the definition that rests on no waiting predicate doesn't mention one
  free-of_waiting : (x : ℕ) → ¬ RestsOn waiting (kind_at p x) → (r : ℕ) → IsTrue (is_set waiting r)
      → IsFreeOf p x r
  free-of_waiting x none r on_r vars body k m =
      none (subst (RestsOn waiting) (sym k) (r, m, on_r))

  -- where a definition doesn't mention q, it is changed as before
  changed-alike : (used : Option UpdateForm) (kind : KindForm)
      → (used ≡ None → (vars : List ℕ) (body : Form) → kind ≡ KDefined vars body → ¬ Mentions q body)
      → IsChanged action (is_set changed) used kind ↔ IsChanged action (is_set changed_after) used kind
  changed-alike (Some w) kind free = (λ any. tt, λ any. tt)
  changed-alike None KCore free = (λ never. never, λ never. never)
  changed-alike None (KDefined vars body) free = (
    λ is. ⊎_elim (λ moves. inl moves)
        (λ m. inr (m.0, m.1, changed-other m.0 (apart m.0 m.1) ∙ m.2)) is,
    λ is. ⊎_elim (λ moves. inl moves)
        (λ m. inr (m.0, m.1, sym (changed-other m.0 (apart m.0 m.1)) ∙ m.2)) is,
  )
    where
      apart : (r : ℕ) → Mentions r body → r ≢ q
      apart r m e = free refl vars body refl (subst (λ x. Mentions x body) e m)

  own-settled : (kind : KindForm) → kind_at p q ≡ kind → IsDefined kind
      → IsTrue on ↔ (IsTrue (moves_individuals action) ⊎ RestsOn changed kind)
      → IsTrue on ↔ IsChanged action (is_set changed) None kind
  own-settled KCore k never same = absurd never
  own-settled (KDefined vars body) k any same = (
    λ t. ⊎_elim (λ m. inl ((moves-same action).0 m)) (λ r. inr r) (same.0 t),
    λ is. same.1 (⊎_elim (λ m. inl ((moves-same action).1 m)) (λ r. inr r) is),
  )

  settled-here : IsTrue (is_set changed_after q)
      ↔ IsChanged action (is_set changed_after) (update_at p mode action q) (kind_at p q)
  settled-here =
      let opened : (update_at p mode action q ≡ None) × IsDefined (kind_at p q) × (is_set changed q ≡ false) =
      so_far.opened q is_waiting
      in let first : IsTrue on ↔ IsChanged action (is_set changed) None (kind_at p q)
      = own-settled (kind_at p q) refl opened.1 counts
      in let alike : IsChanged action (is_set changed) None (kind_at p q)
      ↔ IsChanged action (is_set changed_after) None (kind_at p q)
      = changed-alike None (kind_at p q)
      (λ none vars body k. free-of_waiting q no_rests q is_waiting vars body k)
      in let With : Option UpdateForm → Type 0 =
      λ o. IsTrue (is_set changed_after q) ↔ IsChanged action (is_set changed_after) o (kind_at p q)
      in subst With (sym opened.0) (
        λ t. alike.0 (first.0 (sym changed-here ∙ t)),
        λ is. changed-here ∙ first.1 (alike.1 is),
      )

  settled-other : (r : ℕ) → r ≢ q → is_set waiting_after r ≡ false
      → IsTrue (is_set changed_after r)
      ↔ IsChanged action (is_set changed_after) (update_at p mode action r) (kind_at p r)
  settled-other r ne off =
      let old : is_set waiting r ≡ false = sym (waits-other r ne) ∙ off
      in let first : IsTrue (is_set changed r)
      ↔ IsChanged action (is_set changed) (update_at p mode action r) (kind_at p r) = so_far.settled r old
      in let alike : IsChanged action (is_set changed) (update_at p mode action r) (kind_at p r)
      ↔ IsChanged action (is_set changed_after) (update_at p mode action r) (kind_at p r)
      = changed-alike (update_at p mode action r) (kind_at p r)
      (λ none vars body k. free-of_waiting r (so_far.closed r old none) q is_waiting vars body k)
      in (
        λ t. alike.0 (first.0 (sym (changed-other r ne) ∙ t)),
        λ is. changed-other r ne ∙ first.1 (alike.1 is),
      )

  -- what rests on what is waiting later rests on what waits now
  rests-before : (kind : KindForm) → RestsOn waiting_after kind → RestsOn waiting kind
  rests-before KCore never = never
  rests-before (KDefined vars body) m = (m.0, m.1, (still-waiting m.0 m.2).0)

  listed : (r : ℕ) → Contains order r → r ≢ q
  listed r at e =
      false≢true (sym (so_far.opened q is_waiting).2
      ∙ subst (λ x. IsTrue (is_set changed x)) e ((so_far.members r).0 at).0)

  old-member : (r : ℕ) → Contains order r
      → IsTrue (is_set changed_after r) × (update_at p mode action r ≡ None)
  old-member r at =
      let both : IsTrue (is_set changed r) × (update_at p mode action r ≡ None) = (so_far.members r).0 at
      in (changed-other r (listed r at) ∙ both.0, both.1)

  members-by : (b : Bool) → on ≡ b → (r : ℕ)
      → Contains (with_changed order b q) r
      ↔ (IsTrue (is_set changed_after r) × (update_at p mode action r ≡ None))
  members-by true is r = (
    λ at. ⊎_elim (old-member r)
        (λ e. subst (λ x. IsTrue (is_set changed_after x) × (update_at p mode action x ≡ None)) (sym e)
        (changed-here ∙ is, (so_far.opened q is_waiting).0))
        (pushed-cases order q r at),
    λ both. ⊎_elim
        (λ e. pushed-last order q r e)
        (λ ne. pushed-old order q r ((so_far.members r).1 (sym (changed-other r ne) ∙ both.0, both.1)))
        (cases_eq r q),
  )
  members-by false is r = (
    λ at. ⊎_elim (old-member r) (λ none. absurd (Contains-none r none)) (Contains-append_cases order [] r at),
    λ both. ⊎_elim
        (λ e. absurd (false≢true (sym (changed-here ∙ is) ∙ ap (is_set changed_after) (sym e) ∙ both.0)))
        (λ ne. Contains-append_left order [] r
        ((so_far.members r).1 (sym (changed-other r ne) ∙ both.0, both.1)))
        (cases_eq r q),
  )

  ordered-by : (b : Bool) → IsOrdered p (with_changed order b q)
  ordered-by true =
      push-ordered p order q so_far.ordered (λ r at. so_far.apart r at q is_waiting)
      (free-of_waiting q no_rests q is_waiting)
  ordered-by false = subst (IsOrdered p) (sym (append-nil order)) so_far.ordered

  apart-by : (b : Bool) → (x : ℕ) → Contains (with_changed order b q) x → (r : ℕ)
      → IsTrue (is_set waiting_after r) → IsFreeOf p x r
  apart-by true x at r after =
      ⊎_elim
      (λ old. so_far.apart x old r (still-waiting r after).0)
      (λ e. subst (λ y. IsFreeOf p y r) (sym e) (free-of_waiting q no_rests r (still-waiting r after).0))
      (pushed-cases order q x at)
  apart-by false x at r after =
      ⊎_elim (λ old. so_far.apart x old r (still-waiting r after).0) (λ none. absurd (Contains-none x none))
      (Contains-append_cases order [] x at)

  pub plan-more : IsPlanSoFar p mode action waiting_after changed_after (with_changed order on q)
  plan-more = record {
    waiting_count = length-set waiting q false ∙ so_far.waiting_count;
    changed_count = length-set changed q on ∙ so_far.changed_count;
    opened = λ r after.
        let old : IsTrue (is_set waiting r) × (r ≢ q) = still-waiting r after
        in let was : (update_at p mode action r ≡ None) × IsDefined (kind_at p r)
        × (is_set changed r ≡ false) = so_far.opened r old.0
        in (was.0, was.1, changed-other r old.1 ∙ was.2);
    settled = λ r off.
        ⊎_elim
        (λ e. subst (λ x. IsTrue (is_set changed_after x)
        ↔ IsChanged action (is_set changed_after) (update_at p mode action x) (kind_at p x))
        (sym e) settled-here)
        (λ ne. settled-other r ne off)
        (cases_eq r q);
    closed = λ r off none rests.
        ⊎_elim
        (λ e. no_rests (subst (λ x. RestsOn waiting (kind_at p x)) e (rests-before (kind_at p r) rests)))
        (λ ne. so_far.closed r (sym (waits-other r ne) ∙ off) none (rests-before (kind_at p r) rests))
        (cases_eq r q);
    members = members-by on refl;
    ordered = ordered-by on;
    apart = apart-by on;
  }

pub plan_more : (p : ProgramForm) (mode : Mode) (action : ActionForm) (waiting changed : List Bool)
    (order : List ℕ) (q : ℕ) (on : Bool)
    → IsPlanSoFar p mode action waiting changed order → IsTrue (is_set waiting q)
    → ¬ RestsOn waiting (kind_at p q)
    → IsTrue on ↔ (IsTrue (moves_individuals action) ⊎ RestsOn changed (kind_at p q))
    → IsPlanSoFar p mode action (set waiting q false) (set changed q on) (with_changed order on q)
plan_more p mode action waiting changed order q on so_far is_waiting none counts =
    plan-more p mode action waiting changed order so_far q is_waiting none on counts

-- ---- the end: where each waiting predicate rests on a waiting one, none waits

never-waiting : (p : ProgramForm) (waiting : List Bool)
    → ((q : ℕ) → IsTrue (is_set waiting q) → RestsOn waiting (kind_at p q))
    → (valid : IsValid p) → (n q : ℕ) → valid.rank q < n → ¬ IsTrue (is_set waiting q)
never-waiting p waiting each valid zero q lt on = absurd (omega (arith, lt))
never-waiting p waiting each valid (suc n) q lt on =
    by_kind (never-waiting p waiting each valid n) (kind_at p q) refl (each q on)
  where
    by_kind : ((r : ℕ) → valid.rank r < n → ¬ IsTrue (is_set waiting r)) → (kind : KindForm)
        → kind_at p q ≡ kind → RestsOn waiting kind → ⊥
    by_kind lower KCore k never = never
    by_kind lower (KDefined vars body) k m =
        let f : (d : PredForm) × (slice_get p.preds q ≡ Some d) × (d.kind ≡ KDefined vars body) =
        defined-found p q vars body k
        in let falls : valid.rank m.0 < valid.rank q = valid.no_cycle.falls q f.0 f.1 vars body f.2 m.0 m.1
        in lower m.0 (omega (arith, lt, falls)) m.2

pub plan_done : (p : ProgramForm) → IsValid p
    → (mode : Mode) (action : ActionForm) (waiting changed : List Bool) (order : List ℕ)
    → IsPlanSoFar p mode action waiting changed order
    → ((q : ℕ) → IsTrue (is_set waiting q) → RestsOn waiting (kind_at p q)) → IsPlan p mode action order
plan_done p valid mode action waiting changed order so_far each = record {
  changed = is_set changed;
  are_changed = λ q. so_far.settled q
      (false_from_ne_true (is_set waiting q) (never-waiting p waiting each valid (suc (valid.rank q)) q (omega arith)));
  members = so_far.members;
  ordered = so_far.ordered;
}

-- the same as the code has it
pub settle_one : (p : ProgramForm) (mode : Mode) (action : ActionForm) (waiting changed : List Bool)
    (olds news : List PredId) (r : PredId) (is_touched on : Bool)
    → IsPlanSoFar p mode action waiting changed (map (λ x. x.0) olds)
    → CanSettle p waiting changed r.0 is_touched → news ≡ olds ++ cond on (r ∷ []) []
    → IsTrue on ↔ (IsTrue (moves_individuals action) ⊎ IsTrue is_touched)
    → IsPlanSoFar p mode action (set waiting r.0 false) (set changed r.0 on) (map (λ x. x.0) news)
settle_one p mode action waiting changed olds news r is_touched on so_far can pushed same =
    subst (IsPlanSoFar p mode action (set waiting r.0 false) (set changed r.0 on))
    (ap (λ xs. map (λ x. x.0) olds ++ xs) (sym (one on))
    ∙ sym (map-append (λ x. x.0) olds (cond on (r ∷ []) []))
    ∙ ap (map (λ x. x.0)) (sym pushed))
    (plan_more p mode action waiting changed (map (λ x. x.0) olds) r.0 on so_far can.waits can.free (
      λ is. ⊎_elim (λ moves. inl moves) (λ touched. inr (can.touched.0 touched)) (same.0 is),
      λ either. same.1 (⊎_elim (λ moves. inl moves) (λ rests. inr (can.touched.1 rests)) either),
    ))
  where
    one : (b : Bool) → map (λ (x : PredId). x.0) (cond b (r ∷ []) []) ≡ cond b (r.0 ∷ []) []
    one true = refl
    one false = refl
