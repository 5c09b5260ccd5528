-- The new structure of a choice, made in stages: predicates of rank below n have their new values at stage n.
use Rattle.std.proofs.Common.{ℕ, ◌≡◌, ◌<◌, ◌⊎◌, ◌↔◌, ◌||◌, Bool, true, false, List, length, filter, Option}
use Rattle.std.proofs.Common.{None, Some, slice_get, inl, inr, ⊎_elim, refl, sym, ap, subst, ◌∙◌, All}
use Rattle.std.proofs.Common.{Contains, IsTrue, eqb, eq-eqb, ne_eqb, arith, zero, suc}
use Rattle.std.proofs.lemmas.Bool.{cases_eq, cond-true, cond-false, false≢true, or_cases, or_left, or_right}
use Rattle.std.proofs.lemmas.List.{map-id}
use Rattle.tv_lemmas.proofs.Bools.{same_tests}
use Rattle.tv_kleene.specs.declared.K3.{K3}
use Rattle.tv_kleene.specs.declared.K3.TheVariants.{No}
use Rattle.tv_model.specs.declared.program.Mode.{Mode}
use Rattle.tv_model.specs.Form.{Form, FZero, FOne, FAtom, FIsNew, FSame, FNot, FAnd, FOr, FIff, FCond}
use Rattle.tv_model.specs.Form.{FExists, FForall, FClosure, Mentions}
use Rattle.tv_model.specs.Program.{ProgramForm, PredForm, KindForm, KCore, KDefined, ActionForm}
use Rattle.tv_model.specs.Program.{UpdateForm}
use Rattle.tv_model.specs.Rules.{blank}
use Rattle.tv_model.specs.Truth.{Assignment, put_all}
use Rattle.tv_model.specs.Valid.{IsValid, IsKind}
use Rattle.tv_embedding_laws.specs.LogicalStructure.{LogicalStructure}
use Rattle.tv_eval_laws.specs.Value.{value}
use Rattle.tv_eval_laws.specs.Laws.{LooksAlike, AgreesOn}
use Rattle.tv_eval_laws.proofs.Embedded.{values_are_local}
use Rattle.tv_update_laws.specs.Applied.{kind_at, update_at, moves_individuals, IsChanged, AreChanged}
use Rattle.tv_update_laws.specs.Applied.{new_value, IsNew}
use Rattle.tv_update_laws.specs.Laws.{EachChoiceHasNewStructure}
use Rattle.tv_update_laws.proofs.Puts.{put_all-goes}
use Rattle.tv_update_laws.proofs.Predicates.{valid-pred, defined-found}
use Rattle.tv_update_laws.proofs.Updates.{moves-same}

-- ---- changed predicates, in stages

-- whether the formula mentions a predicate of the set
abbrev mentions_one : (ℕ → Bool) → Form → Bool
mentions_one c FZero = false
mentions_one c FOne = false
mentions_one c (FAtom q vars) = c q
mentions_one c (FIsNew v) = false
mentions_one c (FSame v w) = false
mentions_one c (FNot f) = mentions_one c f
mentions_one c (FAnd f g) = mentions_one c f || mentions_one c g
mentions_one c (FOr f g) = mentions_one c f || mentions_one c g
mentions_one c (FIff f g) = mentions_one c f || mentions_one c g
mentions_one c (FCond k f g) = mentions_one c k || (mentions_one c f || mentions_one c g)
mentions_one c (FExists v f) = mentions_one c f
mentions_one c (FForall v f) = mentions_one c f
mentions_one c (FClosure from to left right f) = mentions_one c f

abbrev Mentioned : (ℕ → Bool) → Form → Type 0
Mentioned c f = (r : ℕ) × Mentions r f × IsTrue (c r)

mentions-either : (c : ℕ → Bool) (f g : Form) → (mentions_one c f || mentions_one c g) ≡ true
    → (mentions_one c f ≡ true → Mentioned c f) → (mentions_one c g ≡ true → Mentioned c g)
    → (r : ℕ) × (Mentions r f ⊎ Mentions r g) × IsTrue (c r)
mentions-either c f g e left right =
    ⊎_elim
    (λ h. let d : Mentioned c f = left h in (d.0, inl d.1, d.2))
    (λ h. let d : Mentioned c g = right h in (d.0, inr d.1, d.2))
    (or_cases (mentions_one c f) (mentions_one c g) e)

mentions-some : (c : ℕ → Bool) (f : Form) → mentions_one c f ≡ true → Mentioned c f
mentions-some c FZero e = absurd (false≢true e)
mentions-some c FOne e = absurd (false≢true e)
mentions-some c (FAtom q vars) e = (q, refl, e)
mentions-some c (FIsNew v) e = absurd (false≢true e)
mentions-some c (FSame v w) e = absurd (false≢true e)
mentions-some c (FNot f) e = mentions-some c f e
mentions-some c (FAnd f g) e = mentions-either c f g e (mentions-some c f) (mentions-some c g)
mentions-some c (FOr f g) e = mentions-either c f g e (mentions-some c f) (mentions-some c g)
mentions-some c (FIff f g) e = mentions-either c f g e (mentions-some c f) (mentions-some c g)
mentions-some c (FCond k f g) e =
    ⊎_elim
    (λ h. let d : Mentioned c k = mentions-some c k h in (d.0, inl d.1, d.2))
    (λ rest. ⊎_elim
    (λ h. let d : Mentioned c f = mentions-some c f h in (d.0, inr (inl d.1), d.2))
    (λ h. let d : Mentioned c g = mentions-some c g h in (d.0, inr (inr d.1), d.2))
    (or_cases (mentions_one c f) (mentions_one c g) rest))
    (or_cases (mentions_one c k) (mentions_one c f || mentions_one c g) e)
mentions-some c (FExists v f) e = mentions-some c f e
mentions-some c (FForall v f) e = mentions-some c f e
mentions-some c (FClosure from to left right f) e = mentions-some c f e

mentions-all : (c : ℕ → Bool) (f : Form) (r : ℕ) → Mentions r f → c r ≡ true → mentions_one c f ≡ true
mentions-all c FZero r m e = absurd m
mentions-all c FOne r m e = absurd m
mentions-all c (FAtom q vars) r m e = ap c (sym m) ∙ e
mentions-all c (FIsNew v) r m e = absurd m
mentions-all c (FSame v w) r m e = absurd m
mentions-all c (FNot f) r m e = mentions-all c f r m e
mentions-all c (FAnd f g) r m e =
    ⊎_elim (λ h. or_left (mentions_one c f) (mentions_one c g) (mentions-all c f r h e))
    (λ h. or_right (mentions_one c f) (mentions_one c g) (mentions-all c g r h e)) m
mentions-all c (FOr f g) r m e =
    ⊎_elim (λ h. or_left (mentions_one c f) (mentions_one c g) (mentions-all c f r h e))
    (λ h. or_right (mentions_one c f) (mentions_one c g) (mentions-all c g r h e)) m
mentions-all c (FIff f g) r m e =
    ⊎_elim (λ h. or_left (mentions_one c f) (mentions_one c g) (mentions-all c f r h e))
    (λ h. or_right (mentions_one c f) (mentions_one c g) (mentions-all c g r h e)) m
mentions-all c (FCond k f g) r m e =
    ⊎_elim
    (λ h. or_left (mentions_one c k) (mentions_one c f || mentions_one c g) (mentions-all c k r h e))
    (λ rest. or_right (mentions_one c k) (mentions_one c f || mentions_one c g)
    (⊎_elim (λ h. or_left (mentions_one c f) (mentions_one c g) (mentions-all c f r h e))
    (λ h. or_right (mentions_one c f) (mentions_one c g) (mentions-all c g r h e)) rest))
    m
mentions-all c (FExists v f) r m e = mentions-all c f r m e
mentions-all c (FForall v f) r m e = mentions-all c f r m e
mentions-all c (FClosure from to left right f) r m e = mentions-all c f r m e

abbrev is_changed : ActionForm → (ℕ → Bool) → Option UpdateForm → KindForm → Bool
is_changed action c (Some w) kind = true
is_changed action c None KCore = false
is_changed action c None (KDefined vars body) = moves_individuals action || mentions_one c body

-- the test decides, for a set that is as wanted on the mentioned predicates
changed-decided : (action : ActionForm) (c d : ℕ → Bool) (used : Option UpdateForm) (kind : KindForm)
    → ((vars : List ℕ) (body : Form) → kind ≡ KDefined vars body → (r : ℕ) → Mentions r body → c r ≡ d r)
    → IsTrue (is_changed action c used kind) ↔ IsChanged action d used kind
changed-decided action c d (Some w) kind same = (λ e. tt, λ e. refl)
changed-decided action c d None KCore same = (λ e. false≢true e, λ e. absurd e)
changed-decided action c d None (KDefined vars body) same = (
  λ e. ⊎_elim
      (λ h. inl ((moves-same action).0 h))
      (λ h. let m : Mentioned c body = mentions-some c body h in inr
      (m.0, m.1, sym (same vars body refl m.0 m.1) ∙ m.2))
      (or_cases (moves_individuals action) (mentions_one c body) e),
  λ is. ⊎_elim
      (λ h. or_left (moves_individuals action) (mentions_one c body) ((moves-same action).1 h))
      (λ m. or_right (moves_individuals action) (mentions_one c body)
      (mentions-all c body m.0 m.1 (same vars body refl m.0 m.1 ∙ m.2)))
      is,
)

module _ (p : ProgramForm) (valid : IsValid p) (mode : Mode) (action : ActionForm) where
  less : (q : ℕ) (vars : List ℕ) (body : Form) → kind_at p q ≡ KDefined vars body → (r : ℕ) → Mentions r body
      → valid.rank r < valid.rank q
  less q vars body k r m =
      let f : (d : PredForm) × (slice_get p.preds q ≡ Some d) × (d.kind ≡ KDefined vars body) =
      defined-found p q vars body k
      in valid.no_cycle.falls q f.0 f.1 vars body f.2 r m

  abbrev changed_by : ℕ → ℕ → Bool
  changed_by zero q = false
  changed_by (suc n) q = is_changed action (changed_by n) (update_at p mode action q) (kind_at p q)

  changed-settled : (n m q : ℕ) → valid.rank q < n → valid.rank q < m → changed_by n q ≡ changed_by m q
  changed-settled zero m q a b = absurd (omega (arith, a))
  changed-settled (suc n) zero q a b = absurd (omega (arith, b))
  changed-settled (suc n) (suc m) q a b =
      let lower : (vars : List ℕ) (body : Form) → kind_at p q ≡ KDefined vars body → (r : ℕ) → Mentions r body
      → changed_by n r ≡ changed_by m r
      = λ vars body k r mention. let falls : valid.rank r < valid.rank q = less q vars body k r mention
      in changed-settled n m r (omega (arith, a, falls)) (omega (arith, b, falls))
      in let one : IsTrue (is_changed action (changed_by n) (update_at p mode action q) (kind_at p q))
      ↔ IsChanged action (changed_by m) (update_at p mode action q) (kind_at p q)
      = changed-decided action (changed_by n) (changed_by m) (update_at p mode action q) (kind_at p q) lower
      in let other : IsTrue (is_changed action (changed_by m) (update_at p mode action q) (kind_at p q))
      ↔ IsChanged action (changed_by m) (update_at p mode action q) (kind_at p q)
      = changed-decided action (changed_by m) (changed_by m) (update_at p mode action q) (kind_at p q)
      (λ vars body k r mention. refl)
      in same_tests (changed_by (suc n) q) (changed_by (suc m) q) (λ e. other.1 (one.0 e))
      (λ e. one.1 (other.0 e))

  abbrev changed : ℕ → Bool
  changed q = changed_by (suc (valid.rank q)) q

  are-changed : AreChanged p mode action changed
  are-changed q =
      changed-decided action (changed_by (valid.rank q)) changed (update_at p mode action q) (kind_at p q)
      (λ vars body k r mention. changed-settled (valid.rank q) (suc (valid.rank r)) r
      (less q vars body k r mention) (omega arith))

-- new values are alike in structures that look alike to definitions; so a definition may be read before
-- predicates of higher rank have their new values
pub new-alike : (p : ProgramForm) → IsValid p → (middle s t : LogicalStructure) (picks : Assignment) (q : ℕ)
    → ((vars : List ℕ) (body : Form) → kind_at p q ≡ KDefined vars body → LooksAlike body s t)
    → (origin tuple : List ℕ) → All (Contains s.individuals) tuple
    → (ch : Bool) (used : Option UpdateForm) (kind : KindForm) → kind_at p q ≡ kind
    → new_value middle s picks ch used kind q origin tuple
    ≡ new_value middle t picks ch used kind q origin tuple
new-alike p valid middle s t picks q alike origin tuple all ch (Some w) kind k = refl
new-alike p valid middle s t picks q alike origin tuple all ch None KCore k = refl
new-alike p valid middle s t picks q alike origin tuple all false None (KDefined vars body) k = refl
new-alike p valid middle s t picks q alike origin tuple all true None (KDefined vars body) k =
    ⊎_elim
    (λ fits. cond-true (eqb (length tuple) (length vars)) (value s (put_all blank vars tuple) body) No
    (eq-eqb _ _ fits)
    ∙ values_are_local body s t (put_all blank vars tuple) (put_all blank vars tuple) (alike vars body k)
    (agrees fits)
    ∙ sym (cond-true (eqb (length tuple) (length vars)) (value t (put_all blank vars tuple) body) No
    (eq-eqb _ _ fits)))
    (λ misfit. cond-false (eqb (length tuple) (length vars)) (value s (put_all blank vars tuple) body) No
    (ne_eqb _ _ misfit)
    ∙ sym (cond-false (eqb (length tuple) (length vars)) (value t (put_all blank vars tuple) body) No
    (ne_eqb _ _ misfit)))
    (cases_eq (length tuple) (length vars))
  where
    found : (d : PredForm) × (slice_get p.preds q ≡ Some d) × (d.kind ≡ KDefined vars body)
    found = defined-found p q vars body k

    is : IsKind p found.0.arity (KDefined vars body)
    is = subst (IsKind p found.0.arity) found.2 (valid-pred p valid q found.0 found.1).kind

    agrees : length tuple ≡ length vars
        → AgreesOn s body (put_all blank vars tuple) (put_all blank vars tuple)
    agrees fits v free = (
      subst (λ us. Contains s.individuals (put_all blank vars us v)) (map-id tuple)
          (put_all-goes (λ u w. Contains s.individuals w) (λ u. u) vars tuple fits (λ i x lt. all i x lt)
          (λ x. ⊥) blank blank (λ x never. absurd never) v (inl (is.2 v free))),
      refl,
    )

-- ---- values, in stages

module _ (p : ProgramForm) (valid : IsValid p) (mode : Mode) (action : ActionForm) (picks : Assignment)
    (middle : LogicalStructure) (keep : ℕ → Bool) where
  abbrev with_values : ((q : ℕ) → List ℕ → K3) → LogicalStructure
  with_values values = record {
    individuals = filter keep middle.individuals;
    value = values;
    is_summary = middle.is_summary;
    fresh = None;
  }

  abbrev values_by : ℕ → (q : ℕ) → (tuple : List ℕ) → K3
  values_by zero q tuple = No
  values_by (suc n) q tuple =
      new_value middle (with_values (values_by n)) picks (changed p valid mode action q)
      (update_at p mode action q) (kind_at p q) q tuple tuple

  stage-alike : (one other : (q : ℕ) → List ℕ → K3) (q : ℕ)
      → ((r : ℕ) → valid.rank r < valid.rank q → (us : List ℕ)
      → All (Contains (filter keep middle.individuals)) us → one r us ≡ other r us)
      → (vars : List ℕ) (body : Form) → kind_at p q ≡ KDefined vars body
      → LooksAlike body (with_values one) (with_values other)
  stage-alike one other q same vars body k = record {
    individuals = λ u. (λ at. at, λ at. at);
    values = λ r mention us every. same r (less p valid mode action q vars body k r mention) us every;
    summaries = λ u at. refl;
    marks = λ named. refl;
  }

  values-settled : (n m q : ℕ) → valid.rank q < n → valid.rank q < m
      → (tuple : List ℕ) → All (Contains (filter keep middle.individuals)) tuple
      → values_by n q tuple ≡ values_by m q tuple
  values-settled zero m q a b tuple all = absurd (omega (arith, a))
  values-settled (suc n) zero q a b tuple all = absurd (omega (arith, b))
  values-settled (suc n) (suc m) q a b tuple all =
      new-alike p valid middle (with_values (values_by n)) (with_values (values_by m)) picks q
      (stage-alike (values_by n) (values_by m) q
      (λ r falls us every. values-settled n m r (omega (arith, a, falls)) (omega (arith, b, falls)) us every))
      tuple tuple all (changed p valid mode action q) (update_at p mode action q) (kind_at p q) refl

  abbrev made : LogicalStructure
  made = with_values (λ q tuple. values_by (suc (valid.rank q)) q tuple)

  is-new : IsNew p mode action picks middle keep made
  is-new = record {
    origin = λ u. u;
    origins = map-id (filter keep middle.individuals);
    differ = λ u w hu hw e. e;
    changed = changed p valid mode action;
    are_changed = are-changed p valid mode action;
    values = λ q tuple all.
        new-alike p valid middle (with_values (values_by (valid.rank q))) made picks q
        (stage-alike (values_by (valid.rank q)) (λ r us. values_by (suc (valid.rank r)) r us) q
        (λ r falls us every. values-settled (valid.rank q) (suc (valid.rank r)) r falls
        (omega arith) us every))
        tuple tuple all (changed p valid mode action q) (update_at p mode action q) (kind_at p q) refl
        ∙ ap (λ us. new_value middle made picks (changed p valid mode action q) (update_at p mode action q)
        (kind_at p q) q us tuple) (sym (map-id tuple));
    summaries = λ u at. refl;
    no_mark = refl;
  }

pub each_choice_has_new_structure : EachChoiceHasNewStructure
each_choice_has_new_structure p valid mode action picks middle keep =
    (made p valid mode action picks middle keep, is-new p valid mode action picks middle keep)
