-- Flags are set for what is changed, and for what rests on it.
use Rattle.std.proofs.Common.{ℕ, ◌≡◌, ◌≢◌, ◌∙◌, ◌+◌, ◌<◌, Bool, true, false, List, [], ◌∷◌, Option, Some}
use Rattle.std.proofs.Common.{None, length, set, get_or, zero, suc, inl, inr, ⊎_elim, refl, sym, ap, subst}
use Rattle.std.proofs.Common.{arith}
use Rattle.std.specs.Prelude.{slice_get, is_some}
use Rattle.std.proofs.lemmas.Bool.{false≢true, and_from, and_parts, cases_eq}
use Rattle.std.proofs.lemmas.List.{get_or-set_same, get_or-set_other, length-set}
use Rattle.tv_lemmas.proofs.Options.{some_value}
use Rattle.tv_model.specs.Program.{ProgramForm, PredForm, KindForm, KCore, KDefined, ActionForm, UpdateForm}
use Rattle.tv_model.specs.Program.{is_core_kind}
use Rattle.tv_model.specs.Step.{update_for}
use Rattle.tv_model.specs.Truth.{IsWalk}
use Rattle.tv_delta_laws.specs.Deltas.{is_flagged}
use Rattle.tv_delta_laws.specs.Differences.{IsChanged, DefinedBy, IsAffected, AreAffected}
use Rattle.tv_delta_laws.proofs.Differenced.{core-kind}
use Rattle.tv_delta.specs.Flags.{rests, rests_pred, rests_at, changed_from, MentionsAt, RestsOld, IsMarking}
use Rattle.tv_delta.specs.Flags.{AreMarked}
use Rattle.tv_delta.specs.Flags.{AreMentionLists, tells}
use Rattle.tv_delta.proofs.Touches.{Touched, touched, touching}
use Rattle.tv_delta.proofs.UseLists.{lists_tell}

-- ---- what rests on a flagged predicate

pub rests-mentions : (flags : List Bool) (preds : List PredForm) (q : ℕ) → rests_at flags preds q ≡ true
    → (r : ℕ) × MentionsAt preds q r × (is_flagged flags r ≡ true)
rests-mentions flags preds q on = at (slice_get preds q) refl on
  where
    by_kind : (d : PredForm) → slice_get preds q ≡ Some d → (k : KindForm) → d.kind ≡ k → rests flags k ≡ true
        → (r : ℕ) × MentionsAt preds q r × (is_flagged flags r ≡ true)
    by_kind d found KCore kind e = absurd (false≢true e)
    by_kind d found (KDefined vars body) kind e =
        let t : Touched flags body = touched flags body e
        in (t.0, (d, vars, body, found, kind, t.1), t.2)

    at : (o : Option PredForm) → slice_get preds q ≡ o → rests_pred flags o ≡ true
        → (r : ℕ) × MentionsAt preds q r × (is_flagged flags r ≡ true)
    at None found e = absurd (false≢true e)
    at (Some d) found e = by_kind d found d.kind refl e

pub mentions-rests : (flags : List Bool) (preds : List PredForm) (q r : ℕ) → MentionsAt preds q r
    → is_flagged flags r ≡ true → rests_at flags preds q ≡ true
mentions-rests flags preds q r it on =
    ap (rests_pred flags) it.3 ∙ ap (rests flags) it.4 ∙ touching flags r it.2 on it.5

-- ---- one more flag

pub get-flag : (flags : List Bool) (q : ℕ) → is_flagged flags q ≡ get_or flags q false
get-flag [] q = refl
get-flag (b ∷ flags) zero = refl
get-flag (b ∷ flags) (suc q) = get-flag flags q

set-here : (flags : List Bool) (q : ℕ) → q < length flags → is_flagged (set flags q true) q ≡ true
set-here flags q below = get-flag (set flags q true) q ∙ get_or-set_same flags q true false below

set-there : (flags : List Bool) (q r : ℕ) → r ≢ q → is_flagged (set flags q true) r ≡ is_flagged flags r
set-there flags q r apart =
    get-flag (set flags q true) r ∙ get_or-set_other flags q r true false apart ∙ sym (get-flag flags r)

goes-on : (preds : List PredForm) (old : List Bool) (q r : ℕ) → MentionsAt preds q r → RestsOld preds old r
    → RestsOld preds old q
goes-on preds old q r it was =
    ⊎_elim (λ on. inr (r, [], on, it)) (λ t. inr (t.0, r ∷ t.1, t.2, (it, t.3))) was

pub marking_more : (preds : List PredForm) (old new : List Bool) (q : ℕ) → IsMarking preds old new → q < length new
    → rests_at new preds q ≡ true → IsMarking preds old (set new q true)
marking_more preds old new q is below on = record {
  one_each = length-set new q true ∙ is.one_each;
  sound = λ r flagged. ⊎_elim (λ same. here r same)
      (λ apart. is.sound r (sym (set-there new q r apart) ∙ flagged)) (cases_eq r q);
  kept = λ r was. ⊎_elim (λ same. ap (is_flagged (set new q true)) same ∙ set-here new q below)
      (λ apart. set-there new q r apart ∙ is.kept r was) (cases_eq r q);
}
  where
    its : (r : ℕ) × MentionsAt preds q r × (is_flagged new r ≡ true)
    its = rests-mentions new preds q on

    here : (r : ℕ) → r ≡ q → RestsOld preds old r
    here r same =
        let At : ℕ → Type 0 = λ n. RestsOld preds old n
        in subst At (sym same) (goes-on preds old q its.0 its.1 (is.sound its.0 its.2))

-- what was flagged at first
pub marking_none : (preds : List PredForm) (old : List Bool) → IsMarking preds old old
marking_none preds old = record { one_each = refl; sound = λ q on. inl on; kept = λ q on. on }

pub marking_by : (preds : List PredForm) (lists : List (List ℕ)) (old new : List Bool) (q : ℕ)
    → AreMentionLists preds lists
    → IsMarking preds old new → q < length new → tells new (slice_get lists q) ≡ true
    → IsMarking preds old (set new q true)
marking_by preds lists old new q are is below on =
    marking_more preds old new q is below (lists_tell preds lists are new q ∙ on)

-- where no list has a flagged predicate of which the flag isn't set, no definition is left
pub marked_by : (preds : List PredForm) (lists : List (List ℕ)) (old new : List Bool) → AreMentionLists preds lists
    → IsMarking preds old new
    → ((q : ℕ) → tells new (slice_get lists q) ≡ true → is_flagged new q ≡ true) → AreMarked preds old new
marked_by preds lists old new are is none = record {
  one_each = is.one_each;
  sound = is.sound;
  kept = is.kept;
  closed = λ q on. none q (sym (lists_tell preds lists are new q) ∙ on);
}

-- ---- the flags of an action

pub length-changed : (q : ℕ) (preds : List PredForm) (updates : List UpdateForm)
    → length (changed_from q preds updates) ≡ length preds
length-changed q [] updates = refl
length-changed q (d ∷ preds) updates = ap suc (length-changed (q + 1) preds updates)

-- the flag of the predicate at the place i of a list that is numbered from k on
abbrev pub ChangedAt : (k i : ℕ) → List PredForm → List UpdateForm → Type 0
ChangedAt k i preds updates =
    (d : PredForm) × (slice_get preds i ≡ Some d) × (is_core_kind d.kind ≡ true)
    × (is_some (update_for (k + i) updates) ≡ true)

changed-flag : (k : ℕ) (preds : List PredForm) (updates : List UpdateForm) (i : ℕ)
    → is_flagged (changed_from k preds updates) i ≡ true → ChangedAt k i preds updates
changed-flag k [] updates i on = absurd (false≢true on)
changed-flag k (d ∷ preds) updates zero on =
    let both : (is_core_kind d.kind ≡ true) × (is_some (update_for k updates) ≡ true)
    = and_parts (is_core_kind d.kind) (is_some (update_for k updates)) on
    in let same : k + 0 ≡ k = omega arith
    in (d, refl, both.0, ap (λ n. is_some (update_for n updates)) same ∙ both.1)
changed-flag k (d ∷ preds) updates (suc i) on =
    let later : ChangedAt (k + 1) i preds updates = changed-flag (k + 1) preds updates i on
    in let same : k + suc i ≡ k + 1 + i = omega arith
    in (later.0, later.1, later.2, ap (λ n. is_some (update_for n updates)) same ∙ later.3)

flag-changed : (k : ℕ) (preds : List PredForm) (updates : List UpdateForm) (i : ℕ)
    → ChangedAt k i preds updates → is_flagged (changed_from k preds updates) i ≡ true
flag-changed k [] updates i is = absurd (cc is.1)
flag-changed k (d ∷ preds) updates zero is =
    let same : d ≡ is.0 = cc is.1
    in let number : k ≡ k + 0 = omega arith
    in and_from (is_core_kind d.kind) (is_some (update_for k updates))
    (ap (λ (x : PredForm). is_core_kind x.kind) same ∙ is.2)
    (ap (λ n. is_some (update_for n updates)) number ∙ is.3)
flag-changed k (d ∷ preds) updates (suc i) is =
    let same : k + 1 + i ≡ k + suc i = omega arith
    in flag-changed (k + 1) preds updates i
    (is.0, is.1, is.2, ap (λ n. is_some (update_for n updates)) same ∙ is.3)

is-changed : (p : ProgramForm) (action : ActionForm) (q : ℕ) → ChangedAt 0 q p.preds action.updates
    → IsChanged p action q
is-changed p action q at =
    let number : 0 + q ≡ q = omega arith
    in let update : (w : UpdateForm) × (update_for (0 + q) action.updates ≡ Some w)
    = some_value (update_for (0 + q) action.updates) at.3
    in record {
      pred = at.0;
      found = at.1;
      core = core-kind at.0.kind at.2;
      update = update.0;
      updated = ap (λ n. update_for n action.updates) (sym number) ∙ update.1;
    }

changed-at : (p : ProgramForm) (action : ActionForm) (q : ℕ) → IsChanged p action q
    → ChangedAt 0 q p.preds action.updates
changed-at p action q is =
    let number : 0 + q ≡ q = omega arith
    in (
      is.pred,
      is.found,
      ap is_core_kind is.core,
      ap (λ n. is_some (update_for n action.updates)) number ∙ ap is_some is.updated,
    )

mentions-defined : (p : ProgramForm) (q r : ℕ) → MentionsAt p.preds q r → DefinedBy p q r
mentions-defined p q r it =
    record { pred = it.0; vars = it.1; body = it.2; found = it.3; defined = it.4; mentions = it.5 }

walk-defined : (p : ProgramForm) (q : ℕ) (stops : List ℕ) (r : ℕ) → IsWalk (MentionsAt p.preds) q stops r
    → IsWalk (DefinedBy p) q stops r
walk-defined p q [] r it = mentions-defined p q r it
walk-defined p q (s ∷ stops) r walk = (mentions-defined p q s walk.0, walk-defined p s stops r walk.1)

mentions-at : (p : ProgramForm) (q r : ℕ) → DefinedBy p q r → MentionsAt p.preds q r
mentions-at p q r it = (it.pred, it.vars, it.body, it.found, it.defined, it.mentions)

walk-flagged : (p : ProgramForm) (flags : List Bool)
    → ((q : ℕ) → rests_at flags p.preds q ≡ true → is_flagged flags q ≡ true)
    → (q : ℕ) (stops : List ℕ) (r : ℕ) → IsWalk (DefinedBy p) q stops r → is_flagged flags r ≡ true
    → is_flagged flags q ≡ true
walk-flagged p flags closed q [] r it on = closed q (mentions-rests flags p.preds q r (mentions-at p q r it) on)
walk-flagged p flags closed q (s ∷ stops) r walk on =
    closed q (mentions-rests flags p.preds q s (mentions-at p q s walk.0)
    (walk-flagged p flags closed s stops r walk.1 on))

pub marked_are_affected : (p : ProgramForm) (action : ActionForm) (flags : List Bool)
    → AreMarked p.preds (changed_from 0 p.preds action.updates) flags → AreAffected p action flags
marked_are_affected p action flags is = record {
  one_each = is.one_each ∙ length-changed 0 p.preds action.updates;
  tell = λ q d found. (there q, back q);
}
  where
    changed : List Bool
    changed = changed_from 0 p.preds action.updates

    there : (q : ℕ) → is_flagged flags q ≡ true → IsAffected p action q
    there q on =
        ⊎_elim
        (λ at. inl (is-changed p action q (changed-flag 0 p.preds action.updates q at)))
        (λ t. inr (
          t.0,
          t.1,
          is-changed p action t.0 (changed-flag 0 p.preds action.updates t.0 t.2),
          walk-defined p q t.1 t.0 t.3,
        ))
        (is.sound q on)

    at_changed : (q : ℕ) → IsChanged p action q → is_flagged flags q ≡ true
    at_changed q it = is.kept q (flag-changed 0 p.preds action.updates q (changed-at p action q it))

    back : (q : ℕ) → IsAffected p action q → is_flagged flags q ≡ true
    back q it =
        ⊎_elim (λ c. at_changed q c) (λ t. walk-flagged p flags is.closed q t.1 t.0 t.3 (at_changed t.0 t.2)) it
