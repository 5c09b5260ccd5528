-- Flags of predicates: which are changed, and which rest on such.
use Rattle.std.specs.Prelude.{ℕ, ◌≡◌, ◌⊎◌, ◌+◌, ◌&&◌, Bool, true, false, List, [], ◌∷◌, length, Option, Some}
use Rattle.std.specs.Prelude.{None, is_some, slice_get}
use Rattle.std.specs.List.{AllZip, list_any}
use Rattle.tv_model.specs.Form.{Form, Mentions}
use Rattle.tv_model.specs.Program.{PredForm, KindForm, KCore, KDefined, UpdateForm, is_core_kind}
use Rattle.tv_model.specs.Step.{update_for}
use Rattle.tv_model.specs.Truth.{IsWalk}
use Rattle.tv_delta_laws.specs.Deltas.{is_flagged, touches}

-- the predicate has a definition that mentions a flagged one
abbrev pub rests : List Bool → KindForm → Bool
rests flags KCore = false
rests flags (KDefined vars body) = touches flags body

abbrev pub rests_pred : List Bool → Option PredForm → Bool
rests_pred flags None = false
rests_pred flags (Some d) = rests flags d.kind

abbrev pub rests_at : List Bool → List PredForm → ℕ → Bool
rests_at flags preds q = rests_pred flags (slice_get preds q)

-- of each predicate, the first of which has the number q, whether it is core and has an update
abbrev pub changed_from : (q : ℕ) → List PredForm → List UpdateForm → List Bool
changed_from q [] updates = []
changed_from q (d ∷ preds) updates =
    (is_core_kind d.kind && is_some (update_for q updates)) ∷ changed_from (q + 1) preds updates

-- the definition of q mentions r
abbrev pub MentionsAt : List PredForm → ℕ → ℕ → Type 0
MentionsAt preds q r =
    (d : PredForm) × (vars : List ℕ) × (body : Form) × (slice_get preds q ≡ Some d)
    × (d.kind ≡ KDefined vars body) × Mentions r body

-- a list of predicates has a flagged one exactly where the definition mentions a flagged one
abbrev pub ListTells : PredForm → List ℕ → Type 0
ListTells d list = (flags : List Bool) → rests flags d.kind ≡ list_any (is_flagged flags) list

-- the lists do so of the definitions, each of one
abbrev pub AreMentionLists : List PredForm → List (List ℕ) → Type 0
AreMentionLists preds lists = AllZip ListTells preds lists

-- some predicate of the list is flagged
abbrev pub tells : List Bool → Option (List ℕ) → Bool
tells flags None = false
tells flags (Some list) = list_any (is_flagged flags) list

-- the flag was set, or the definition rests on a predicate whose flag was, directly or through others
abbrev pub RestsOld : List PredForm → List Bool → ℕ → Type 0
RestsOld preds old q =
    (is_flagged old q ≡ true)
    ⊎ ((r : ℕ) × (stops : List ℕ) × (is_flagged old r ≡ true) × IsWalk (MentionsAt preds) q stops r)

-- the new flags are set for what was flagged, and only for that and what rests on it
pub record IsMarking (preds : List PredForm) (old new : List Bool) : Type 0 where
  pub one_each : length new ≡ length old
  pub sound : (q : ℕ) → is_flagged new q ≡ true → RestsOld preds old q
  pub kept : (q : ℕ) → is_flagged old q ≡ true → is_flagged new q ≡ true

-- the new flags are set for what was flagged, and for what rests on it, directly or through others
pub record AreMarked (preds : List PredForm) (old new : List Bool) : Type 0 where
  pub one_each : length new ≡ length old
  pub sound : (q : ℕ) → is_flagged new q ≡ true
      → (is_flagged old q ≡ true)
      ⊎ ((r : ℕ) × (stops : List ℕ) × (is_flagged old r ≡ true) × IsWalk (MentionsAt preds) q stops r)
  pub kept : (q : ℕ) → is_flagged old q ≡ true → is_flagged new q ≡ true
  pub closed : (q : ℕ) → rests_at new preds q ≡ true → is_flagged new q ≡ true
