-- Which defined predicates an action changes, in an order in which they can be evaluated.
use Rattle.std.specs.Prelude.{ℕ, ◌≡◌, ◌↔◌, ◌<◌, Bool, false, List, [], ◌∷◌, length, map, None, is_some}
use Rattle.std.specs.Prelude.{Contains, IsTrue, slice_index_or}
use Rattle.tv_model.specs.declared.formula.PredId.{PredId}
use Rattle.tv_model.specs.declared.program.Mode.{Mode}
use Rattle.tv_model.specs.Form.{Form, Mentions}
use Rattle.tv_model.specs.Program.{ProgramForm, KindForm, KCore, KDefined, ActionForm}
use Rattle.tv_update_laws.specs.Applied.{kind_at, update_at, AreChanged, IsChanged}

-- the definition of q, if it has one, doesn't mention r
abbrev pub IsFreeOf : ProgramForm → (q r : ℕ) → Type 0
IsFreeOf p q r = (vars : List ℕ) (body : Form) → kind_at p q ≡ KDefined vars body → ¬ Mentions r body

-- no definition mentions its own predicate or a later one
abbrev pub IsOrdered : ProgramForm → List ℕ → Type 0
IsOrdered p [] = Unit {0}
IsOrdered p (q ∷ later) = ((r : ℕ) → Contains (q ∷ later) r → IsFreeOf p q r) × IsOrdered p later

-- these are the changed predicates without an update that counts, in such an order
pub record IsPlan (p : ProgramForm) (mode : Mode) (action : ActionForm) (order : List ℕ) : Type 0 where
  pub changed : ℕ → Bool
  pub are_changed : AreChanged p mode action changed
  pub members : (q : ℕ) → Contains order q ↔ (IsTrue (changed q) × (update_at p mode action q ≡ None))
  pub ordered : IsOrdered p order

-- the list is such a plan
abbrev pub IsPlanFor : ProgramForm → Mode → ActionForm → List PredId → Type 0
IsPlanFor p mode action plan = IsPlan p mode action (map (λ x. x.0) plan)

-- ---- as the plan is made

-- the predicate's flag is set
abbrev pub is_set : List Bool → ℕ → Bool
is_set flags q = slice_index_or flags q false

-- the formula mentions a predicate with a set flag
abbrev pub MentionsSet : List Bool → Form → Type 0
MentionsSet flags f = (r : ℕ) × Mentions r f × IsTrue (is_set flags r)

-- the predicate has a definition, which mentions a predicate with a set flag
abbrev pub RestsOn : List Bool → KindForm → Type 0
RestsOn flags KCore = ⊥
RestsOn flags (KDefined vars body) = MentionsSet flags body

abbrev pub IsDefined : KindForm → Type 0
IsDefined KCore = ⊥
IsDefined (KDefined vars body) = Unit {0}

-- the flags of the predicates with an update that counts
pub record AreUpdated (p : ProgramForm) (mode : Mode) (action : ActionForm) (flags : List Bool) : Type 0 where
  pub count : length flags ≡ length p.preds
  pub each : (q : ℕ) → q < length p.preds → is_set flags q ≡ is_some (update_at p mode action q)

-- the flags of the others that have a definition
pub record AreWaiting (p : ProgramForm) (changed flags : List Bool) : Type 0 where
  pub count : length flags ≡ length p.preds
  pub each : (q : ℕ) → q < length p.preds
      → IsTrue (is_set flags q) ↔ (IsDefined (kind_at p q) × (is_set changed q ≡ false))

-- what is known of the order so far: some predicates wait, and what is known of the others stays so
pub record IsPlanSoFar (p : ProgramForm) (mode : Mode) (action : ActionForm) (waiting changed : List Bool)
    (order : List ℕ) : Type 0 where
  pub waiting_count : length waiting ≡ length p.preds
  pub changed_count : length changed ≡ length p.preds
  pub opened : (q : ℕ) → IsTrue (is_set waiting q)
      → (update_at p mode action q ≡ None) × IsDefined (kind_at p q) × (is_set changed q ≡ false)
  pub settled : (q : ℕ) → is_set waiting q ≡ false
      → IsTrue (is_set changed q)
      ↔ IsChanged action (is_set changed) (update_at p mode action q) (kind_at p q)
  pub closed : (q : ℕ) → is_set waiting q ≡ false → update_at p mode action q ≡ None
      → ¬ RestsOn waiting (kind_at p q)
  pub members : (q : ℕ) → Contains order q ↔ (IsTrue (is_set changed q) × (update_at p mode action q ≡ None))
  pub ordered : IsOrdered p order
  pub apart : (q : ℕ) → Contains order q → (r : ℕ) → IsTrue (is_set waiting r) → IsFreeOf p q r

-- the predicate waits and its definition rests on no waiting one; the flag says whether it rests on a changed
-- one
pub record CanSettle (p : ProgramForm) (waiting changed : List Bool) (q : ℕ)
    (is_touched : Bool) : Type 0 where
  pub waits : IsTrue (is_set waiting q)
  pub free : ¬ RestsOn waiting (kind_at p q)
  pub touched : IsTrue is_touched ↔ RestsOn changed (kind_at p q)
