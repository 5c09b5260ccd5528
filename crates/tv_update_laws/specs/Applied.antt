-- The structures that an action gives from a structure: what an abstract step does with a structure once
-- the precondition is passed (compare Sagiv, Reps and Wilhelm 2002, sections 4.4 and 5).
use Rattle.std.specs.Prelude.{ℕ, ◌≡◌, ◌⊎◌, ◌↔◌, ◌||◌, ◌==◌, Bool, true, false, IsTrue, List, [], ◌∷◌, ◌++◌}
use Rattle.std.specs.Prelude.{length}
use Rattle.std.specs.Prelude.{map, filter, Option, Some, None, IsSome, is_some, All, Contains, slice_get}
use Rattle.std.specs.Prelude.{if◌then◌else◌}
use Rattle.tv_kleene.specs.declared.K3.{K3}
use Rattle.tv_kleene.specs.declared.K3.TheVariants.{No, Half, Yes}
use Rattle.tv_model.specs.declared.program.Mode.{Mode}
use Rattle.tv_model.specs.declared.program.Mode.TheVariants.{Given, Recompute}
use Rattle.tv_model.specs.Form.{Form, Mentions}
use Rattle.tv_model.specs.Program.{ProgramForm, PredForm, KindForm, KCore, KDefined, ActionForm, RetainForm}
use Rattle.tv_model.specs.Program.{UpdateForm, ChangeForm, CFree, CTo}
use Rattle.tv_model.specs.Rules.{blank}
use Rattle.tv_model.specs.Step.{update_for}
use Rattle.tv_model.specs.Truth.{Assignment, put, put_all}
use Rattle.tv_embedding_laws.specs.LogicalStructure.{LogicalStructure}
use Rattle.tv_eval_laws.specs.Value.{value}

-- ---- the middle structure

-- m is s with a further individual, which is no summary and is marked as fresh; where it stands in a tuple,
-- the value is No
pub record IsGrown (s m : LogicalStructure) : Type 0 where
  pub further : ℕ
  pub is_further : ¬ Contains s.individuals further
  pub individuals : m.individuals ≡ s.individuals ++ further ∷ []
  pub values : (q : ℕ) (tuple : List ℕ) → All (Contains s.individuals) tuple
      → m.value q tuple ≡ s.value q tuple
  pub no_values : (q : ℕ) (tuple : List ℕ) → All (Contains m.individuals) tuple → Contains tuple further
      → m.value q tuple ≡ No
  pub summaries : (u : ℕ) → Contains s.individuals u → m.is_summary u ≡ s.is_summary u
  pub ordinary : m.is_summary further ≡ false
  pub mark : m.fresh ≡ Some further

-- m is the structure in which updates and the retain formula are read
abbrev pub IsMiddleOf : (fresh : Bool) → (s m : LogicalStructure) → Type 0
IsMiddleOf false s m = m ≡ s
IsMiddleOf true s m = IsGrown s m

-- ---- the individuals that stay

-- whether the individual is kept
abbrev pub keep_value : LogicalStructure → Assignment → Option RetainForm → ℕ → K3
keep_value middle picks None u = Yes
keep_value middle picks (Some retain) u = value middle (put picks retain.var u) retain.keep

-- Yes is kept and No is dropped; at Half either may be chosen
abbrev pub MayChoose : K3 → (keep : Bool) → Type 0
MayChoose No keep = keep ≡ false
MayChoose Half keep = Unit {0}
MayChoose Yes keep = keep ≡ true

-- a choice of the individuals that stay
abbrev pub IsChoice : LogicalStructure → Assignment → Option RetainForm → (keep : ℕ → Bool) → Type 0
IsChoice middle picks retain keep =
    (u : ℕ) → Contains middle.individuals u → MayChoose (keep_value middle picks retain u) (keep u)

-- ---- updates

-- the value that a change gives at the tuple, for which the update's own variables stand
abbrev pub changed_value : LogicalStructure → Assignment → (vars : List ℕ) → ChangeForm → List ℕ → K3
changed_value middle picks vars CFree tuple = Half
changed_value middle picks vars (CTo f) tuple = value middle (put_all picks vars tuple) f

-- the value that an update gives at the tuple; at a tuple of another length than its predicate's, No
abbrev pub updated_value : LogicalStructure → Assignment → UpdateForm → List ℕ → K3
updated_value middle picks w tuple =
    if length tuple == length w.vars then changed_value middle picks w.vars w.change tuple else No

-- the value of a definition at the tuple; at a tuple of another length than its predicate's, No
abbrev pub defined_value : LogicalStructure → (vars : List ℕ) → Form → List ℕ → K3
defined_value s vars body tuple =
    if length tuple == length vars then value s (put_all blank vars tuple) body else No

-- the update that counts: in mode Recompute, updates that are given for defined predicates are passed over
abbrev pub used_update : Mode → KindForm → Option UpdateForm → Option UpdateForm
used_update Given kind w = w
used_update Recompute KCore w = w
used_update Recompute (KDefined vars body) w = None

-- the kind of a predicate, by number; what is no predicate of the program is never changed
abbrev pub kind_or_core : Option PredForm → KindForm
kind_or_core None = KCore
kind_or_core (Some d) = d.kind

abbrev pub kind_at : ProgramForm → ℕ → KindForm
kind_at p q = kind_or_core (slice_get p.preds q)

abbrev pub update_at : ProgramForm → Mode → ActionForm → ℕ → Option UpdateForm
update_at p mode action q = used_update mode (kind_at p q) (update_for q action.updates)

-- ---- changed predicates

-- individuals may come or go
abbrev pub MovesIndividuals : ActionForm → Type 0
MovesIndividuals action = IsTrue action.fresh ⊎ IsSome action.retain

abbrev pub moves_individuals : ActionForm → Bool
moves_individuals action = action.fresh || is_some action.retain

-- a predicate is changed where an update of it counts; else, if it is defined, where individuals may come
-- or go, or its definition mentions a changed predicate
abbrev pub IsChanged : ActionForm → (changed : ℕ → Bool) → Option UpdateForm → KindForm → Type 0
IsChanged action changed (Some w) kind = Unit {0}
IsChanged action changed None KCore = ⊥
IsChanged action changed None (KDefined vars body) =
    MovesIndividuals action ⊎ ((r : ℕ) × Mentions r body × IsTrue (changed r))

-- these are the predicates that the action changes
abbrev pub AreChanged : ProgramForm → Mode → ActionForm → (changed : ℕ → Bool) → Type 0
AreChanged p mode action changed =
    (q : ℕ) → IsTrue (changed q) ↔ IsChanged action changed (update_at p mode action q) (kind_at p q)

-- ---- the new structure

-- the value that the predicate q has in the new structure at the tuple, which comes from another in the
-- middle structure: that of its update; or, where it is defined and changed, that of its definition in the
-- new structure; or else the value that it had
abbrev pub new_value : (middle new : LogicalStructure) → Assignment → (changed : Bool) → Option UpdateForm
    → KindForm → (q : ℕ) → (origin tuple : List ℕ) → K3
new_value middle new picks changed (Some w) kind q origin tuple = updated_value middle picks w origin
new_value middle new picks changed None KCore q origin tuple = middle.value q origin
new_value middle new picks changed None (KDefined vars body) q origin tuple =
    if changed then defined_value new vars body tuple else middle.value q origin

-- the new structure that the action gives from the middle structure, under the picked individuals, with a
-- choice of the individuals that stay. `origin` takes each individual to the one that it was
pub record IsNew (p : ProgramForm) (mode : Mode) (action : ActionForm) (picks : Assignment)
    (middle : LogicalStructure) (keep : ℕ → Bool) (new : LogicalStructure) : Type 0 where
  pub origin : ℕ → ℕ
  pub origins : map origin new.individuals ≡ filter keep middle.individuals
  pub differ : (u w : ℕ) → Contains new.individuals u → Contains new.individuals w → origin u ≡ origin w
      → u ≡ w
  pub changed : ℕ → Bool
  pub are_changed : AreChanged p mode action changed
  pub values : (q : ℕ) (tuple : List ℕ) → All (Contains new.individuals) tuple
      → new.value q tuple
      ≡ new_value middle new picks (changed q) (update_at p mode action q) (kind_at p q) q
      (map origin tuple) tuple
  pub summaries : (u : ℕ) → Contains new.individuals u → new.is_summary u ≡ middle.is_summary (origin u)
  pub no_mark : new.fresh ≡ None
