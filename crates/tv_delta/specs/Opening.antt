-- Deltas of formulas whose atoms' definitions are opened, for an update at an action.
use Rattle.std.specs.Prelude.{ℕ, zero, suc, ◌≡◌, ◌≤◌, ◌<◌, ◌+◌, nat_lt, if◌then◌else◌, length, Bool, List}
use Rattle.std.specs.Prelude.{Option, Some, All, option_and_then, option_map}
use Rattle.std.specs.List.{zip}
use Rattle.tv_model.specs.Form.{Form, FZero, FOne, FAtom, FIsNew, FSame, FNot, FAnd, FOr, FIff, FCond}
use Rattle.tv_model.specs.Form.{FExists, FForall, FClosure, form_of, vars_of}
use Rattle.tv_model.specs.declared.program.Action.{Action}
use Rattle.tv_model.specs.declared.program.Program.{Program}
use Rattle.tv_model.specs.Program.{ProgramForm, KindForm, KDefined, program_of, action_of}
use Rattle.tv_model.specs.Valid.{IsValid}
use Rattle.tv_delta_laws.specs.Deltas.{Delta, delta_of, delta_of_defined, delta_by_kind, atom_delta}
use Rattle.tv_delta_laws.specs.Deltas.{small_put}
use Rattle.tv_delta_laws.specs.Putting.{Reserved}
use Rattle.tv_delta_laws.specs.Simple.{nodes}
use Rattle.tv_delta_form.specs.Views.{GivesFormed, delta_form}
use Rattle.tv_delta.specs.declared.opening.Opening.{Opening}
use Rattle.tv_delta.specs.declared.memo.Entry.{Entry}
use Rattle.tv_delta.specs.declared.atoms.Start.{Start}
use Rattle.tv_delta.specs.declared.atoms.Start.TheVariants.{Done, Inside}

abbrev pub reserved_for : Opening → Reserved
reserved_for o = record { picks = (action_of o.action.now).picks; own = vars_of o.own }

-- the delta of an atom, through all definitions, for an update with these own variables
abbrev pub atom_for : Program → Action → (affected : List Bool) → (own : List ℕ) → ℕ → List ℕ → Option Delta
atom_for program action affected own =
    atom_delta (length (program_of program).preds) (program_of program) (action_of action)
    (record { picks = (action_of action).picks; own = own }) affected

abbrev pub atom_at : Opening → ℕ → List ℕ → Option Delta
atom_at o = atom_for o.program.now o.action.now o.affected.now (vars_of o.own)

-- the delta of a formula over these
abbrev pub delta_at : Opening → Form → Option Delta
delta_at o f = delta_of (atom_at o) o.affected.now f

-- ---- how deep definitions go

-- how many of the first n numbers have a lower rank than k
abbrev pub lower_count : (rank : ℕ → ℕ) → (k n : ℕ) → ℕ
lower_count rank k zero = 0
lower_count rank k (suc n) = lower_count rank k n + (if nat_lt (rank n) k then 1 else 0)

-- the predicate is one of the first n, and fewer than so many of these have a lower rank
abbrev pub IsWithin : (rank : ℕ → ℕ) → (n depth q : ℕ) → Type 0
IsWithin rank n depth q = (q < n) × (lower_count rank (rank q) n < depth)

-- each predicate of the formula is
abbrev pub AreWithin : (rank : ℕ → ℕ) → (n depth : ℕ) → Form → Type 0
AreWithin rank n depth FZero = Unit {0}
AreWithin rank n depth FOne = Unit {0}
AreWithin rank n depth (FAtom q vars) = IsWithin rank n depth q
AreWithin rank n depth (FIsNew v) = Unit {0}
AreWithin rank n depth (FSame v w) = Unit {0}
AreWithin rank n depth (FNot f) = AreWithin rank n depth f
AreWithin rank n depth (FAnd f g) = AreWithin rank n depth f × AreWithin rank n depth g
AreWithin rank n depth (FOr f g) = AreWithin rank n depth f × AreWithin rank n depth g
AreWithin rank n depth (FIff f g) = AreWithin rank n depth f × AreWithin rank n depth g
AreWithin rank n depth (FCond c f g) =
    AreWithin rank n depth c × (AreWithin rank n depth f × AreWithin rank n depth g)
AreWithin rank n depth (FExists v f) = AreWithin rank n depth f
AreWithin rank n depth (FForall v f) = AreWithin rank n depth f
AreWithin rank n depth (FClosure from to left right f) = AreWithin rank n depth f

-- in the valid program each chain of definitions that begins at an atom of the formula is shorter than depth
abbrev pub EndsWithin : ProgramForm → (depth : ℕ) → Form → Type 0
EndsWithin p depth f = (valid : IsValid p) × AreWithin valid.rank (length p.preds) depth f

-- ---- what is known

-- the entry is of this atom, for an update with these own variables
pub record IsOf (e : Entry) (own : List ℕ) (q : ℕ) (args : List ℕ) : Type 0 where
  pub same_own : vars_of e.own ≡ own
  pub same_pred : e.pred.0 ≡ q
  pub same_args : vars_of e.args ≡ args

-- each entry has the delta of its atom, or none where there is none
abbrev pub IsKnown : Program → Action → (affected : List Bool) → Entry → Type 0
IsKnown program action affected e =
    atom_for program action affected (vars_of e.own) e.pred.0 (vars_of e.args) ≡ option_map delta_form e.delta

abbrev pub AreKnown : Program → Action → (affected : List Bool) → List Entry → Type 0
AreKnown program action affected entries = All (IsKnown program action affected) entries

abbrev pub AreKnownAt : Opening → List Entry → Type 0
AreKnownAt o entries = AreKnown o.program.now o.action.now o.affected.now entries

-- ---- how an atom is opened

-- what is told of an atom by its predicate's kind: its delta, or the definition with the arguments put in
abbrev pub StartsByKind : Opening → (q : ℕ) (args : List ℕ) → KindForm → Start → Type 0
StartsByKind o q args kind (Done r) =
    GivesFormed delta_form r
    (delta_by_kind (reserved_for o) o.affected.now (action_of o.action.now) (atom_at o) q args kind)
StartsByKind o q args kind (Inside x) =
    (vars : List ℕ) × (body : Form) × (kind ≡ KDefined vars body)
    × (small_put (reserved_for o) body (zip vars args) ≡ Some (form_of x)) × (nodes (form_of x) ≤ 65536)

-- its delta, or a formula whose delta it has and in which chains of definitions are shorter
abbrev pub Starts : Opening → (depth q : ℕ) (args : List ℕ) → Start → Type 0
Starts o depth q args (Done r) = GivesFormed delta_form r (atom_at o q args)
Starts o depth q args (Inside x) =
    (n : ℕ) × (depth ≡ n + 1) × (nodes (form_of x) ≤ 65536)
    × EndsWithin (program_of o.program.now) n (form_of x)
    × (atom_at o q args ≡ option_and_then (delta_of_defined (FAtom q args)) (delta_at o (form_of x)))
