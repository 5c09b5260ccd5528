-- Finite differencing: for a formula, over the heap before a step, where the step makes it true, where it
-- makes it false, and what it is after the step. The limits on sizes are tested at each formula that is
-- formed. R. Paige and S. Koenig, Finite differencing of computable expressions, TOPLAS 4(3), 1982, 402-454;
-- T. Reps, M. Sagiv, A. Loginov, Finite differencing of logical formulas for static analysis, TOPLAS 32(6),
-- 2010.
use Rattle.std.specs.Prelude.{ℕ, suc, zero, Bool, ◌&&◌, ◌||◌, false, List, Option, Some, None, unwrap_or}
use Rattle.std.specs.Prelude.{slice_get, if◌then◌else◌, option_and_then}
use Rattle.std.specs.List.{zip}
use Rattle.tv_model.specs.Form.{Form, FZero, FOne, FAtom, FIsNew, FSame, FNot, FAnd, FOr, FIff, FCond}
use Rattle.tv_model.specs.Form.{FExists, FForall, FClosure}
use Rattle.tv_model.specs.Program.{ProgramForm, KindForm, KCore, KDefined, ActionForm, UpdateForm, ChangeForm}
use Rattle.tv_model.specs.Program.{CFree, CTo}
use Rattle.tv_model.specs.Step.{update_for}
use Rattle.tv_delta_laws.specs.Simple.{is_small, simple_not, simple_and, simple_or, simple_exists}
use Rattle.tv_delta_laws.specs.Simple.{simple_forall, simple_cond}
use Rattle.tv_delta_laws.specs.Putting.{Reserved, Arguments, put_in}

-- a formula before the step, where the step makes it true, and where it makes it false
pub record Delta : Type 0 where
  pub now : Form
  pub up : Form
  pub down : Form

abbrev pub delta_by : (now up down : Form) → Delta
delta_by now up down = record { now = now; up = up; down = down }

-- the formula after the step
abbrev pub after : Delta → Form
after d = simple_cond d.now (simple_not d.down) d.up

-- the delta, if what it says of the step is small
abbrev pub if_small : Delta → Option Delta
if_small d = if is_small d.up && is_small d.down then Some d else None

-- the same where it speaks of formulas after the step, which are to be small too
abbrev pub if_small_over : (tested : Bool) → Delta → Option Delta
if_small_over tested d = if tested then if_small d else None

-- the formula with the arguments put in, if it is small
abbrev pub small_put : Reserved → Form → Arguments → Option Form
small_put r f m = if is_small f then put_in r f m else None

-- a formula that the step leaves as it is
abbrev pub unchanged : Form → Option Delta
unchanged f = Some (delta_by f FZero FZero)

abbrev pub negated : Option Delta → Option Delta
negated None = None
negated (Some f) = Some (delta_by (FNot f.now) f.down f.up)

abbrev pub both : Option Delta → Option Delta → Option Delta
both None o = None
both (Some f) None = None
both (Some f) (Some g) =
    if_small_over (is_small (after f) && is_small (after g))
    (delta_by (FAnd f.now g.now)
    (simple_or (simple_and f.up (after g)) (simple_and (after f) g.up))
    (simple_or (simple_and f.down g.now) (simple_and f.now g.down)))

abbrev pub either : Option Delta → Option Delta → Option Delta
either None o = None
either (Some f) None = None
either (Some f) (Some g) =
    if_small_over (is_small (after f) && is_small (after g))
    (delta_by (FOr f.now g.now)
    (simple_or (simple_and f.up (simple_not g.now)) (simple_and (simple_not f.now) g.up))
    (simple_or (simple_and f.down (simple_not (after g))) (simple_and (simple_not (after f)) g.down)))

abbrev pub some : ℕ → Option Delta → Option Delta
some v None = None
some v (Some f) =
    if_small_over (is_small (after f))
    (delta_by (FExists v f.now)
    (simple_and (simple_exists v f.up) (simple_not (simple_exists v f.now)))
    (simple_and (simple_exists v f.down) (simple_not (simple_exists v (after f)))))

abbrev pub every : ℕ → Option Delta → Option Delta
every v None = None
every v (Some f) =
    if_small_over (is_small (after f))
    (delta_by (FForall v f.now)
    (simple_and (simple_exists v f.up) (simple_forall v (after f)))
    (simple_and (simple_exists v f.down) (simple_forall v f.now)))

-- the predicate is flagged
abbrev pub is_flagged : List Bool → ℕ → Bool
is_flagged flags q = unwrap_or (slice_get flags q) false

-- an atom of the formula has a flagged predicate
abbrev pub touches : List Bool → Form → Bool
touches flags FZero = false
touches flags FOne = false
touches flags (FAtom q vars) = is_flagged flags q
touches flags (FIsNew v) = false
touches flags (FSame v w) = false
touches flags (FNot f) = touches flags f
touches flags (FAnd f g) = touches flags f || touches flags g
touches flags (FOr f g) = touches flags f || touches flags g
touches flags (FIff f g) = touches flags f || touches flags g
touches flags (FCond c f g) = touches flags c || (touches flags f || touches flags g)
touches flags (FExists v f) = touches flags f
touches flags (FForall v f) = touches flags f
touches flags (FClosure from to left right f) = touches flags f

-- The delta of a formula over the deltas of its atoms, none where an affected atom stands under a closure, or
-- where a formula isn't small. Equivalences and conditionals are first written by `&`, `|` and `!`.
abbrev pub delta_of : (atoms : ℕ → List ℕ → Option Delta) → (affected : List Bool) → Form → Option Delta
delta_of atoms affected FZero = unchanged FZero
delta_of atoms affected FOne = unchanged FOne
delta_of atoms affected (FAtom q vars) = atoms q vars
delta_of atoms affected (FIsNew v) = unchanged (FIsNew v)
delta_of atoms affected (FSame v w) = unchanged (FSame v w)
delta_of atoms affected (FNot f) = negated (delta_of atoms affected f)
delta_of atoms affected (FAnd f g) = both (delta_of atoms affected f) (delta_of atoms affected g)
delta_of atoms affected (FOr f g) = either (delta_of atoms affected f) (delta_of atoms affected g)
delta_of atoms affected (FIff f g) =
    both (either (negated (delta_of atoms affected f)) (delta_of atoms affected g))
    (either (negated (delta_of atoms affected g)) (delta_of atoms affected f))
delta_of atoms affected (FCond c f g) =
    either (both (delta_of atoms affected c) (delta_of atoms affected f))
    (both (negated (delta_of atoms affected c)) (delta_of atoms affected g))
delta_of atoms affected (FExists v f) = some v (delta_of atoms affected f)
delta_of atoms affected (FForall v f) = every v (delta_of atoms affected f)
delta_of atoms affected (FClosure from to left right f) =
    if touches affected f then None else unchanged (FClosure from to left right f)

-- an atom whose predicate is set to what the formula f says of it
abbrev pub delta_of_set : (atom f : Form) → Option Delta
delta_of_set atom f =
    if_small (delta_by atom (simple_and f (simple_not atom)) (simple_and atom (simple_not f)))

-- an atom whose definition has the delta d
abbrev pub delta_of_defined : (atom : Form) → Delta → Option Delta
delta_of_defined atom d = Some (delta_by atom d.up d.down)

-- an atom of a core predicate by its update, if it has one: none where it is left free
abbrev pub delta_by_change : Reserved → (atom : Form) → (vars args : List ℕ) → ChangeForm → Option Delta
delta_by_change r atom vars args CFree = None
delta_by_change r atom vars args (CTo f) = option_and_then (delta_of_set atom) (small_put r f (zip vars args))

abbrev pub delta_by_update : Reserved → (atom : Form) → (args : List ℕ) → Option UpdateForm → Option Delta
delta_by_update r atom args None = None
delta_by_update r atom args (Some w) = delta_by_change r atom w.vars args w.change

-- an atom of an affected predicate by its kind; `inner` gives the deltas of the atoms of definitions
abbrev pub delta_by_kind : Reserved → (affected : List Bool) → ActionForm → (ℕ → List ℕ → Option Delta)
    → (q : ℕ) (args : List ℕ) → KindForm → Option Delta
delta_by_kind r affected action inner q args KCore =
    delta_by_update r (FAtom q args) args (update_for q action.updates)
delta_by_kind r affected action inner q args (KDefined vars body) =
    option_and_then (delta_of_defined (FAtom q args))
    (option_and_then (delta_of inner affected) (small_put r body (zip vars args)))

-- The delta of an atom, through fewer than n definitions, one inside the other.
abbrev pub atom_delta : (n : ℕ) → ProgramForm → ActionForm → Reserved → (affected : List Bool) → ℕ → List ℕ
    → Option Delta
atom_delta zero p action r affected q args = None
atom_delta (suc n) p action r affected q args =
    if is_flagged affected q
    then option_and_then
    (λ d. delta_by_kind r affected action (atom_delta n p action r affected) q args d.kind)
    (slice_get p.preds q)
    else unchanged (FAtom q args)
