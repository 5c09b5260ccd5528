-- What values of the code say.
use Rattle.std.specs.Prelude.{ℕ, zero, suc, ◌+◌, ◌++◌, option_map, if◌then◌else◌, ◌≡◌, ◌==◌, Bool, false}
use Rattle.std.specs.Prelude.{List, [], ◌∷◌, map, Option, Some, None, Result, Ok, Err}
use Rattle.tv_model.specs.Form.{Form, FExists, form_of, vars_of}
use Rattle.tv_model.specs.Program.{picks_of}
use Rattle.tv_model.specs.declared.formula.Var.{Var}
use Rattle.tv_delta_laws.specs.Deltas.{Delta as DeltaForm, delta_by}
use Rattle.tv_delta_laws.specs.Putting.{Arguments, Reserved, has, with_own, arguments_of, variables}
use Rattle.tv_delta_laws.specs.Putting.{under_bound, bound_number, least_slot}
use Rattle.tv_delta_laws.specs.Simple.{is_small}
use Rattle.tv_delta_form.specs.Shapes.{shape_form}
use Rattle.tv_delta_form.specs.declared.deltas.Delta.{Delta}
use Rattle.tv_delta_form.specs.declared.putting.Put.{Put}
use Rattle.tv_delta_form.specs.declared.putting.Kept.{Kept}
use Rattle.tv_delta_form.specs.declared.putting.Scope.{Scope}
use Rattle.tv_delta_form.specs.declared.putting.Reserved.{Reserved as ReservedHere}
use Rattle.tv_delta_form.specs.declared.putting.Bound.{Bound}
use Rattle.tv_delta_form.specs.declared.shared.Shared.{Shared}
use Rattle.tv_delta_form.specs.declared.stop.Stop.{Stop}
use Rattle.tv_delta_form.specs.declared.stop.Stop.TheVariants.{Unformed}

-- a call that stops since something isn't formed is right: there is nothing
pub record StopsUnformed {X : Type 0} (e : Stop) (defined : Option X) : Type 0 where
  pub none : e ≡ Unformed → defined ≡ None

-- what a call gives, seen by view, is what is defined; it stops only where nothing is, or for lack of memory
abbrev pub GivesFormed : {X Y : Type 0} → (X → Y) → Result X Stop → Option Y → Type 0
GivesFormed view (Ok x) defined = defined ≡ Some (view x)
GivesFormed view (Err e) defined = StopsUnformed e defined

abbrev pub arguments_from : List Put → Arguments
arguments_from m = map (λ e. (e.var.0, e.argument.0)) m

abbrev pub reserved_of : Kept → Reserved
reserved_of k = record { picks = picks_of k.picks.now; own = vars_of k.own }

-- the same, and one more variable is no slot
abbrev pub reserved_besides : Option Var → Reserved → Reserved
reserved_besides None r = r
reserved_besides (Some w) r = with_own r w.0

abbrev pub reserved_at : ReservedHere → Reserved
reserved_at r = reserved_besides r.besides (record { picks = picks_of r.picks.now; own = vars_of r.own })

abbrev pub is_it : Option Var → ℕ → Bool
is_it None v = false
is_it (Some w) v = w.0 == v

-- what a variable is bound over
abbrev pub form_within : Option Var → Form → Form
form_within None f = f
form_within (Some w) f = FExists w.0 f

abbrev pub scope_form : Scope → Form
scope_form scope = form_within scope.inner (form_of scope.body.now)

-- the slots in use where a variable over f is renamed
abbrev pub used_at : ReservedHere → Arguments → Form → List ℕ
used_at r m f = (reserved_at r).picks ++ ((reserved_at r).own ++ (arguments_of m ++ variables f))

-- a bound variable's new number and the arguments under it
abbrev pub bind : Reserved → Arguments → ℕ → Form → Option (ℕ × Arguments)
bind r m v f = option_map (λ w. (w, under_bound m v w f)) (bound_number r m v f)

abbrev pub bound_of : Bound → ℕ × Arguments
bound_of b = (b.var.0, arguments_from b.arguments.items)

-- the number of an own variable of an update: a picked one gets the lowest slot that isn't in use
abbrev pub own_number : (picks used : List ℕ) → ℕ → Option ℕ
own_number picks used v = if has picks v then least_slot used else Some v

abbrev pub besides_list : Option Var → List ℕ
besides_list None = []
besides_list (Some w) = w.0 ∷ []

-- the slots in use where an own variable is renamed
abbrev pub own_used : Kept → Option Var → Form → List ℕ
own_used k besides body =
    besides_list besides ++ (picks_of k.picks.now ++ (vars_of k.own ++ variables body))

-- the lowest of n slots from s on that isn't in use
abbrev pub slot_among : (used : List ℕ) → (s n : ℕ) → Option ℕ
slot_among used s zero = None
slot_among used s (suc n) = if has used s then slot_among used (s + 1) n else Some s

-- the formula, if it is small
abbrev pub small_form : Form → Option Form
small_form f = if is_small f then Some f else None

-- what a formula with shared parts says
abbrev pub form_at : Shared → Form
form_at s = shape_form s.shape.value

abbrev pub delta_form : Delta → DeltaForm
delta_form d = delta_by (form_at d.before) (form_at d.up) (form_at d.down)
