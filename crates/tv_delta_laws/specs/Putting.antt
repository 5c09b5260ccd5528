-- Arguments put in for the free variables of a formula, without capture: a bound variable that would
-- capture an argument, or that is reserved, gets the lowest free slot.
-- Substitution with renaming of bound variables: A. Church, The Calculi of Lambda-Conversion, 1941.
use Rattle.std.specs.Prelude.{ℕ, Bool, ◌==◌, ◌||◌, ◌&&◌, not, List, [], ◌∷◌, ◌++◌, map, filter, Option, Some}
use Rattle.std.specs.Prelude.{None, if◌then◌else◌, option_map, option_and_then}
use Rattle.std.specs.List.{find, list_any, range_with_len}
use Rattle.tv_model.specs.Form.{Form, FZero, FOne, FAtom, FIsNew, FSame, FNot, FAnd, FOr, FIff, FCond}
use Rattle.tv_model.specs.Form.{FExists, FForall, FClosure}
use Rattle.tv_model.specs.Free.{is_free}

-- the number is in the list
abbrev pub has : List ℕ → ℕ → Bool
has xs x = list_any (λ y. y == x) xs

-- the lowest of the 32 slots that isn't in use
unfoldable pub least_slot : List ℕ → Option ℕ
least_slot used = find (λ s. not (has used s)) (range_with_len 0 32)

-- the variables of the formula, free or bound
abbrev pub variables : Form → List ℕ
variables FZero = []
variables FOne = []
variables (FAtom pred vars) = vars
variables (FIsNew v) = v ∷ []
variables (FSame v w) = v ∷ w ∷ []
variables (FNot f) = variables f
variables (FAnd f g) = variables f ++ variables g
variables (FOr f g) = variables f ++ variables g
variables (FIff f g) = variables f ++ variables g
variables (FCond c f g) = variables c ++ (variables f ++ variables g)
variables (FExists v f) = v ∷ variables f
variables (FForall v f) = v ∷ variables f
variables (FClosure from to left right f) = from ∷ to ∷ left ∷ right ∷ variables f

-- what is put for variables: each variable at most once, beside its argument
abbrev pub Arguments : Type 0
Arguments = List (ℕ × ℕ)

abbrev pub argument_for : Arguments → ℕ → ℕ
argument_for [] v = v
argument_for (e ∷ m) v = if e.0 == v then e.1 else argument_for m v

abbrev pub arguments_of : Arguments → List ℕ
arguments_of m = map (λ e. e.1) m

-- the numbers that no bound variable may have, and the further ones that none may get
pub record Reserved : Type 0 where
  pub picks : List ℕ
  pub own : List ℕ

-- the arguments that are left under a bound variable v over f: those of the variables that are free there
abbrev pub under : Arguments → ℕ → Form → Arguments
under m v f = filter (λ e. is_free e.0 (FExists v f)) m

-- the number of the variable v, bound over f, once the arguments are put in: the same, or, where it is picked
-- or would capture an argument, the lowest slot that isn't picked, nor an own variable, nor an argument, nor
-- in f
abbrev pub bound_number : Reserved → Arguments → ℕ → Form → Option ℕ
bound_number r m v f =
    if has r.picks v || has (arguments_of (under m v f)) v
    then least_slot (r.picks ++ (r.own ++ (arguments_of m ++ variables f)))
    else Some v

-- the arguments under a bound variable v over f that got the number w
abbrev pub under_bound : Arguments → ℕ → ℕ → Form → Arguments
under_bound m v w f = if w == v then under m v f else (v, w) ∷ under m v f

-- the same, and w is no slot for a bound variable
abbrev pub with_own : Reserved → ℕ → Reserved
with_own r w = record { picks = r.picks; own = w ∷ r.own }

abbrev pub option_both : {X Y Z : Type 0} → (X → Y → Z) → Option X → Option Y → Option Z
option_both f None o = None
option_both f (Some x) None = None
option_both f (Some x) (Some y) = Some (f x y)

-- The formula with the arguments put in, none where a slot is wanted and all are in use. The bound variables
-- of a closure are taken one after the other, as two nested ones, and stay different.
abbrev pub put_in : Reserved → Form → Arguments → Option Form
put_in r FZero m = Some FZero
put_in r FOne m = Some FOne
put_in r (FAtom pred vars) m = Some (FAtom pred (map (argument_for m) vars))
put_in r (FIsNew v) m = Some (FIsNew (argument_for m v))
put_in r (FSame v w) m = Some (FSame (argument_for m v) (argument_for m w))
put_in r (FNot f) m = option_map (λ g. FNot g) (put_in r f m)
put_in r (FAnd f g) m = option_both (λ x y. FAnd x y) (put_in r f m) (put_in r g m)
put_in r (FOr f g) m = option_both (λ x y. FOr x y) (put_in r f m) (put_in r g m)
put_in r (FIff f g) m = option_both (λ x y. FIff x y) (put_in r f m) (put_in r g m)
put_in r (FCond c f g) m =
    option_and_then (λ x. option_both (λ y z. FCond x y z) (put_in r f m) (put_in r g m)) (put_in r c m)
put_in r (FExists v f) m =
    option_and_then (λ w. option_map (λ g. FExists w g) (put_in r f (under_bound m v w f)))
    (bound_number r m v f)
put_in r (FForall v f) m =
    option_and_then (λ w. option_map (λ g. FForall w g) (put_in r f (under_bound m v w f)))
    (bound_number r m v f)
put_in r (FClosure from to left right f) m =
    option_and_then
    (λ l. option_and_then (λ k. option_map (λ g. FClosure (argument_for m from) (argument_for m to) l k g)
    (put_in r f (under_bound (under_bound m left l (FExists right f)) right k f)))
    (bound_number (with_own r l) (under_bound m left l (FExists right f)) right f))
    (bound_number r m left (FExists right f))

-- The own variables of an update: those of the definition, where one that is picked gets the lowest slot not
-- in use, the first one first.
abbrev pub own_variables : (picks used : List ℕ) → List ℕ → Option (List ℕ)
own_variables picks used [] = Some []
own_variables picks used (v ∷ vars) =
    if has picks v
    then option_and_then (λ s. option_map (λ own. s ∷ own) (own_variables picks (s ∷ used) vars))
    (least_slot used)
    else option_map (λ own. v ∷ own) (own_variables picks used vars)
