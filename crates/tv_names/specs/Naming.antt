-- The variables of one item: which name has which number.
use Rattle.std.specs.Prelude.{ℕ, ◌+◌, get_or, Bool, true, false, List, [], ◌∷◌, map, Option, Some, None, Ok}
use Rattle.std.specs.Prelude.{Err, position, slice_set, if◌then◌else◌}
use Rattle.std.specs.List.{repeat}
use Rattle.std.specs.Str.{bytes_eq}
use Rattle.tv_names.specs.declared.refusal.ResolveError.TheVariants.{TooManyVariables, ArityTooLarge}
use Rattle.tv_names.specs.Refusal.{◌>>=◌, OrRefused}

-- what a number stands for: nothing yet, a variable without a name, or the variable of a name
pub data SlotForm : Type 0 where
  Vacant Nameless : SlotForm
  Named : List ℕ → SlotForm

-- The numbers from 0 to 31 in order. `own` has the two variables that all `p*` and `p+` of the item share,
-- once there is one; `further` the variable beside the known ones that stands free, where only one may.
pub record NamingForm : Type 0 where
  pub slots : List SlotForm
  pub own : Option (ℕ × ℕ)
  pub further : Option ℕ

abbrev pub is_vacant : SlotForm → Bool
is_vacant Vacant = true
is_vacant Nameless = false
is_vacant (Named word) = false

abbrev pub is_named : List ℕ → SlotForm → Bool
is_named name Vacant = false
is_named name Nameless = false
is_named name (Named word) = bytes_eq name word

abbrev pub number_of : List ℕ → List SlotForm → Option ℕ
number_of name slots = position (is_named name) slots

abbrev pub filled_at : Option ℕ → SlotForm → NamingForm → OrRefused (ℕ × NamingForm)
filled_at None slot s = Err TooManyVariables
filled_at (Some n) slot s = Ok (n, record s { slots = slice_set s.slots n slot })

-- a further variable gets the lowest number that stands for nothing yet
unfoldable pub filled : SlotForm → NamingForm → OrRefused (ℕ × NamingForm)
filled slot s = filled_at (position is_vacant s.slots) slot s

abbrev pub sighted_at : Option ℕ → List ℕ → NamingForm → OrRefused (ℕ × NamingForm)
sighted_at None name s = filled (Named name) s
sighted_at (Some n) name s = Ok (n, s)

-- a name keeps its number, and gets one where it is seen first
unfoldable pub sighted : List ℕ → NamingForm → OrRefused (ℕ × NamingForm)
sighted name s = sighted_at (number_of name s.slots) name s

abbrev pub hidden_slot : List ℕ → SlotForm → SlotForm
hidden_slot name slot = if is_named name slot then Nameless else slot

-- the picked variable of this name, if there is one, keeps its number and loses its name
abbrev pub hidden : List ℕ → List SlotForm → List SlotForm
hidden name slots = map (hidden_slot name) slots

-- an own variable of a definition or an update gets a number of its own
unfoldable pub declared : List ℕ → NamingForm → OrRefused (ℕ × NamingForm)
declared name s = filled (Named name) (record s { slots = hidden name s.slots })

unfoldable pub two_declared : List ℕ → List ℕ → NamingForm → OrRefused (List ℕ × NamingForm)
two_declared v w s = do
  x ← declared v s
  y ← declared w x.1
  Ok (x.0 ∷ y.0 ∷ [], y.1)

-- the own variables of a definition or an update, in their order; no predicate has more than two
abbrev pub declared_all : List (List ℕ) → NamingForm → OrRefused (List ℕ × NamingForm)
declared_all [] s = Ok ([], s)
declared_all (v ∷ []) s = declared v s >>= λ x. Ok (x.0 ∷ [], x.1)
declared_all (v ∷ w ∷ []) s = two_declared v w s
declared_all (v ∷ w ∷ x ∷ more) s = Err ArityTooLarge

-- the next two numbers, the left one first
unfoldable pub two_more : NamingForm → OrRefused ((ℕ × ℕ) × NamingForm)
two_more s = do
  left ← filled Nameless s
  right ← filled Nameless left.1
  Ok ((left.0, right.0), record right.1 { own = Some (left.0, right.0) })

abbrev pub own_at : Option (ℕ × ℕ) → NamingForm → OrRefused ((ℕ × ℕ) × NamingForm)
own_at None s = two_more s
own_at (Some pair) s = Ok (pair, s)

-- the own variables of `p*` and `p+`
unfoldable pub own_pair : NamingForm → OrRefused ((ℕ × ℕ) × NamingForm)
own_pair s = own_at s.own s

-- an item of which nothing is numbered yet
abbrev pub no_names : NamingForm
no_names = record { slots = repeat 32 (Vacant ∷ []); own = None; further = None }

abbrev pub kept_slot : (keeps : Bool) → SlotForm → SlotForm
kept_slot true slot = slot
kept_slot false slot = Vacant

-- the slots from number n on whose flags are true; the others are vacant
abbrev pub kept_from : ℕ → List Bool → List SlotForm → List SlotForm
kept_from n flags [] = []
kept_from n flags (slot ∷ slots) = kept_slot (get_or flags n false) slot ∷ kept_from (n + 1) flags slots
