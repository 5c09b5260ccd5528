-- The variables of an item and their numbers, said of the list of what stands in its formulas: those that are
-- new, in the order of first sight, get the lowest numbers that stand for nothing yet, and there are 32
-- numbers.
use Rattle.std.specs.Prelude.{ℕ, ◌≡◌, ◌+◌, ◌<◌, ◌≤◌, Bool, true, false, ◌||◌, List, [], ◌∷◌, ◌++◌, length}
use Rattle.std.specs.Prelude.{map, is_some, Ok, Err, if◌then◌else◌}
use Rattle.std.specs.List.{list_any, flat_map}
use Rattle.std.specs.Str.{bytes_eq}
use Rattle.tv_model.specs.Form.{Form}
use Rattle.tv_tree.specs.Forms as tree
use Rattle.tv_names.specs.declared.refusal.ResolveError.TheVariants.{TooManyVariables}
use Rattle.tv_names.specs.Naming.{SlotForm, Vacant, Nameless, Named, NamingForm, is_named}
use Rattle.tv_names.specs.Resolving.{PlaceForm, resolved}

-- what asks for a number: a variable's name, or the own variables of `p*` and `p+`, which all of the item
-- share
pub data Sight : Type 0 where
  OfName : List ℕ → Sight
  OfPair : Sight

-- what stands in a formula, in reading order
abbrev pub sights : tree.Form → List Sight
sights tree.FZero = []
sights tree.FOne = []
sights tree.FHalf = []
sights (tree.FSame v w) = OfName v ∷ OfName w ∷ []
sights (tree.FDiffer v w) = OfName v ∷ OfName w ∷ []
sights (tree.FAtom name arguments) = map OfName arguments
sights (tree.FStar name v w) = OfName v ∷ OfName w ∷ OfPair ∷ []
sights (tree.FPlus name v w) = OfName v ∷ OfName w ∷ OfPair ∷ []
sights (tree.FParen f) = sights f
sights (tree.FNot f) = sights f
sights (tree.FAnd f g) = sights f ++ sights g
sights (tree.FOr f g) = sights f ++ sights g
sights (tree.FImp f g) = sights f ++ sights g
sights (tree.FIff f g) = sights f ++ sights g
sights (tree.FCond f g h) = sights f ++ (sights g ++ sights h)
sights (tree.FExists names f) = map OfName names ++ sights f
sights (tree.FForall names f) = map OfName names ++ sights f
sights (tree.FTc from to left right f) = OfName from ∷ OfName to ∷ OfName left ∷ OfName right ∷ sights f

abbrev pub is_same_sight : Sight → Sight → Bool
is_same_sight (OfName v) (OfName w) = bytes_eq v w
is_same_sight (OfName v) OfPair = false
is_same_sight OfPair (OfName w) = false
is_same_sight OfPair OfPair = true

-- whether it has its numbers already
abbrev pub is_numbered : NamingForm → Sight → Bool
is_numbered s (OfName name) = list_any (is_named name) s.slots
is_numbered s OfPair = is_some s.own

-- those that aren't known, each where it is seen first
abbrev pub first_sights : (Sight → Bool) → List Sight → List Sight
first_sights known [] = []
first_sights known (x ∷ xs) =
    if known x then first_sights known xs else x ∷ first_sights (λ y. is_same_sight y x || known y) xs

-- what it needs numbers for
abbrev pub variables_of : Sight → List SlotForm
variables_of (OfName name) = Named name ∷ []
variables_of OfPair = Nameless ∷ Nameless ∷ []

-- the new variables, in order of first sight
abbrev pub new_variables : NamingForm → List Sight → List SlotForm
new_variables s xs = flat_map variables_of (first_sights (is_numbered s) xs)

abbrev pub vacant_count : List SlotForm → ℕ
vacant_count [] = 0
vacant_count (Vacant ∷ slots) = 1 + vacant_count slots
vacant_count (Nameless ∷ slots) = vacant_count slots
vacant_count (Named name ∷ slots) = vacant_count slots

-- the variables in their order, at the lowest numbers that stand for nothing yet
abbrev pub filled_with : List SlotForm → List SlotForm → List SlotForm
filled_with slots [] = slots
filled_with [] (x ∷ new) = []
filled_with (Vacant ∷ slots) (x ∷ new) = x ∷ filled_with slots new
filled_with (Nameless ∷ slots) (x ∷ new) = Nameless ∷ filled_with slots (x ∷ new)
filled_with (Named name ∷ slots) (x ∷ new) = Named name ∷ filled_with slots (x ∷ new)

-- A formula that is resolved has numbers for all its variables: there was room for the new ones, and they got
-- the lowest vacant numbers in order of first sight.
abbrev pub NumbersFollowSights : Type 0
NumbersFollowSights =
    (at : PlaceForm) (f : tree.Form) (s : NamingForm) (x : Form × NamingForm) → resolved at f s ≡ Ok x →
    (x.1.slots ≡ filled_with s.slots (new_variables s (sights f)))
    × (length (new_variables s (sights f)) ≤ vacant_count s.slots)

-- a formula has too many variables only where there is no room for the new ones
abbrev pub TooManyHaveNoRoom : Type 0
TooManyHaveNoRoom =
    (at : PlaceForm) (f : tree.Form) (s : NamingForm) →
    resolved at f s ≡ Err TooManyVariables → vacant_count s.slots < length (new_variables s (sights f))
