-- The choices of a focus atom in a structure, and the structure of a choice.
use Rattle.std.specs.Prelude.{ℕ, zero, suc, ◌==◌, Bool, true, false, List, [], ◌∷◌, ◌++◌, length, map, Option}
use Rattle.std.specs.Prelude.{None, Some, slice_index_or, if◌then◌else◌}
use Rattle.std.specs.List.{flat_map, range_with_len, position_or_len}
use Rattle.std.specs.Option.{option_map}
use Rattle.tv_kleene.specs.declared.K3.{K3}
use Rattle.tv_kleene.specs.declared.K3.TheVariants.{No, Half, Yes}
use Rattle.tv_embedding_laws.specs.LogicalStructure.{LogicalStructure}
use Rattle.tv_focus_laws.specs.FocusAtoms.{AnchorsForm}

-- the vectors that an individual is given, in order
abbrev pub VectorSet : Type 0
VectorSet = List (List K3)

-- a set of vectors for each individual, in their order
abbrev pub ChoiceForm : Type 0
ChoiceForm = List VectorSet

-- at which tuples of an individual a predicate is made definite: at the individual alone, or at it and
-- each of the anchors, before them or behind them
pub data AimForm : Type 0 where
  Alone : AimForm
  Before : (anchors : List ℕ) → AimForm
  Behind : (anchors : List ℕ) → AimForm

-- what focus does with an atom: nothing, make a nullary predicate definite, or split individuals
pub data SplitForm : Type 0 where
  Nothing : SplitForm
  Whole : SplitForm
  Each : AimForm → SplitForm

-- by the variable that was given anchors first
abbrev pub split_by : List AnchorsForm → ℕ → ℕ → SplitForm
split_by [] v w = Nothing
split_by (one ∷ given) v w =
    if one.var == v then Each (Behind one.anchors)
    else if one.var == w then Each (Before one.anchors)
    else split_by given v w

-- what focus does with an atom of these variables
abbrev pub split_of : List AnchorsForm → (vars : List ℕ) → SplitForm
split_of given [] = Whole
split_of given (v ∷ []) = Each Alone
split_of given (v ∷ w ∷ []) = if v == w then Nothing else split_by given v w
split_of given (v ∷ w ∷ x ∷ more) = Nothing

-- ---- vectors

-- the tuples of the individual
abbrev pub aimed : AimForm → ℕ → List (List ℕ)
aimed Alone u = (u ∷ []) ∷ []
aimed (Before anchors) u = map (λ a. u ∷ a ∷ []) anchors
aimed (Behind anchors) u = map (λ a. a ∷ u ∷ []) anchors

-- the definite values that a value stands for
abbrev pub definite : K3 → List K3
definite No = No ∷ []
definite Half = No ∷ Yes ∷ []
definite Yes = Yes ∷ []

-- the vectors of definite values that agree with these values, in lexicographic order
abbrev pub vectors : List K3 → List (List K3)
vectors [] = [] ∷ []
vectors (k ∷ ks) = flat_map (λ x. map (λ rest. x ∷ rest) (vectors ks)) (definite k)

-- ---- sets of vectors

-- the sublists of n elements, in lexicographic order
abbrev pub picks : {X : Type 0} → ℕ → List X → List (List X)
picks zero xs = [] ∷ []
picks (suc n) [] = []
picks (suc n) (x ∷ xs) = map (λ rest. x ∷ rest) (picks n xs) ++ picks (suc n) xs

-- those of 1 to n elements, in the order of these numbers
abbrev pub picks_to : {X : Type 0} → ℕ → List X → List (List X)
picks_to zero xs = []
picks_to (suc n) xs = picks_to n xs ++ picks (suc n) xs

-- the sets of vectors that an individual may have: one vector, or where it is a summary one or more
abbrev pub sets_of : Bool → List K3 → List VectorSet
sets_of true ks = picks_to (length (vectors ks)) (vectors ks)
sets_of false ks = picks 1 (vectors ks)

-- ---- choices

-- one element of each list, in lexicographic order
abbrev pub product : {X : Type 0} → List (List X) → List (List X)
product [] = [] ∷ []
product (xs ∷ xss) = flat_map (λ x. map (λ rest. x ∷ rest) (product xss)) xs

-- the sets of each individual
abbrev pub sets_in : LogicalStructure → (pred : ℕ) → AimForm → List (List VectorSet)
sets_in s pred aim = map (λ u. sets_of (s.is_summary u) (map (s.value pred) (aimed aim u))) s.individuals

-- a choice gives each individual a set of vectors
abbrev pub choices : LogicalStructure → (pred : ℕ) → AimForm → List ChoiceForm
choices s pred aim = product (sets_in s pred aim)

-- ---- the structure of a choice

-- a copy of an individual, and its vector
pub record MemberForm : Type 0 where
  pub origin : ℕ
  pub vector : List K3

abbrev pub members_of : ℕ → List (List K3) → List MemberForm
members_of u set = map (λ vector. record { origin = u; vector = vector }) set

-- one copy of each individual for each vector of its set, in order
abbrev pub members : (individuals : List ℕ) → ChoiceForm → List MemberForm
members [] choice = []
members (u ∷ us) [] = []
members (u ∷ us) (set ∷ choice) = members_of u set ++ members us choice

abbrev pub nobody : MemberForm
nobody = record { origin = 0; vector = [] }

abbrev pub member_at : List MemberForm → ℕ → MemberForm
member_at ms i = slice_index_or ms i nobody

-- the value of the vector with the anchor u, or k where u is none of the anchors
abbrev pub with_anchor : (anchors : List ℕ) → List K3 → (u : ℕ) → (k : K3) → K3
with_anchor [] vector u k = k
with_anchor (a ∷ anchors) [] u k = k
with_anchor (a ∷ anchors) (x ∷ vector) u k = if a == u then x else with_anchor anchors vector u k

-- the value of the focused predicate at a tuple of copies: that of the vector, where the tuple is aimed at,
-- else that of the origins
abbrev pub focused_value : LogicalStructure → (pred : ℕ) → AimForm → List MemberForm → (tuple : List ℕ) → K3
focused_value s pred Alone ms [] = s.value pred []
focused_value s pred Alone ms (i ∷ []) = slice_index_or (member_at ms i).vector 0 No
focused_value s pred Alone ms (i ∷ j ∷ more) =
    s.value pred (map (λ x. (member_at ms x).origin) (i ∷ j ∷ more))
focused_value s pred (Before anchors) ms [] = s.value pred []
focused_value s pred (Before anchors) ms (i ∷ []) = s.value pred ((member_at ms i).origin ∷ [])
focused_value s pred (Before anchors) ms (i ∷ j ∷ []) =
    with_anchor anchors (member_at ms i).vector (member_at ms j).origin
    (s.value pred ((member_at ms i).origin ∷ (member_at ms j).origin ∷ []))
focused_value s pred (Before anchors) ms (i ∷ j ∷ x ∷ more) =
    s.value pred (map (λ x. (member_at ms x).origin) (i ∷ j ∷ x ∷ more))
focused_value s pred (Behind anchors) ms [] = s.value pred []
focused_value s pred (Behind anchors) ms (i ∷ []) = s.value pred ((member_at ms i).origin ∷ [])
focused_value s pred (Behind anchors) ms (i ∷ j ∷ []) =
    with_anchor anchors (member_at ms j).vector (member_at ms i).origin
    (s.value pred ((member_at ms i).origin ∷ (member_at ms j).origin ∷ []))
focused_value s pred (Behind anchors) ms (i ∷ j ∷ x ∷ more) =
    s.value pred (map (λ x. (member_at ms x).origin) (i ∷ j ∷ x ∷ more))

-- the first copy of the individual
abbrev pub copy_of : List MemberForm → ℕ → ℕ
copy_of ms u = position_or_len (λ m. m.origin == u) ms

-- the structure over these copies: the focused predicate has the vectors' values, and all else is that of
-- the origins
abbrev pub chosen_over : LogicalStructure → (pred : ℕ) → AimForm → List MemberForm → LogicalStructure
chosen_over s pred aim ms = record {
  individuals = range_with_len 0 (length ms);
  value =
      λ q tuple. if q == pred then focused_value s pred aim ms tuple
      else s.value q (map (λ x. (member_at ms x).origin) tuple);
  is_summary = λ x. s.is_summary (member_at ms x).origin;
  fresh = option_map (copy_of ms) s.fresh;
}

-- the structure of a choice
abbrev pub chosen : LogicalStructure → (pred : ℕ) → AimForm → ChoiceForm → LogicalStructure
chosen s pred aim choice = chosen_over s pred aim (members s.individuals choice)
