-- Focus atoms of a formula, and the anchors by which they split a structure.
use Rattle.std.specs.Prelude.{ℕ, Bool, ◌==◌, ◌&&◌, not, List, [], ◌∷◌, ◌++◌, fold, filter}
use Rattle.std.specs.Prelude.{if◌then◌else◌}
use Rattle.std.specs.List.{list_any}
use Rattle.tv_kleene.specs.Kleene.{is_yes}
use Rattle.tv_model.specs.Form.{Form, FZero, FOne, FAtom, FIsNew, FSame, FNot, FAnd, FOr, FIff, FCond}
use Rattle.tv_model.specs.Form.{FExists, FForall, FClosure}
use Rattle.tv_embedding_laws.specs.LogicalStructure.{LogicalStructure}

-- a predicate and its variables
pub record AtomForm : Type 0 where
  pub pred : ℕ
  pub vars : List ℕ

-- the atoms of the formula in reading order, without those under a closure
abbrev pub focus_atoms : Form → List AtomForm
focus_atoms FZero = []
focus_atoms FOne = []
focus_atoms (FAtom pred vars) = record { pred = pred; vars = vars } ∷ []
focus_atoms (FIsNew v) = []
focus_atoms (FSame v w) = []
focus_atoms (FNot f) = focus_atoms f
focus_atoms (FAnd f g) = focus_atoms f ++ focus_atoms g
focus_atoms (FOr f g) = focus_atoms f ++ focus_atoms g
focus_atoms (FIff f g) = focus_atoms f ++ focus_atoms g
focus_atoms (FCond c f g) = focus_atoms c ++ (focus_atoms f ++ focus_atoms g)
focus_atoms (FExists v f) = focus_atoms f
focus_atoms (FForall v f) = focus_atoms f
focus_atoms (FClosure from to left right f) = []

-- a variable and the anchors that it was given
pub record AnchorsForm : Type 0 where
  pub var : ℕ
  pub anchors : List ℕ

-- the individuals that pass the test and are no summaries
abbrev pub ordinary : LogicalStructure → (ℕ → Bool) → List ℕ
ordinary s test = filter (λ u. not (s.is_summary u) && test u) s.individuals

-- whether the variable was given anchors, though it be none
abbrev pub is_anchored : List AnchorsForm → ℕ → Bool
is_anchored given v = list_any (λ one. one.var == v) given

-- the anchors of the variable
abbrev pub anchors_of : List AnchorsForm → ℕ → List ℕ
anchors_of [] v = []
anchors_of (one ∷ given) v = if one.var == v then one.anchors else anchors_of given v

-- the variables given anchors so far, and this one
abbrev pub and_given : List AnchorsForm → ℕ → List ℕ → List AnchorsForm
and_given given v anchors = given ++ record { var = v; anchors = anchors } ∷ []

-- a variable of a unary atom is given the individuals on which its first such atom is Yes
abbrev pub by_unary : LogicalStructure → List AnchorsForm → (pred : ℕ) → (vars : List ℕ) → List AnchorsForm
by_unary s given pred [] = given
by_unary s given pred (v ∷ []) =
    if is_anchored given v then given
    else and_given given v (ordinary s (λ u. is_yes (s.value pred (u ∷ []))))
by_unary s given pred (v ∷ w ∷ more) = given

-- where one variable of a binary atom was given anchors, the other is given the individuals on which the
-- atom is Yes together with one of these
abbrev pub by_binary : LogicalStructure → List AnchorsForm → (pred : ℕ) → (vars : List ℕ) → List AnchorsForm
by_binary s given pred [] = given
by_binary s given pred (v ∷ []) = given
by_binary s given pred (v ∷ w ∷ []) =
    if is_anchored given v
    then (if is_anchored given w then given
    else and_given given w
    (ordinary s (λ u. list_any (λ a. is_yes (s.value pred (a ∷ u ∷ []))) (anchors_of given v))))
    else (if is_anchored given w
    then and_given given v
    (ordinary s (λ u. list_any (λ a. is_yes (s.value pred (u ∷ a ∷ []))) (anchors_of given w)))
    else given)
by_binary s given pred (v ∷ w ∷ x ∷ more) = given

-- the variables of the atoms with their anchors, in the order in which they are given: those of unary
-- atoms first, then those of binary atoms
abbrev pub anchors_in : LogicalStructure → List AtomForm → List AnchorsForm
anchors_in s atoms =
    fold (λ given atom. by_binary s given atom.pred atom.vars)
    (fold (λ given atom. by_unary s given atom.pred atom.vars) [] atoms) atoms
