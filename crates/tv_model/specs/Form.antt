-- Formulas as mathematical values: what a `Formula` of the program says, without its boxes.
use Rattle.std.specs.Prelude.{ℕ, ◌≡◌, ◌≢◌, ◌⊎◌, ◌+◌, ◌++◌, max, List, [], ◌∷◌, Contains}
use Rattle.tv_model.specs.declared.formula.Terms.{Terms}
use Rattle.tv_model.specs.declared.formula.Terms.TheVariants.{Zero as none, One as one, Two as two}
use Rattle.tv_model.specs.declared.formula.Formula.{Formula}
use Rattle.tv_model.specs.declared.formula.Formula.TheVariants.{Zero, One, Atom, IsNew, Same, Not', And', Or'}
use Rattle.tv_model.specs.declared.formula.Formula.TheVariants.{Iff', Cond', Exists', Forall', Closure'}

-- a formula; variables and predicates are plain numbers, and an atom has the list of its variables
pub data Form : Type 0 where
  FZero : Form
  FOne : Form
  FAtom : (pred : ℕ) → (vars : List ℕ) → Form
  FIsNew : ℕ → Form
  FSame : ℕ → ℕ → Form
  FNot : Form → Form
  FAnd : Form → Form → Form
  FOr : Form → Form → Form
  FIff : Form → Form → Form
  FCond : Form → Form → Form → Form
  FExists : ℕ → Form → Form
  FForall : ℕ → Form → Form
  FClosure : (from to left right : ℕ) → Form → Form

-- the list of the variables of an atom
abbrev pub vars_of : Terms → List ℕ
vars_of none = []
vars_of (one v) = v.0 ∷ []
vars_of (two v w) = v.0 ∷ w.0 ∷ []

-- what a formula of the program says
abbrev pub form_of : Formula → Form
form_of Zero = FZero
form_of One = FOne
form_of (Atom p ts) = FAtom p.0 (vars_of ts)
form_of (IsNew v) = FIsNew v.0
form_of (Same v w) = FSame v.0 w.0
form_of (Not' p f) = FNot (form_of f)
form_of (And' p f q g) = FAnd (form_of f) (form_of g)
form_of (Or' p f q g) = FOr (form_of f) (form_of g)
form_of (Iff' p f q g) = FIff (form_of f) (form_of g)
form_of (Cond' p c q f r g) = FCond (form_of c) (form_of f) (form_of g)
form_of (Exists' v p f) = FExists v.0 (form_of f)
form_of (Forall' v p f) = FForall v.0 (form_of f)
form_of (Closure' from to left right p f) = FClosure from.0 to.0 left.0 right.0 (form_of f)

-- the variable v stands free in the formula
abbrev pub IsFree : ℕ → Form → Type 0
IsFree v FZero = ⊥
IsFree v FOne = ⊥
IsFree v (FAtom p vars) = Contains vars v
IsFree v (FIsNew w) = v ≡ w
IsFree v (FSame w u) = (v ≡ w) ⊎ (v ≡ u)
IsFree v (FNot f) = IsFree v f
IsFree v (FAnd f g) = IsFree v f ⊎ IsFree v g
IsFree v (FOr f g) = IsFree v f ⊎ IsFree v g
IsFree v (FIff f g) = IsFree v f ⊎ IsFree v g
IsFree v (FCond c f g) = IsFree v c ⊎ IsFree v f ⊎ IsFree v g
IsFree v (FExists w f) = (v ≢ w) × IsFree v f
IsFree v (FForall w f) = (v ≢ w) × IsFree v f
IsFree v (FClosure from to left right f) =
    (v ≡ from) ⊎ (v ≡ to) ⊎ ((v ≢ left) × (v ≢ right) × IsFree v f)

-- an atom of the formula has the predicate p
abbrev pub Mentions : ℕ → Form → Type 0
Mentions p FZero = ⊥
Mentions p FOne = ⊥
Mentions p (FAtom q vars) = p ≡ q
Mentions p (FIsNew w) = ⊥
Mentions p (FSame w u) = ⊥
Mentions p (FNot f) = Mentions p f
Mentions p (FAnd f g) = Mentions p f ⊎ Mentions p g
Mentions p (FOr f g) = Mentions p f ⊎ Mentions p g
Mentions p (FIff f g) = Mentions p f ⊎ Mentions p g
Mentions p (FCond c f g) = Mentions p c ⊎ Mentions p f ⊎ Mentions p g
Mentions p (FExists w f) = Mentions p f
Mentions p (FForall w f) = Mentions p f
Mentions p (FClosure from to left right f) = Mentions p f

-- the predicates that the atoms of a formula have, in reading order, each as often as it stands there
abbrev pub mentioned : Form → List ℕ
mentioned (FAtom q vars) = q ∷ []
mentioned (FNot f) = mentioned f
mentioned (FAnd f g) = mentioned f ++ mentioned g
mentioned (FOr f g) = mentioned f ++ mentioned g
mentioned (FIff f g) = mentioned f ++ mentioned g
mentioned (FCond c f g) = mentioned c ++ mentioned f ++ mentioned g
mentioned (FExists v f) = mentioned f
mentioned (FForall v f) = mentioned f
mentioned (FClosure from to left right f) = mentioned f
mentioned other = []

-- the height of the formula's tree, 1 for a leaf
abbrev pub height : Form → ℕ
height FZero = 1
height FOne = 1
height (FAtom p vars) = 1
height (FIsNew v) = 1
height (FSame v w) = 1
height (FNot f) = height f + 1
height (FAnd f g) = max (height f) (height g) + 1
height (FOr f g) = max (height f) (height g) + 1
height (FIff f g) = max (height f) (height g) + 1
height (FCond c f g) = max (height c) (max (height f) (height g)) + 1
height (FExists v f) = height f + 1
height (FForall v f) = height f + 1
height (FClosure from to left right f) = height f + 1
