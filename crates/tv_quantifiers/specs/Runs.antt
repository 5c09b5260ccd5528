-- Runs of quantifiers one in the other, gone through like an odometer: each variable stands for an
-- individual, and the innermost one is the first to move on.
use Rattle.std.specs.Prelude.{ℕ, ◌≡◌, ◌<◌, ◌+◌, ◌-◌, ◌*◌, List, [], ◌∷◌, max}
use Rattle.std.specs.List.{range_with_len}
use Rattle.tv_kleene.specs.declared.K3.{K3}
use Rattle.tv_kleene.specs.declared.K3.TheVariants.{No}
use Rattle.tv_kleene.specs.Kleene.{larger_of}
use Rattle.tv_model.specs.Form.{Form, FZero, FOne, FAtom, FIsNew, FSame, FNot, FAnd, FOr, FIff, FCond}
use Rattle.tv_model.specs.Form.{FExists, FForall, FClosure, IsFree}
use Rattle.tv_model.specs.Truth.{Assignment, put}
use Rattle.tv_model.specs.Valid.{IsFormulaOver, IsVariable}
use Rattle.tv_embedding_laws.specs.LogicalStructure.{LogicalStructure}
use Rattle.tv_eval_laws.specs.Value.{value, greatest_of}
use Rattle.tv_quantifiers.specs.declared.runs.Level.{Level}
use Rattle.tv_quantifiers.specs.Quantified.{quantified, turned}

-- how many closures stand inside one another, at most
abbrev pub nesting : Form → ℕ
nesting FZero = 0
nesting FOne = 0
nesting (FAtom q vars) = 0
nesting (FIsNew v) = 0
nesting (FSame v w) = 0
nesting (FNot f) = nesting f
nesting (FAnd f g) = max (nesting f) (nesting g)
nesting (FOr f g) = max (nesting f) (nesting g)
nesting (FIff f g) = max (nesting f) (nesting g)
nesting (FCond c f g) = max (nesting c) (max (nesting f) (nesting g))
nesting (FExists v f) = nesting f
nesting (FForall v f) = nesting f
nesting (FClosure from to left right f) = nesting f + 1

-- the formula under the quantifiers of a run, the first outermost
abbrev pub under_run : List Level → Form → Form
under_run [] f = f
under_run (l ∷ ls) f = quantified l.quantifier l.var.0 (under_run ls f)

-- the assignment with the individuals at hand put for the variables
abbrev pub placed : Assignment → List Level → Assignment
placed a [] = a
placed a (l ∷ ls) = placed (put a l.var.0 l.at) ls

-- the value of the whole, where k is that of the formula for the individuals at hand: at each quantifier what
-- the individuals before give, what the one at hand gives, and the values of those behind it
abbrev pub owed : LogicalStructure → (size : ℕ) → Assignment → List Level → Form → K3 → K3
owed s size a [] f k = k
owed s size a (l ∷ ls) f k =
    turned l.quantifier
    (larger_of l.found (larger_of (turned l.quantifier (owed s size (put a l.var.0 l.at) ls f k))
    (greatest_of (λ u. turned l.quantifier (value s (put a l.var.0 u) (under_run ls f)))
    (range_with_len (l.at + 1) (size - (l.at + 1))))))

-- nothing is found yet: each variable stands for the first individual
abbrev pub AreFresh : List Level → Type 0
AreFresh [] = Unit {0}
AreFresh (l ∷ ls) = (l.at ≡ 0) × (l.found ≡ No) × AreFresh ls

-- each variable stands for an individual
abbrev pub AreWithin : (size : ℕ) → List Level → Type 0
AreWithin size [] = Unit {0}
AreWithin size (l ∷ ls) = (l.at < size) × AreWithin size ls

-- the variables are those of formulas
abbrev pub AreVariables : List Level → Type 0
AreVariables [] = Unit {0}
AreVariables (l ∷ ls) = IsVariable l.var.0 × AreVariables ls

-- for how many lists of individuals the formula is looked at, at most, if nothing is found yet
abbrev pub turns : (size : ℕ) → List Level → ℕ
turns size [] = 1
turns size (l ∷ ls) = size * turns size ls

-- for how many it still is, at most, behind those at hand
abbrev pub left : (size : ℕ) → List Level → ℕ
left size [] = 0
left size (l ∷ ls) = (size - (l.at + 1)) * turns size ls + left size ls

-- the run over the part stands for the whole, over each structure with individuals
pub record IsOpened (whole : Form) (levels : List Level) (part : Form) : Type 0 where
  pub fresh : AreFresh levels
  pub values : (s : LogicalStructure) (a : Assignment) (u : ℕ) (us : List ℕ) → s.individuals ≡ u ∷ us
      → value s a (under_run levels part) ≡ value s a whole
  pub free : (v : ℕ) → IsFree v (under_run levels part) → IsFree v whole
  pub over : (arities : List ℕ) → IsFormulaOver arities whole → IsFormulaOver arities (under_run levels part)
  pub closures : nesting (under_run levels part) ≡ nesting whole
