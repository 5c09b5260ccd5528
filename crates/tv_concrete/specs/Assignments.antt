-- Rules by all choices of individuals for their variables.
use Rattle.std.specs.Prelude.{ℕ, List, [], ◌∷◌, ◌++◌, Contains}
use Rattle.tv_model.specs.Form.{Form, FZero, FOne, FAtom, FIsNew, FSame, FNot, FAnd, FOr, FIff, FCond}
use Rattle.tv_model.specs.Form.{FExists, FForall, FClosure}
use Rattle.tv_model.specs.Heap.{Heap}
use Rattle.tv_model.specs.Program.{RuleForm, HeadForm, HNever, HAtom, HSame, rule_of}
use Rattle.tv_model.specs.Rules.{head_formula}
use Rattle.tv_model.specs.Truth.{Assignment, Truth, put}
use Rattle.tv_concrete.specs.declared.rules.Trial.{Trial}
use Rattle.tv_concrete.specs.Lists.{heap_of}

-- P holds of the assignment however individuals are put for the variables
abbrev pub EachPut : Heap → List ℕ → Assignment → (Assignment → Type 0) → Type 0
EachPut h [] a P = P a
EachPut h (v ∷ vars) a P = (u : ℕ) → Contains h.individuals u → EachPut h vars (put a v u) P

-- the rule is true under the assignment
abbrev pub RuleTruth : Heap → RuleForm → Assignment → Type 0
RuleTruth h rule a = Truth h a rule.body → Truth h a (head_formula rule.head)

-- the tried rule is true however individuals are put for the variables
abbrev pub IsTrueFrom : Trial → List ℕ → Assignment → Type 0
IsTrueFrom trial vars a =
    EachPut (heap_of trial.heap.now) vars a (RuleTruth (heap_of trial.heap.now) (rule_of trial.rule.now))

-- the variables of the formula, but for those that are only bound
abbrev pub variables_in : Form → List ℕ
variables_in FZero = []
variables_in FOne = []
variables_in (FAtom q vars) = vars
variables_in (FIsNew v) = v ∷ []
variables_in (FSame v w) = v ∷ w ∷ []
variables_in (FNot f) = variables_in f
variables_in (FAnd f g) = variables_in f ++ variables_in g
variables_in (FOr f g) = variables_in f ++ variables_in g
variables_in (FIff f g) = variables_in f ++ variables_in g
variables_in (FCond c f g) = variables_in c ++ variables_in f ++ variables_in g
variables_in (FExists v f) = variables_in f
variables_in (FForall v f) = variables_in f
variables_in (FClosure from to left right f) = (from ∷ to ∷ []) ++ variables_in f

abbrev pub head_variables : HeadForm → List ℕ
head_variables HNever = []
head_variables (HAtom flag q vars) = vars
head_variables (HSame flag v w) = v ∷ w ∷ []
